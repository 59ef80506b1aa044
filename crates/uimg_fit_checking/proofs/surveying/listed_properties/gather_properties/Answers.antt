use Rattle.std.proofs.Common.{rules, ◌≡◌, ◌++◌, ◌∷◌, ℕ, List, [], Option, Some, Ok, Err, Vec, Global, refl, sym, ◌∙◌, subst}
use Rattle.std.specs.List.{All}
use Rattle.std.proofs.lemmas.List.Elements.{All-push}
use Rattle.uimg_base.specs.Held.{Held}
use Rattle.uimg_blob_reading.specs.declared.places.PropertyPlace.{PropertyPlace}
use Rattle.uimg_blob_reading.specs.Indexed.{IsIndexed}
use Rattle.uimg_blob_reading.specs.LookUps.{NodeOf}
use Rattle.uimg_blob_reading.specs.Roles.{in_configurations}
use Rattle.uimg_blob_reading.specs.Spots.{Spot}
use Rattle.uimg_fit_checking.specs.FullSurvey.{PlacesInside, properties_said, read_properties}
use Rattle.uimg_fit_reading.specs.Nodes.{AreFrom}
use Rattle.uimg_fit_reading.proofs.ImageLaws.{front, none_left}
use Rattle.uimg_fit_checking.proofs.FullSurveyLaws.{over_same, one_listed, cut_listed, all_listed}
use Rattle.uimg_fit_checking.proofs.surveying.listed_properties.gather_properties.Goals as goal

pub loop-next-preserved : goal.loop-next-preserved
loop-next-preserved g c =
    let d = g.S.Source.device c.args.source.now in
    let e = g.S.Source.device c.loop-next.source in
    let f = g.S.Source.device c.list_properties.new.source in
    let now = c.loop-next in
    let list = c.list_properties.ensures in
    let places = c.in-Ok.places in
    let grows : c.push.new.self.items ≡ now.lists.items ++ places ∷ [] = search rules in
    record {
      same = record { bytes = list.leaves.uses.same.bytes ∙ now.invariant.same.bytes; honest = list.leaves.uses.same.honest ∙ now.invariant.same.honest };
      failures = c.in-Ok.ensures.leaves.uses.failures ∙ now.invariant.failures;
      room = list.leaves.room ∙ now.invariant.room;
      within = search rules;
      ends = subst (λ (l : List (Vec PropertyPlace Global)). All (PlacesInside c.args.blob.now.totalsize) l) (sym grows)
          (All-push (PlacesInside c.args.blob.now.totalsize) now.lists.items places now.invariant.ends c.in-Ok.ensures.inside);
      left = λ t opened all from.
          let k = now.invariant.left t opened all from in
          let begins = subst (λ (o : Option ℕ). AreFrom t in_configurations o k.gathered.left) c.in-Some.is k.gathered.at in
          let x = front t in_configurations c.in-Some.configuration k.gathered.left begins in
          let told = over_same d e f c.args.blob.now c.args.room.now now.room t c.in-Some.configuration x.image (Ok places) now.invariant.same now.invariant.room c.in-Ok.ensures.told opened x.node in
          one_listed d t all e f now.lists.items c.push.new.self.items places now.next c.next_of-next.result k x.image x.more x.are told grows
          (c.next_of-next.ensures.next t (subst (λ (r : Held). IsIndexed t c.args.blob.now r.entries) (sym (list.leaves.room ∙ now.invariant.room)) opened.read.indexed) in_configurations x.image x.more (subst (λ (l : List (NodeOf Spot)). AreFrom t in_configurations (Some c.in-Some.configuration) l) x.are begins));
    }

pub returns-in-Err-clause-told : goal.returns-in-Err-clause-told
returns-in-Err-clause-told g c = λ t opened all from.
    let d = g.S.Source.device c.args.source.now in
    let e = g.S.Source.device c.loop-next.source in
    let f = g.S.Source.device c.list_properties.new.source in
    let now = c.loop-next in
    let k = now.invariant.left t opened all from in
    let begins = subst (λ (o : Option ℕ). AreFrom t in_configurations o k.gathered.left) c.in-Some.is k.gathered.at in
    let x = front t in_configurations c.in-Some.configuration k.gathered.left begins in
    let told = over_same d e f c.args.blob.now c.args.room.now now.room t c.in-Some.configuration x.image (Err c.in-Err.fault) now.invariant.same now.invariant.room c.in-Err.ensures.told opened x.node in
    record {
      told = told.told;
      asked = cut_listed d t all (read_properties d.bytes) (properties_said x.image) (Err c.in-Err.fault) e f now.lists.items now.next k x.image x.more x.are told;
    }

pub returns-then-is_err-clause-told : goal.returns-then-is_err-clause-told
returns-then-is_err-clause-told g c = λ t opened all from.
    let d = g.S.Source.device c.args.source.now in
    let e = g.S.Source.device c.loop-next.source in
    let f = g.S.Source.device c.list_properties.new.source in
    let now = c.loop-next in
    let k = now.invariant.left t opened all from in
    let begins = subst (λ (o : Option ℕ). AreFrom t in_configurations o k.gathered.left) c.in-Some.is k.gathered.at in
    let x = front t in_configurations c.in-Some.configuration k.gathered.left begins in
    let told = over_same d e f c.args.blob.now c.args.room.now now.room t c.in-Some.configuration x.image (Ok c.in-Ok.places) now.invariant.same now.invariant.room c.in-Ok.ensures.told opened x.node in
    record {
      told = refl;
      asked = cut_listed d t all (read_properties d.bytes) (properties_said x.image) (Ok c.in-Ok.places) e f now.lists.items now.next k x.image x.more x.are told;
    }

pub returns-clause-told : goal.returns-clause-told
returns-clause-told g c = λ t opened all from.
    let now = c.loop-next in
    let k = now.invariant.left t opened all from in
    let ended = none_left t in_configurations k.gathered.left (subst (λ (o : Option ℕ). AreFrom t in_configurations o k.gathered.left) c.in_default.is k.gathered.at) in
    all_listed (g.S.Source.device c.args.source.now) t all (g.S.Source.device now.source) now.lists now.next k ended
