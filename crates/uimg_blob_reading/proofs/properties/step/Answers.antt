use Rattle.std.proofs.Common.{◌≡◌, ◌++◌, ◌∷◌, [], List, length, ap, sym, subst, length-append, rules, arith}
use Rattle.std.{specs.List.All, proofs.lemmas.List.Elements.All-push}
use Rattle.uimg_blob_reading.specs.declared.places.{Met.Met, PropertyPlace.PropertyPlace}
use Rattle.uimg_blob_reading.specs.{Tokens.token_at, Extents.blocks_of}
use Rattle.uimg_blob_reading.specs.Places.{IsMet, MetWithin, Lies, EndsBy}
use Rattle.uimg_blob_reading.proofs.TellLaws.{paid_left, takes_place, takes_nop, takes_edge, takes_strange}
use Rattle.uimg_blob_reading.proofs.properties.step.Goals as goal

pub returns-in_default : goal.returns-in_default
returns-in_default g c =
    let d = g.S.Source.device c.args.source.now in
    record {
      uses = search rules;
      room = search rules;
      ahead = search rules;
      few = search rules;
      ends = search rules;
      takes = λ honest own nops left. paid_left (blocks_of d.bytes c.args.extent) c.args.at own nops d.asked (g.S.Source.device c.meet.new.source).asked (c.meet.ensures.uses.asked honest) left;
    }

pub returns-then-is_err : goal.returns-then-is_err
returns-then-is_err g c =
    let d = g.S.Source.device c.args.source.now in
    record {
      uses = search rules;
      room = search rules;
      ahead = search rules;
      few = search rules;
      ends = search rules;
      takes = λ honest own nops left. paid_left (blocks_of d.bytes c.args.extent) c.args.at own nops d.asked (g.S.Source.device c.meet.new.source).asked (c.meet.ensures.uses.asked honest) left;
    }

pub returns-else-is_err : goal.returns-else-is_err
returns-else-is_err g c =
    let d = g.S.Source.device c.args.source.now in
    let b = blocks_of d.bytes c.args.extent in
    let at = c.args.at in
    let place = c.in-Place.place in
    let lies : Lies c.args.extent at place = subst (λ (m : Met). MetWithin c.args.extent at m) c.in-Place.is c.in-Ok.ensures.stands in
    let grows : c.push.new.self.items ≡ c.args.places.now.items ++ place ∷ [] = search rules in
    record {
      uses = search rules;
      room = search rules;
      ahead = (omega arith, omega (arith, c.up4.ensures, lies.within));
      few = omega (arith, ap length grows, length-append c.args.places.now.items (place ∷ []));
      ends = λ all.
          subst (λ (l : List PropertyPlace). All (EndsBy c.args.extent.totalsize) l) (sym grows)
          (All-push (EndsBy c.args.extent.totalsize) c.args.places.now.items place all
          (record { name = lies.name; value = omega (arith, lies.value, lies.within, c.requires.inside.structure_within); short = lies.short }));
      takes = λ honest own nops left.
          takes_place b at c.up4.result own nops place c.args.places.now.items c.push.new.self.items d.asked (g.S.Source.device c.meet.new.source).asked
          (subst (λ (m : Met). IsMet d.bytes at (token_at b at) m) c.in-Place.is (c.in-Ok.ensures.met honest)) c.up4.ensures grows (c.meet.ensures.uses.asked honest) left;
    }

pub returns-in-Nop : goal.returns-in-Nop
returns-in-Nop g c =
    let d = g.S.Source.device c.args.source.now in
    let b = blocks_of d.bytes c.args.extent in
    let at = c.args.at in
    record {
      uses = search rules;
      room = search rules;
      ahead = search rules;
      few = search rules;
      ends = search rules;
      takes = λ honest own nops left.
          takes_nop b at own nops c.args.places.now.items d.asked (g.S.Source.device c.meet.new.source).asked
          (subst (λ (m : Met). IsMet d.bytes at (token_at b at) m) c.in-Nop.is (c.in-Ok.ensures.met honest)) (c.meet.ensures.uses.asked honest) left;
    }

pub returns-in-Edge : goal.returns-in-Edge
returns-in-Edge g c =
    let d = g.S.Source.device c.args.source.now in
    let b = blocks_of d.bytes c.args.extent in
    let at = c.args.at in
    record {
      uses = search rules;
      room = search rules;
      ahead = search rules;
      few = search rules;
      ends = search rules;
      takes = λ honest own nops left.
          takes_edge b at own nops c.args.places.now.items d.asked (g.S.Source.device c.meet.new.source).asked
          (subst (λ (m : Met). IsMet d.bytes at (token_at b at) m) c.in-Edge.is (c.in-Ok.ensures.met honest)) (c.meet.ensures.uses.asked honest) left;
    }

pub returns-in-Strange : goal.returns-in-Strange
returns-in-Strange g c =
    let d = g.S.Source.device c.args.source.now in
    let b = blocks_of d.bytes c.args.extent in
    let at = c.args.at in
    record {
      uses = search rules;
      room = search rules;
      ahead = search rules;
      few = search rules;
      ends = search rules;
      takes = λ honest own nops left.
          takes_strange b at own nops (subst (λ (m : Met). IsMet d.bytes at (token_at b at) m) c.in-Strange.is (c.in-Ok.ensures.met honest)) left;
    }
