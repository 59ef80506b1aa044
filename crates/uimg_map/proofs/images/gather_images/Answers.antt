use Rattle.std.proofs.Common.{rules, ◌≡◌, ◌≤◌, ◌+◌, ◌*◌, ◌++◌, ◌∷◌, [], ◌∙◌, ℕ, List, Option, Some, length, length-append, ap, sym, subst, arith}
use Rattle.std.specs.List.{All}
use Rattle.std.proofs.lemmas.List.Elements.{All-push}
use Rattle.uimg_base.specs.Held.{Held}
use Rattle.uimg_blob_reading.specs.{LookUps.NodeOf, Roles.in_images, Rows.table, Spots.Spot}
use Rattle.uimg_fit_checking.proofs.SurveyLaws.{all_gathered, one_gathered}
use Rattle.uimg_fit_reading.specs.Nodes.{AreFrom, InFile}
use Rattle.uimg_fit_reading.proofs.ImageLaws.{front, none_left}
use Rattle.uimg_map.specs.{Images.{ImageInside, read_image, told_by}, Signatures.covering_cost, declared.images.Image.Image}
use Rattle.uimg_map.proofs.ImageLaws.{gathered_size, one_paid, opened_still}
use Rattle.uimg_signing.proofs.CostLaws.{more_asked, within_asked}
use Rattle.uimg_map.proofs.images.gather_images.Goals as goal

pub loop-next-preserved : goal.loop-next-preserved
loop-next-preserved g c =
    let device = g.S.Source.device in
    let d = device c.args.source.now in
    let now = c.loop-next in
    let same = now.invariant.same in
    let step = c.in_ok-found.ensures in
    let found = c.in_ok-found.found in
    let ss = c.args.signatures.now in
    let pushed : c.push.new.self.items ≡ now.images.items ++ found ∷ [] = search rules in
    record {
      same = record { bytes = c.image_of.ensures.uses.same.bytes ∙ same.bytes; honest = c.image_of.ensures.uses.same.honest ∙ same.honest };
      failures = search rules;
      room = c.image_of.ensures.room ∙ now.invariant.room;
      within = search rules;
      inside = λ size ends.
          subst (λ (l : List Image). All (ImageInside size) l) (sym pushed)
          (All-push (ImageInside size) now.images.items found (now.invariant.inside size ends) (step.inside size (subst (λ (h : Held). InFile size c.args.blob.now h.entries) (sym now.invariant.room) ends)));
      asked = λ t opened all from.
          let k = now.invariant.left t opened all from in
          let begins = subst (λ (o : Option ℕ). AreFrom t in_images o k.left) c.in-Some.is k.at in
          let f = front t in_images c.in-Some.image k.left begins in
          let still = opened_still d (device now.source) c.args.blob.now c.args.room.now now.room t same now.invariant.room opened in
          let cost = covering_cost d.bytes (table t) ss in
          let more = subst (λ (file : List ℕ). (device c.image_of.new.source).asked ≤ (device now.source).asked + covering_cost file (table t) ss) same.bytes (c.image_of.ensures.asked t still f.image f.node) in
          let count : length c.push.new.self.items ≡ length now.images.items + 1 = omega (arith, ap (λ (l : List Image). length l) pushed, length-append now.images.items (found ∷ [])) in
          subst (λ (n : ℕ). (device c.image_of.new.source).asked ≤ d.asked + n * cost) (sym count)
          (more_asked d.asked (device now.source).asked (device c.image_of.new.source).asked (length now.images.items) cost (now.invariant.asked t opened all from) more);
      left = λ t opened all from.
          let k = now.invariant.left t opened all from in
          let begins = subst (λ (o : Option ℕ). AreFrom t in_images o k.left) c.in-Some.is k.at in
          let f = front t in_images c.in-Some.image k.left begins in
          let still = opened_still d (device now.source) c.args.blob.now c.args.room.now now.room t same now.invariant.room opened in
          let after = opened_still d (device c.image_of.new.source) c.args.blob.now c.args.room.now c.image_of.new.room t
          (record { bytes = c.image_of.ensures.uses.same.bytes ∙ same.bytes; honest = c.image_of.ensures.uses.same.honest ∙ same.honest }) (c.image_of.ensures.room ∙ now.invariant.room) opened in
          let told = subst (λ (file : List ℕ). read_image file found ≡ told_by file (table t) ss f.image) same.bytes (step.said t still f.image f.node) in
          one_gathered (AreFrom t in_images) (read_image d.bytes) (told_by d.bytes (table t) ss) all now.images.items _ found _ _ k f.image f.more f.are told pushed
          (c.next_of-next.ensures.next t after.read.indexed in_images f.image f.more (subst (λ (l : List (NodeOf Spot)). AreFrom t in_images (Some c.in-Some.image) l) f.are begins));
    }

pub returns-clause-said : goal.returns-clause-said
returns-clause-said g c = λ t opened all from.
    let d = g.S.Source.device c.args.source.now in
    let k = c.loop-next.invariant.left t opened all from in
    let ended = none_left t in_images k.left (subst (λ (o : Option ℕ). AreFrom t in_images o k.left) c.in_default.is k.at) in
    all_gathered (AreFrom t in_images) (read_image d.bytes) (told_by d.bytes (table t) c.args.signatures.now) all c.loop-next.images.items _ k ended

pub returns-clause-asked : goal.returns-clause-asked
returns-clause-asked g c = λ t opened all from.
    let device = g.S.Source.device in
    let d = device c.args.source.now in
    let now = c.loop-next in
    let k = now.invariant.left t opened all from in
    let size = gathered_size (AreFrom t in_images) (read_image d.bytes) (told_by d.bytes (table t) c.args.signatures.now) now.images.items _ all k in
    within_asked d.asked (device now.source).asked (length now.images.items) (length all) (covering_cost d.bytes (table t) c.args.signatures.now) (now.invariant.asked t opened all from) (omega (arith, size))

pub returns-in_err-found-clause-asked : goal.returns-in_err-found-clause-asked
returns-in_err-found-clause-asked g c = λ t opened all from.
    let device = g.S.Source.device in
    let d = device c.args.source.now in
    let now = c.loop-next in
    let ss = c.args.signatures.now in
    let cost = covering_cost d.bytes (table t) ss in
    let k = now.invariant.left t opened all from in
    let begins = subst (λ (o : Option ℕ). AreFrom t in_images o k.left) c.in-Some.is k.at in
    let f = front t in_images c.in-Some.image k.left begins in
    let still = opened_still d (device now.source) c.args.blob.now c.args.room.now now.room t now.invariant.same now.invariant.room opened in
    let more = subst (λ (file : List ℕ). (device c.image_of.new.source).asked ≤ (device now.source).asked + covering_cost file (table t) ss) now.invariant.same.bytes (c.image_of.ensures.asked t still f.image f.node) in
    let size = gathered_size (AreFrom t in_images) (read_image d.bytes) (told_by d.bytes (table t) ss) now.images.items _ all k in
    one_paid d.asked (device now.source).asked (device c.image_of.new.source).asked (length now.images.items) (length k.left) (length all) cost size (omega (arith, ap (λ (l : List (NodeOf Spot)). length l) f.are)) (now.invariant.asked t opened all from) more

pub returns-then-is_err-clause-asked : goal.returns-then-is_err-clause-asked
returns-then-is_err-clause-asked g c = λ t opened all from.
    let device = g.S.Source.device in
    let d = device c.args.source.now in
    let now = c.loop-next in
    let ss = c.args.signatures.now in
    let cost = covering_cost d.bytes (table t) ss in
    let k = now.invariant.left t opened all from in
    let begins = subst (λ (o : Option ℕ). AreFrom t in_images o k.left) c.in-Some.is k.at in
    let f = front t in_images c.in-Some.image k.left begins in
    let still = opened_still d (device now.source) c.args.blob.now c.args.room.now now.room t now.invariant.same now.invariant.room opened in
    let more = subst (λ (file : List ℕ). (device c.image_of.new.source).asked ≤ (device now.source).asked + covering_cost file (table t) ss) now.invariant.same.bytes (c.image_of.ensures.asked t still f.image f.node) in
    let size = gathered_size (AreFrom t in_images) (read_image d.bytes) (told_by d.bytes (table t) ss) now.images.items _ all k in
    one_paid d.asked (device now.source).asked (device c.image_of.new.source).asked (length now.images.items) (length k.left) (length all) cost size (omega (arith, ap (λ (l : List (NodeOf Spot)). length l) f.are)) (now.invariant.asked t opened all from) more
