use Rattle.std.proofs.Common.{rules, refl, ℕ, List, Option, Some, sym, ◌∙◌, subst}
use Rattle.uimg_blob_reading.specs.LookUps.{NodeOf}
use Rattle.uimg_blob_reading.specs.Roles.{in_images}
use Rattle.uimg_blob_reading.specs.Spots.{Spot}
use Rattle.uimg_fit_reading.specs.Nodes.{AreFrom}
use Rattle.uimg_fit_reading.proofs.ImageLaws.{front, none_left}
use Rattle.uimg_fit_reading.proofs.OpenedLaws.{still}
use Rattle.uimg_strict.specs.Looseness.{loose_image}
use Rattle.uimg_strict.specs.Telling.{read_loose}
use Rattle.uimg_strict.proofs.FoundLaws.{passed, found, nothing}
use Rattle.uimg_strict.proofs.images.first_loose_image.Goals as goal

pub returns-then-is_some-clause-told : goal.returns-then-is_some-clause-told
returns-then-is_some-clause-told g c = λ t o all from.
    let k = c.loop-next.invariant.left t o all from in
    let f = front t in_images c.in-Some.image k.left (subst (λ (n : Option ℕ). AreFrom t in_images n k.left) c.in-Some.is k.from) in
    found loose_image read_loose all k.left f.more f.image c.in_ok-found.found k.is f.are (sym c.is_some.ensures ∙ c.if-is_some.true)
    (c.in_ok-found.ensures.told t (still c.loop-next.invariant.same refl o) f.image f.node)

pub loop-next-preserved : goal.loop-next-preserved
loop-next-preserved g c =
    let now = c.loop-next in
    let uses = c.in_ok-found.ensures.uses in
    record {
      same = record { bytes = uses.same.bytes ∙ now.invariant.same.bytes; honest = uses.same.honest ∙ now.invariant.same.honest };
      failures = uses.failures ∙ now.invariant.failures;
      within = search rules;
      left = λ t o all from.
          let k = now.invariant.left t o all from in
          let begins = subst (λ (n : Option ℕ). AreFrom t in_images n k.left) c.in-Some.is k.from in
          let f = front t in_images c.in-Some.image k.left begins in
          record {
            left = f.more;
            from = c.next_of-next.ensures.next t o.read.indexed in_images f.image f.more (subst (λ (l : List (NodeOf Spot)). AreFrom t in_images (Some c.in-Some.image) l) f.are begins);
            is = passed loose_image read_loose all k.left f.more f.image c.in_ok-found.found k.is f.are (sym c.is_some.ensures ∙ c.if-is_some.false)
                (c.in_ok-found.ensures.told t (still now.invariant.same refl o) f.image f.node);
          };
    }

pub returns-clause-told : goal.returns-clause-told
returns-clause-told g c = λ t o all from.
    let k = c.loop-next.invariant.left t o all from in
    nothing loose_image all k.left k.is (none_left t in_images k.left (subst (λ (n : Option ℕ). AreFrom t in_images n k.left) c.in_default.is k.from))
