use Rattle.std.proofs.Common.{rules, refl, ℕ, List, Option, Some, ap, sym, ◌∙◌, subst}
use Rattle.uimg_blob_reading.specs.LookUps.{NodeOf}
use Rattle.uimg_blob_reading.specs.Roles.{in_images}
use Rattle.uimg_blob_reading.specs.Spots.{Spot}
use Rattle.uimg_fit_reading.specs.Nodes.{AreFrom}
use Rattle.uimg_fit_reading.proofs.ImageLaws.{front, none_left}
use Rattle.uimg_fit_reading.proofs.OpenedLaws.{still}
use Rattle.uimg_strict.specs.Looseness.{LooseSaid, external_place, end_after}
use Rattle.uimg_strict.specs.Telling.{TellsLoose}
use Rattle.uimg_strict.proofs.PlacementLaws.{placed_later, placed_wrong, placed_all}
use Rattle.uimg_strict.proofs.placement.first_misplaced.Goals as goal

pub loop-next-preserved : goal.loop-next-preserved
loop-next-preserved g c =
    let now = c.loop-next in
    let file = (g.S.Source.device c.args.source.now).bytes in
    let uses = c.in_ok-place.ensures.uses in
    record {
      same = record { bytes = uses.same.bytes ∙ now.invariant.same.bytes; honest = uses.same.honest ∙ now.invariant.same.honest };
      failures = uses.failures ∙ now.invariant.failures;
      within = search rules;
      left = λ t o all from.
          let k = now.invariant.left t o all from in
          let begins = subst (λ (n : Option ℕ). AreFrom t in_images n k.left) c.in-Some.is k.from in
          let f = front t in_images c.in-Some.image k.left begins in
          let told = sym c.in-Some-end_after.is ∙ c.end_after.ensures
          ∙ ap (λ p. end_after p now.end) (c.in_ok-place.ensures.told t (still now.invariant.same refl o) f.image f.node)
          ∙ ap (λ (xs : List ℕ). end_after (external_place xs f.image) now.end) now.invariant.same.bytes in
          record {
            left = f.more;
            from = c.next_of-next.ensures.next t o.read.indexed in_images f.image f.more (subst (λ (l : List (NodeOf Spot)). AreFrom t in_images (Some c.in-Some.image) l) f.are begins);
            is = placed_later file now.end c.in-Some-end_after.later k.left f.more f.image f.are told ∙ k.is;
          };
    }

pub returns-in-None-clause-told : goal.returns-in-None-clause-told
returns-in-None-clause-told g c = λ t o all from.
    let now = c.loop-next in
    let file = (g.S.Source.device c.args.source.now).bytes in
    let same = c.in_ok-place.ensures.uses.same in
    let k = now.invariant.left t o all from in
    let f = front t in_images c.in-Some.image k.left (subst (λ (n : Option ℕ). AreFrom t in_images n k.left) c.in-Some.is k.from) in
    let here = still now.invariant.same refl o in
    let told = sym c.in-None.is ∙ c.end_after.ensures
    ∙ ap (λ p. end_after p now.end) (c.in_ok-place.ensures.told t here f.image f.node)
    ∙ ap (λ (xs : List ℕ). end_after (external_place xs f.image) now.end) now.invariant.same.bytes in
    subst (λ (x : Option LooseSaid). TellsLoose x c.in_image.result) (placed_wrong file now.end k.left f.more f.image f.are told ∙ k.is)
    (c.in_image.ensures.told t (still same refl here) f.image f.node)

pub returns-clause-told : goal.returns-clause-told
returns-clause-told g c = λ t o all from.
    let now = c.loop-next in
    let k = now.invariant.left t o all from in
    placed_all (g.S.Source.device c.args.source.now).bytes now.end k.left (none_left t in_images k.left (subst (λ (n : Option ℕ). AreFrom t in_images n k.left) c.in_default.is k.from)) ∙ k.is
