use Rattle.std.{proofs.Common.{rules, ℕ, List, Option, Some, refl, subst, Err}, specs.List.flat_map}
use Rattle.uimg_blob_reading.specs.{LookUps.NodeOf, Roles.in_image, Spots.Spot}
use Rattle.uimg_texts.specs.declared.naming.Naming.{Naming}
use Rattle.uimg_fit_reading.specs.{Listing.sum_lines, Nodes.AreFrom}
use Rattle.uimg_fit_reading.proofs.{ImageLaws.{front, none_left}, OpenedLaws.stays}
use Rattle.uimg_fit_reading.proofs.TellingLaws.{left_more, left_fails, left_ends}
use Rattle.uimg_fit_reading.proofs.PassedLaws.{failed_of, leaves_stops, leaves_then}
use Rattle.uimg_fit_reading.proofs.listing.sums.put_sums.Goals as goal

abbrev texts : Naming → ℕ → List (NodeOf Spot) → List ℕ
texts naming i ns = flat_map (sum_lines naming) ns

pub returns-in_err-put_sum-clause-told : goal.returns-in_err-put_sum-clause-told
returns-in_err-put_sum-clause-told g c = λ t o all at.
    let failed = failed_of c.from_residual.result c.from_residual.ensures.0 in
    let left = c.loop-next.invariant.left t o all at in
    let f = front t in_image c.in-Some.node left.rest (subst (λ (o : Option ℕ). AreFrom t in_image o left.rest) c.in-Some.is left.at) in
    let here = stays c.loop-next.invariant.leaves.keeps o in
    let told = c.in_err-put_sum.ensures.told t here f.image f.node in
    rw failed (left_fails c.args.naming (AreFrom t in_image) (texts c.args.naming) 0 0 c.loop-next.next _ _ _ _ _ _ all left f.image f.more (sum_lines c.args.naming f.image) f.are refl told)

pub loop-next-preserved : goal.loop-next-preserved
loop-next-preserved g c =
    record {
      within = search rules;
      leaves = leaves_then tt _ c.loop-next.invariant.leaves c.in_ok-put_sum.ensures.leaves;
      left = λ t o all at.
          let left = c.loop-next.invariant.left t o all at in
          let begins = subst (λ (o : Option ℕ). AreFrom t in_image o left.rest) c.in-Some.is left.at in
          let f = front t in_image c.in-Some.node left.rest begins in
          let here = stays c.loop-next.invariant.leaves.keeps o in
          let then = stays c.put_sum.ensures.leaves.keeps here in
          let told = c.in_ok-put_sum.ensures.told t here f.image f.node in
          let next = c.next_of-next.ensures.next t then.read.indexed in_image f.image f.more (subst (λ (l : List (NodeOf Spot)). AreFrom t in_image (Some c.in-Some.node) l) f.are begins) in
          left_more c.args.naming (AreFrom t in_image) (texts c.args.naming) 0 0 c.loop-next.next c.next_of-next.result _ _ _ _ _ _ all left f.image f.more (sum_lines c.args.naming f.image) f.are refl told next;
    }

pub returns-clause-told : goal.returns-clause-told
returns-clause-told g c = λ t o all at.
    let left = c.loop-next.invariant.left t o all at in
    let ended = none_left t in_image left.rest (subst (λ (o : Option ℕ). AreFrom t in_image o left.rest) c.in_default.is left.at) in
    left_ends c.args.naming (AreFrom t in_image) (texts c.args.naming) 0 c.loop-next.next _ _ _ _ all left ended refl

pub returns-in_err-put_sum-clause-leaves : goal.returns-in_err-put_sum-clause-leaves
returns-in_err-put_sum-clause-leaves g c =
    let k = c.loop-next.invariant in
    leaves_stops _ _ c.from_residual.ensures.1
    (leaves_then {X = Unit} tt (Err c.in_err-put_sum.field-0.0) k.leaves c.in_err-put_sum.ensures.leaves)
