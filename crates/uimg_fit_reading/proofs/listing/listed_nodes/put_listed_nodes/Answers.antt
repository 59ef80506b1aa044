use Rattle.std.proofs.Common.{◌≤◌, ◌<◌, ◌+◌, ℕ, List, length, Option, Some, IfSome, true, ap, subst, false, arith, Err}
use Rattle.uimg_base.specs.Held.{Held}
use Rattle.uimg_blob_reading.specs.{LookUps.NodeOf, Roles.Level, Spots.Spot}
use Rattle.uimg_fit_reading.specs.{Allowances.node_allowance, Listing.numbered_lines, Nodes.AreFrom}
use Rattle.uimg_fit_reading.specs.{NodeLines.{level_of, node_lines}, Telling.ListsBetween}
use Rattle.uimg_fit_reading.proofs.{ImageLaws.{front, none_left}, OpenedLaws.stays}
use Rattle.uimg_fit_reading.proofs.PassedLaws.{failed_of, leaves_stops, leaves_then}
use Rattle.uimg_fit_reading.proofs.TellingLaws.{left_more, left_fails, left_ends, numbered_more, numbered_none, within_next, none_after, same_level}
use Rattle.uimg_fit_reading.proofs.listing.listed_nodes.put_listed_nodes.Goals as goal
use Rattle.uimg_fit_reading.specs.NodeLines.{naming_of}

pub returns-in_default-clause-told : goal.returns-in_default-clause-told
returns-in_default-clause-told g c = λ t o all at.
    let file = (g.S.Source.device c.args.fit.now.source.now).bytes in
    let kind = c.args.kind in
    let left = c.loop-number.invariant.left t o all at in
    let ended = none_left t (level_of kind) left.rest (subst (λ (o : Option ℕ). AreFrom t (level_of kind) o left.rest) c.in_default.is left.at) in
    left_ends (naming_of kind) (AreFrom t (level_of kind)) (numbered_lines (node_lines file kind)) c.loop-number.number c.loop-number.next _ _ _ _ all left ended (numbered_none (node_lines file kind) c.loop-number.number)

pub returns-in_err-put_listed-clause-told : goal.returns-in_err-put_listed-clause-told
returns-in_err-put_listed-clause-told g c = λ t o all at.
    let failed = failed_of c.from_residual.result c.from_residual.ensures.0 in
    let file = (g.S.Source.device c.args.fit.now.source.now).bytes in
    let kind = c.args.kind in
    let number = c.loop-number.number in
    let leaves = c.loop-number.invariant.leaves in
    let left = c.loop-number.invariant.left t o all at in
    let f = front t (level_of kind) c.in-Some.node left.rest (subst (λ (o : Option ℕ). AreFrom t (level_of kind) o left.rest) c.in-Some.is left.at) in
    let here = stays leaves.keeps o in
    let told = subst (λ (w : List ℕ). ListsBetween true (node_allowance (naming_of kind) f.image) (g.S.Source.device c.loop-number.fit.source.now) (g.S.Source.device c.put_listed.new.fit.source.now) c.loop-number.out c.put_listed.new.out (node_lines w kind number f.image)) leaves.keeps.uses.same.bytes
    (c.in_err-put_listed.ensures.told t here f.image f.node) in
    rw failed (left_fails (naming_of kind) (AreFrom t (level_of kind)) (numbered_lines (node_lines file kind)) number (number + 1) c.loop-number.next _ _ _ _ _ _ all left f.image f.more (node_lines file kind number f.image) f.are (numbered_more (node_lines file kind) number f.image f.more) told)

pub loop-number-preserved : goal.loop-number-preserved
loop-number-preserved g c =
    let file = (g.S.Source.device c.args.fit.now.source.now).bytes in
    let kind = c.args.kind in
    let number = c.loop-number.number in
    let leaves = c.loop-number.invariant.leaves in
    let here_now = subst (λ (o : Option ℕ). IfSome o (λ i. (number ≤ i) × (i < length c.loop-number.fit.room.now.entries))) c.in-Some.is c.loop-number.invariant.within in
    record {
      within = within_next c.next_of-next.result number c.in-Some.node _ here_now.0 c.next_of-next.ensures.later c.next_of-next.ensures.within;
      leaves = leaves_then tt _ leaves c.in_ok-put_listed.ensures.leaves;
      left = λ t o all at.
          let left = c.loop-number.invariant.left t o all at in
          let begins = subst (λ (o : Option ℕ). AreFrom t (level_of kind) o left.rest) c.in-Some.is left.at in
          let f = front t (level_of kind) c.in-Some.node left.rest begins in
          let here = stays leaves.keeps o in
          let then = stays c.put_listed.ensures.leaves.keeps here in
          let told = subst (λ (w : List ℕ). ListsBetween false (node_allowance (naming_of kind) f.image) (g.S.Source.device c.loop-number.fit.source.now) (g.S.Source.device c.put_listed.new.fit.source.now) c.loop-number.out c.put_listed.new.out (node_lines w kind number f.image)) leaves.keeps.uses.same.bytes
          (c.in_ok-put_listed.ensures.told t here f.image f.node) in
          let next = c.next_of-next.ensures.next t then.read.indexed (level_of kind) f.image f.more (subst (λ (l : List (NodeOf Spot)). AreFrom t (level_of kind) (Some c.in-Some.node) l) f.are begins) in
          left_more (naming_of kind) (AreFrom t (level_of kind)) (numbered_lines (node_lines file kind)) number (number + 1) c.loop-number.next c.next_of-next.result _ _ _ _ _ _ all left f.image f.more (node_lines file kind number f.image) f.are
          (numbered_more (node_lines file kind) number f.image f.more) told (subst (λ (l : Level). AreFrom t l c.next_of-next.result f.more) (same_level kind f.image.name) next);
    }

pub returns-clause-told : goal.returns-clause-told
returns-clause-told g c = λ t o all at.
    let file = (g.S.Source.device c.args.fit.now.source.now).bytes in
    let kind = c.args.kind in
    let left = c.loop-number.invariant.left t o all at in
    let full : length c.loop-number.fit.room.now.entries ≤ c.loop-number.number = omega (arith, c.loop-number-test.false, ap (λ (r : Held). length r.entries) c.loop-number.invariant.leaves.keeps.room, c.count-number-end.ensures) in
    let none_next = none_after c.loop-number.next c.loop-number.number _ full c.loop-number.invariant.within in
    let ended = none_left t (level_of kind) left.rest (subst (λ (o : Option ℕ). AreFrom t (level_of kind) o left.rest) none_next left.at) in
    left_ends (naming_of kind) (AreFrom t (level_of kind)) (numbered_lines (node_lines file kind)) c.loop-number.number c.loop-number.next _ _ _ _ all left ended (numbered_none (node_lines file kind) c.loop-number.number)

pub returns-in_err-put_listed-clause-leaves : goal.returns-in_err-put_listed-clause-leaves
returns-in_err-put_listed-clause-leaves g c =
    let k = c.loop-number.invariant in
    leaves_stops _ _ c.from_residual.ensures.1
    (leaves_then {X = Unit} tt (Err c.in_err-put_listed.field-0.0) k.leaves c.in_err-put_listed.ensures.leaves)
