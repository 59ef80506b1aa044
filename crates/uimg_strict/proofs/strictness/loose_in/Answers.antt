use Rattle.std.proofs.Common.{ℕ, List, refl, sym, ap, ◌∙◌}
use Rattle.uimg_texts.specs.Numbers.{be32}
use Rattle.uimg_fit_reading.proofs.OpenedLaws.{still}
use Rattle.uimg_strict.specs.Looseness.{first_misplaced}
use Rattle.uimg_strict.specs.Telling.{read_loose}
use Rattle.uimg_strict.proofs.FoundLaws.{fourth, third_found}
use Rattle.uimg_strict.proofs.strictness.loose_in.Goals as goal

pub returns-then-is_some-3-clause-told : goal.returns-then-is_some-3-clause-told
returns-then-is_some-3-clause-told g c = λ t o found from.
    let d = g.S.Source.device c.args.source.now in
    let leaves = c.in_ok-node.ensures.leaves in
    third_found read_loose c.loose_root-root.result c.in_ok-node.node c.in_ok-image.image _ _ _ _
    (sym c.is_some.ensures ∙ c.if-is_some.false) (c.loose_root-root.ensures d.bytes t o.read)
    (sym c.is_some-2.ensures ∙ c.if-is_some-2.false) (c.in_ok-node.ensures.told t o)
    (sym c.is_some-3.ensures ∙ c.if-is_some-3.true) (c.in_ok-image.ensures.told t (still leaves.uses.same leaves.room o) found from)

pub returns-clause-told : goal.returns-clause-told
returns-clause-told g c = λ t o found from.
    let d = g.S.Source.device c.args.source.now in
    let leaves = c.in_ok-node.ensures.leaves in
    let second = still leaves.uses.same leaves.room o in
    let same = c.in_ok-image.ensures.uses.same in
    fourth read_loose c.loose_root-root.result c.in_ok-node.node c.in_ok-image.image c.in_ok-place.place _ _ _ _
    (sym c.is_some.ensures ∙ c.if-is_some.false) (c.loose_root-root.ensures d.bytes t o.read)
    (sym c.is_some-2.ensures ∙ c.if-is_some-2.false) (c.in_ok-node.ensures.told t o)
    (sym c.is_some-3.ensures ∙ c.if-is_some-3.false) (c.in_ok-image.ensures.told t second found from)
    (c.in_ok-place.ensures.told t (still same refl second) found from
    ∙ ap (λ (xs : List ℕ). first_misplaced xs (be32 xs 4) found) (same.bytes ∙ leaves.uses.same.bytes))
