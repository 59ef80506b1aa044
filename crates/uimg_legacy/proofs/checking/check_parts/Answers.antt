use Rattle.std.proofs.Common.{◌≡◌, ◌∙◌, true, false, sym, rules, arith}
use Rattle.uimg_legacy.specs.Parts.{has_parts}
use Rattle.uimg_legacy.proofs.SourceLaws.{honest_still, reads_by}
use Rattle.uimg_legacy.proofs.CheckingLaws.{placed_truncated, placed_single, placed_listed}
use Rattle.uimg_legacy.proofs.checking.check_parts.Goals as goal

pub returns-then-branch-header : goal.returns-then-branch-header
returns-then-branch-header g c = reads_by (search rules) (search rules) (search rules) (search rules) (λ honest.
    placed_truncated (g.S.Source.device c.args.source.now).bytes c.args.header.now (omega (arith, c.in_ok-size.ensures.length, c.if-branch-header.true)))

pub returns-then-not-has_parts : goal.returns-then-not-has_parts
returns-then-not-has_parts g c =
    let has : has_parts c.args.header.now.kind ≡ false = sym c.has_parts.ensures ∙ c.if-not-has_parts.true in
    reads_by (search rules) (search rules) (search rules) (search rules) (λ honest.
    placed_single (g.S.Source.device c.args.source.now).bytes c.args.header.now (omega (arith, c.in_ok-size.ensures.length, c.if-branch-header.false)) has)

pub returns : goal.returns
returns g c =
    let has : has_parts c.args.header.now.kind ≡ true = sym c.has_parts.ensures ∙ c.if-not-has_parts.false in
    let same = c.in_ok-size.ensures.same in
    reads_by (search rules) (search rules) (search rules) (search rules) (λ honest.
    let told = rw same.bytes at c.check_table.ensures.answer (honest_still same honest) in
    rw (placed_listed (g.S.Source.device c.args.source.now).bytes c.args.header.now (omega (arith, c.in_ok-size.ensures.length, c.if-branch-header.false)) has) told)
