use Rattle.std.proofs.Common.{rules, ◌≡◌, ◌∙◌, true, sym, arith}
use Rattle.uimg_legacy.specs.Parts.{has_parts}
use Rattle.uimg_legacy.proofs.SourceLaws.{honest_still, reads_by}
use Rattle.uimg_legacy.proofs.PartsLaws.{part_missing}
use Rattle.uimg_legacy.proofs.parts.find_part.Goals as goal

pub returns-then-position-count-clause-reads : goal.returns-then-position-count-clause-reads
returns-then-position-count-clause-reads g c =
    let has : has_parts c.args.header.now.kind ≡ true = sym c.has_parts.ensures ∙ c.if-not-has_parts.false in
    reads_by (rw has (search rules)) (search rules) (search rules) (search rules) (λ honest.
    let counts = c.in_ok-count.ensures.reads.answer honest in
    rw (has, counts.0) (part_missing _ _ c.args.position (omega (arith, counts.1))))

pub returns-clause-reads : goal.returns-clause-reads
returns-clause-reads g c =
    let has : has_parts c.args.header.now.kind ≡ true = sym c.has_parts.ensures ∙ c.if-not-has_parts.false in
    reads_by (rw has (search rules)) (search rules) (search rules) (search rules) (λ honest.
    let counts = c.in_ok-count.ensures.reads.answer honest in
    let first = c.count_sizes.ensures.reads.uses.same in
    rw (has, counts.0) ((rw first.bytes at c.listed_part.ensures.reads.answer (honest_still first honest)) counts.1))

pub returns-clause-span : goal.returns-clause-span
returns-clause-span g c = λ honest.
    let has : has_parts c.args.header.now.kind ≡ true = sym c.has_parts.ensures ∙ c.if-not-has_parts.false in
    let counts = c.in_ok-count.ensures.reads.answer honest in
    let first = c.count_sizes.ensures.reads.uses.same in
    rw has ((rw first.bytes at c.listed_part.ensures.span (honest_still first honest)) counts.1)
