use Rattle.std.proofs.Common.{rules, arith}
use Rattle.uimg_legacy.proofs.{SourceLaws.{honest_still, reads_by}, ChunkLaws.part_read}
use Rattle.uimg_legacy.proofs.{PartsLaws.{part_outside, part_inside}, PlacingLaws.place_is}
use Rattle.uimg_legacy.proofs.parts.listed_part.Goals as goal

pub returns-then-start-len-clause-reads : goal.returns-then-start-len-clause-reads
returns-then-start-len-clause-reads g c = reads_by (search rules) (search rules) (search rules) (search rules) (λ honest count.
    let first = c.sum_first.ensures.uses.same in
    let read = part_read _ c.args.size c.args.count c.args.position _ _ c.requires.data c.requires.table count c.requires.position (c.in_ok-start.ensures.value honest) (rw first.bytes at c.in_ok-len.ensures.size (honest_still first honest)) in
    part_outside _ _ c.args.size c.args.position _ _ c.requires.data (omega (arith, count)) read.0 read.1 c.if-start-len.true)

pub returns-clause-reads : goal.returns-clause-reads
returns-clause-reads g c = reads_by (search rules) (search rules) (search rules) (search rules) (λ honest count.
    let first = c.sum_first.ensures.uses.same in
    let read = part_read _ c.args.size c.args.count c.args.position _ _ c.requires.data c.requires.table count c.requires.position (c.in_ok-start.ensures.value honest) (rw first.bytes at c.in_ok-len.ensures.size (honest_still first honest)) in
    part_inside _ _ c.args.size c.args.position _ _ c.requires.data (omega (arith, count)) read.0 read.1 c.if-start-len.false)

pub returns-clause-span : goal.returns-clause-span
returns-clause-span g c = λ honest count.
    let first = c.sum_first.ensures.uses.same in
    let read = part_read _ c.args.size c.args.count c.args.position _ _ c.requires.data c.requires.table count c.requires.position (c.in_ok-start.ensures.value honest) (rw first.bytes at c.in_ok-len.ensures.size (honest_still first honest)) in
    place_is _ c.args.position _ _ read.0 read.1
