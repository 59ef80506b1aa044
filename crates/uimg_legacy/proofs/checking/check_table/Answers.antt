use Rattle.std.proofs.Common.{◌-◌, Ok, Err, rules, arith}
use Rattle.uimg_texts.specs.Slices.{slice}
use Rattle.uimg_legacy.specs.{Parts.sizes, Reading.bytes_at}
use Rattle.uimg_legacy.proofs.SourceLaws.{honest_still, reads_by}
use Rattle.uimg_legacy.proofs.CheckingLaws.{told_by_last, placed_none}
use Rattle.uimg_legacy.proofs.checking.check_table.Goals as goal

pub returns-then-count-eq0 : goal.returns-then-count-eq0
returns-then-count-eq0 g c = reads_by (rw c.requires.kind (search rules)) (search rules) (search rules) (search rules) (λ honest.
    let counts = c.in_ok-count.ensures.reads.answer honest in
    rw counts.0 (placed_none _ _ (omega (arith, counts.1, c.if-count-eq0.true))))

pub returns-in-Ok : goal.returns-in-Ok
returns-in-Ok g c = reads_by (rw c.requires.kind (search rules)) (search rules) (search rules) (search rules) (λ honest.
    let counts = c.in_ok-count.ensures.reads.answer honest in
    let first = c.count_sizes.ensures.reads.uses.same in
    let found = rw first.bytes at c.listed_part.ensures.reads.answer (honest_still first honest) in
    let image = (g.S.Source.device c.args.source.now).bytes in
    let payload = slice image 64 c.args.header.now.size in
    rw counts.0 (told_by_last payload (sizes payload) (c.in_ok-count.count - 1) (bytes_at image) (Ok c.in-Ok.field-0) (omega (arith, counts.1, c.if-count-eq0.false)) (rw c.in-Ok.is at found counts.1)))

pub returns-in-Err : goal.returns-in-Err
returns-in-Err g c = reads_by (rw c.requires.kind (search rules)) (search rules) (search rules) (search rules) (λ honest.
    let counts = c.in_ok-count.ensures.reads.answer honest in
    let first = c.count_sizes.ensures.reads.uses.same in
    let found = rw first.bytes at c.listed_part.ensures.reads.answer (honest_still first honest) in
    let image = (g.S.Source.device c.args.source.now).bytes in
    let payload = slice image 64 c.args.header.now.size in
    rw counts.0 (told_by_last payload (sizes payload) (c.in_ok-count.count - 1) (bytes_at image) (Err c.in-Err.fault) (omega (arith, counts.1, c.if-count-eq0.false)) (rw c.in-Err.is at found counts.1)))
