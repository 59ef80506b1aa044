use Rattle.std.proofs.Common.{rules, ◌∙◌, arith}
use Rattle.uimg_texts.specs.Slices.{slice}
use Rattle.uimg_base.proofs.Slices.{length-slice}
use Rattle.uimg_legacy.proofs.SourceLaws.{honest_still, same_still, reads_by}
use Rattle.uimg_legacy.proofs.PartsLaws.{length-words, parts_some, parts_none}
use Rattle.uimg_legacy.proofs.ChunkLaws.{sizes_window}
use Rattle.uimg_legacy.proofs.parts.count_sizes.Goals as goal

pub returns-then-found-next-clause-reads : goal.returns-then-found-next-clause-reads
returns-then-found-next-clause-reads g c = reads_by (search rules) (search rules) (search rules) (search rules) (λ honest.
    let image = (g.S.Source.device c.args.source.now).bytes in
    let d = slice image 64 c.args.size in
    let inv = c.loop-counted.invariant in
    let found = rw inv.same.bytes at c.in_ok-found.ensures.value (honest_still inv.same honest) in
    let more = found ∙ sizes_window image c.args.size c.loop-counted.counted c.min-next.result (omega arith) (inv.sizes honest) in
    (parts_some d (omega (arith, (length-words d).1, more, inv.sizes honest, length-slice image 64 c.args.size c.requires)), omega (arith, more, inv.sizes honest)))

pub loop-counted-preserved : goal.loop-counted-preserved
loop-counted-preserved g c =
    let inv = c.loop-counted.invariant in
    record {
      bound = omega (arith, c.in_ok-found.ensures.bound);
      same = same_still inv.same c.count_window.ensures.uses.same;
      room = c.count_window.ensures.room ∙ inv.room;
      asked = omega arith;
      failures = omega (arith, c.in_ok-found.ensures.uses.failures);
      sizes = λ honest.
          let image = (g.S.Source.device c.args.source.now).bytes in
          let found = rw inv.same.bytes at c.in_ok-found.ensures.value (honest_still inv.same honest) in
          let more = found ∙ sizes_window image c.args.size c.loop-counted.counted c.min-next.result (omega arith) (inv.sizes honest) in
          omega (arith, more, inv.sizes honest);
    }

pub returns-clause-reads : goal.returns-clause-reads
returns-clause-reads g c = reads_by (search rules) (search rules) (search rules) (search rules) (λ honest.
    let image = (g.S.Source.device c.args.source.now).bytes in
    let d = slice image 64 c.args.size in
    parts_none d (omega (arith, (length-words d).0, c.loop-counted.invariant.sizes honest, length-slice image 64 c.args.size c.requires)))
