use Rattle.std.proofs.Common.{rules, ◌∙◌, ◌*◌, ℕ, subst, refl, arith}
use Rattle.uimg_legacy.specs.UnpackingSteps.{SumsPieceBetween}
use Rattle.uimg_sums.specs.{Adding.{Adds, adds_nothing, adds_more}, CrcSums.Holds}
use Rattle.uimg_base.proofs.{RangeLaws.{nothing_summed, more_summed}, Slices.length-slice}
use Rattle.uimg_texts.specs.Slices.{slice}
use Rattle.uimg_legacy.proofs.SourceLaws.{honest_still, same_still, reads_by}
use Rattle.uimg_legacy.proofs.PartsLaws.{length-words, parts_some, parts_none}
use Rattle.uimg_legacy.proofs.ChunkLaws.{sizes_window}
use Rattle.uimg_legacy.proofs.unpacking.tables.sum_table.Goals as goal

pub returns-then-found-next-clause-reads : goal.returns-then-found-next-clause-reads
returns-then-found-next-clause-reads g c = reads_by (search rules) (search rules) (search rules) (search rules) (λ honest.
    let image = (g.S.Source.device c.args.source.now).bytes in
    let d = slice image 64 c.args.size in
    let inv = c.loop-counted.invariant in
    let found = rw inv.same.bytes at c.in_ok-found.ensures.reads.value (honest_still inv.same honest) in
    let more = found ∙ sizes_window image c.args.size c.loop-counted.counted c.min-next.result (omega arith) (inv.sizes honest) in
    (parts_some d (omega (arith, (length-words d).1, more, inv.sizes honest, length-slice image 64 c.args.size c.requires)), omega (arith, more, inv.sizes honest)))

pub loop-counted-preserved : goal.loop-counted-preserved
loop-counted-preserved g c =
    let inv = c.loop-counted.invariant in
    record {
      bound = omega (arith, c.in_ok-found.ensures.reads.bound);
      same = same_still inv.same c.sum_sizes.ensures.reads.uses.same;
      room = c.sum_sizes.ensures.reads.room ∙ inv.room;
      asked = omega arith;
      failures = omega (arith, c.in_ok-found.ensures.reads.uses.failures);
      sizes = λ honest.
          let image = (g.S.Source.device c.args.source.now).bytes in
          let found = rw inv.same.bytes at c.in_ok-found.ensures.reads.value (honest_still inv.same honest) in
          let more = found ∙ sizes_window image c.args.size c.loop-counted.counted c.min-next.result (omega arith) (inv.sizes honest) in
          omega (arith, more, inv.sizes honest);
      summed = subst (λ (n : ℕ). SumsPieceBetween (g.S.Source.device c.args.source.now) 64 n c.args.sum.now c.sum_sizes.new.sum) (omega (arith, c.in_ok-found.ensures.reads.bound))
          (more_summed (Adds Holds) (adds_more Holds) _ _ 64 (4 * c.loop-counted.counted) _ _ _ _ inv.same inv.summed c.in_ok-found.ensures.summed);
    }

pub returns-clause-reads : goal.returns-clause-reads
returns-clause-reads g c = reads_by (search rules) (search rules) (search rules) (search rules) (λ honest.
    let image = (g.S.Source.device c.args.source.now).bytes in
    let d = slice image 64 c.args.size in
    parts_none d (omega (arith, (length-words d).0, c.loop-counted.invariant.sizes honest, length-slice image 64 c.args.size c.requires)))

pub loop-counted-init : goal.loop-counted-init
loop-counted-init g c = record {
  bound = omega arith;
  same = record { bytes = refl; honest = refl };
  room = refl;
  asked = omega arith;
  failures = refl;
  sizes = λ honest. omega arith;
  summed = nothing_summed (Adds Holds) (adds_nothing Holds) _ 64 _;
}

pub returns-then-found-next-clause-summed : goal.returns-then-found-next-clause-summed
returns-then-found-next-clause-summed g c =
    let inv = c.loop-counted.invariant in
    subst (λ (n : ℕ). SumsPieceBetween (g.S.Source.device c.args.source.now) 64 n c.args.sum.now c.sum_sizes.new.sum) (omega (arith, c.in_ok-found.ensures.reads.bound))
    (more_summed (Adds Holds) (adds_more Holds) _ _ 64 (4 * c.loop-counted.counted) _ _ _ _ inv.same inv.summed c.in_ok-found.ensures.summed)
