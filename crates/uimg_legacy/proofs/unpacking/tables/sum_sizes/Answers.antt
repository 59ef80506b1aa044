use Rattle.std.proofs.Common.{◌*◌, ◌∙◌, ℕ, ◌+◌, take, ap, arith, length-take}
use Rattle.uimg_texts.specs.Slices.{slice}
use Rattle.uimg_base.proofs.Slices.{take-slice}
use Rattle.uimg_legacy.proofs.unpacking.tables.sum_sizes.Goals as goal

pub returns-clause-summed : goal.returns-clause-summed
returns-clause-summed g c =
    let to = c.fill_at.new.to in
    let n = c.min-summed.result in
    let image = (g.S.Source.device c.args.source.now).bytes in
    let at = 64 + 4 * c.args.first in
    record {
      piece = take (4 * n) to;
      size = length-take (4 * n) to ∙ omega (arith, c.min-summed.ensures);
      summed = c.feed.ensures;
      right = λ honest.
          ap (take (4 * n)) (c.in_ok-fill_at.ensures.bytes honest) ∙ take-slice image at _ (4 * n) (omega (arith, c.min-summed.ensures))
          ∙ ap (λ (k : ℕ). slice image at (4 * k)) c.min-summed.ensures;
    }
