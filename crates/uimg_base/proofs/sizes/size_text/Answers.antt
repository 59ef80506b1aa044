use Rattle.std.{proofs.Common.{ℕ, List, subst, ◌∙◌}, specs.Prelude.is_err}
use Rattle.uimg_base.specs.Writing.{Writes}
use Rattle.uimg_base.proofs.SizeLine.{size_text-parts}
use Rattle.uimg_base.proofs.sizes.size_text.Goals as goal

-- the parts are the line
pub returns : goal.returns
returns g c =
    let line = size_text-parts c.args.n c.hundredths-kib.result c.hundredths-mib.result _ _ _ _ _ c.hundredths-kib.ensures.value c.hundredths-mib.ensures.value
    (c.as_bytes.ensures.value ∙ c.format.ensures.text) (c.as_bytes-2.ensures.value ∙ c.format-2.ensures.text) c.two_digits.ensures
    (c.as_bytes-3.ensures.value ∙ c.format-3.ensures.text) c.two_digits-2.ensures in
    subst (λ (w : List ℕ). Writes (is_err c.put_pieces.result) c.args.out.now c.put_pieces.new.self w) line c.put_pieces.ensures.writes
