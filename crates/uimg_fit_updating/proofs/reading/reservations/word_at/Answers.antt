use Rattle.std.proofs.Common.{◌≡◌, ◌+◌, ◌∙◌, ℕ, List, ap, arith}
use Rattle.uimg_texts.specs.Numbers.{be32}
use Rattle.uimg_blob_reading.proofs.NumberLaws.{be32-slice}
use Rattle.uimg_fit_updating.proofs.reading.reservations.word_at.Goals as goal

pub returns-clause-told : goal.returns-clause-told
returns-clause-told g c = λ honest.
    let file = (g.S.Source.device c.args.source.now).bytes in
    let at = c.args.at in
    let here : at + 0 ≡ at = omega arith in
    c.be32_at.ensures ∙ ap (λ (b : List ℕ). be32 b 0) (c.in_ok-fill_at.ensures.bytes honest)
    ∙ be32-slice file at 4 0 (omega arith) ∙ ap (be32 file) here
