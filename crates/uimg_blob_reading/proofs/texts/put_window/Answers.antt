use Rattle.std.proofs.Common.{◌≡◌, ◌∙◌, sym, ap, ℕ, List, length, take, nat_lt, length-take, arith}
use Rattle.uimg_texts.specs.{Nul.text, Slices.slice}
use Rattle.uimg_base.proofs.Slices.{length-slice}
use Rattle.uimg_blob_reading.proofs.{KeyLaws.from_ok, TextLaws.text_short}
use Rattle.uimg_blob_reading.proofs.texts.put_window.Goals as goal

pub returns-clause-ended : goal.returns-clause-ended
returns-clause-ended g c = λ honest.
    let bytes = (g.S.Source.device c.args.source.now).bytes in
    let xs : List ℕ = slice bytes c.args.at c.args.len in
    let size : length (take c.args.len c.args.window.now) ≡ c.args.len = simp length-take (omega arith) in
    let all : c.fill_at.new.to ≡ xs = from_ok c.fill_at.result (c.fill_at.ensures.bytes honest) c.if-is_err.ensures.negation ∙ ap (slice bytes c.args.at) size in
    ap (λ (t : List ℕ). nat_lt (length t) c.args.len) (c.before_nul-text.ensures ∙ ap text all)
    ∙ ap (λ (n : ℕ). nat_lt (length (text xs)) n) (sym (length-slice bytes c.args.at c.args.len c.requires.range))
    ∙ text_short xs
