use Rattle.std.proofs.Common.{◌≡◌, ◌+◌, ◌-◌, ◌++◌, ◌∙◌, sym, ap, ℕ, List, length, take, length-take, arith}
use Rattle.uimg_texts.specs.Slices.{slice}
use Rattle.uimg_base.proofs.Slices.{length-slice, slice-add}
use Rattle.uimg_blob_reading.proofs.TextLaws.{short_gives}
use Rattle.uimg_blob_reading.proofs.texts.short_text.Goals as goal

pub returns-clause-text : goal.returns-clause-text
returns-clause-text g c = λ honest.
    let bytes = (g.S.Source.device c.args.source.now).bytes in
    let at = c.args.span.place in
    let len = c.args.span.length in
    let n = c.min-length.result in
    let size : length (take n c.args.to.now) ≡ n = simp length-take (omega arith) in
    let start : c.fill_at.new.to ≡ slice bytes at n = c.in_ok-fill_at.ensures.bytes honest ∙ ap (slice bytes at) size in
    let sum : len ≡ n + (len - n) = omega arith in
    let all : slice bytes at len ≡ c.fill_at.new.to ++ slice bytes (at + n) (len - n) =
    ap (slice bytes at) sum ∙ slice-add bytes at n (len - n) ∙ ap (λ (x : List ℕ). x ++ slice bytes (at + n) (len - n)) (sym start) in
    let long : length c.fill_at.new.to ≡ n = ap length start ∙ length-slice bytes at n (omega arith) in
    short_gives c.fill_at.new.to (slice bytes (at + n) (len - n)) _ (slice bytes at len) c.short_in.result all
    (λ few. let none_left : len - n ≡ 0 = omega (arith, few, long) in ap (slice bytes (at + n)) none_left)
    c.short_in.ensures
