use Rattle.std.{proofs.Common.{◌≡◌, ◌∙◌, ℕ, length, take, ap, sym, arith}, specs.Prelude.sum_by}
use Rattle.std.proofs.Math.Seq.{take-length}
use Rattle.uimg_texts.specs.Numbers.{up4}
use Rattle.uimg_legacy.specs.Words.{whole_words}
use Rattle.uimg_legacy.proofs.PartsLaws.{words-at, length-words, up4_bound, sum_more}
use Rattle.uimg_legacy.proofs.table.rounded_sum.Goals as goal

pub loop-i-preserved : goal.loop-i-preserved
loop-i-preserved c =
    let bytes = c.args.bytes.now in
    let i = c.loop-i.i in
    let few = length-words bytes in
    let word = c.up4-rounded.ensures ∙ ap up4 (c.be32_at-size.ensures ∙ sym (words-at bytes i (omega arith))) in
    (omega (arith, up4_bound c.be32_at-size.result), omega (arith, word, sum_more (whole_words bytes) i (omega (arith, few.1)), c.loop-i.invariant.1))

pub returns-clause-sum : goal.returns-clause-sum
returns-clause-sum c =
    let bytes = c.args.bytes.now in
    let few = length-words bytes in
    let all : c.loop-i.i ≡ length (whole_words bytes) = omega (arith, few.0, few.1) in
    c.loop-i.invariant.1 ∙ ap (λ (n : ℕ). sum_by up4 (take n (whole_words bytes))) all ∙ ap (sum_by up4) (take-length (whole_words bytes))
