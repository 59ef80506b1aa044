use Rattle.std.{proofs.Common.{ℕ, [], ◌∙◌, ap, get_or}, specs.List.fold}
use Rattle.uimg_sums.specs.CrcSteps.{byte_step}
use Rattle.uimg_sums.proofs.CrcWord.{fold-more}
use Rattle.uimg_sums.proofs.crc_steps.word_steps_of.Goals as goal

pub loop-word-preserved : goal.loop-word-preserved
loop-word-preserved c =
    let words = c.args.words.now in
    c.word_step_of-register.ensures
    ∙ ap (λ (x : ℕ). fold byte_step x (get_or words c.loop-word.word-index [])) c.loop-word.invariant
    ∙ fold-more words c.loop-word.word-index c.args.register c.loop-word-test.true
