use Rattle.std.{proofs.Common.{◌≡◌, take}, specs.List.{concat, fold}}
use Rattle.uimg_sums.specs.CrcSteps.{byte_step}
use Rattle.uimg_sums.proofs.crc_steps.word_steps_of.Given as goal

abbrev pub invariant-loop-word : goal.invariant-loop-word
invariant-loop-word l = l.register ≡ fold byte_step l.fn.register (concat (take l.word-index l.words))
