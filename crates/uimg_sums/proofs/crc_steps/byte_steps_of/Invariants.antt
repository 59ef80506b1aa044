use Rattle.std.{proofs.Common.{◌≡◌, take}, specs.List.fold}
use Rattle.uimg_sums.specs.CrcSteps.{byte_step}
use Rattle.uimg_sums.proofs.crc_steps.byte_steps_of.Given as goal

abbrev pub invariant-loop-byte : goal.invariant-loop-byte
invariant-loop-byte l = l.register ≡ fold byte_step l.fn.register (take l.byte-index l.bytes)
