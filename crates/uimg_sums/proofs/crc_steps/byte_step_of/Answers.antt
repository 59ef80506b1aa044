use Rattle.std.proofs.{Common.{arith, bit_xor}, lemmas.Nat.xor_of_32}
use Rattle.uimg_sums.proofs.CrcLaw.{bit_steps_fits}
use Rattle.uimg_sums.proofs.crc_steps.byte_step_of.Goals as goal

pub overflow_cast-result : goal.overflow_cast-result
overflow_cast-result c =
    omega (arith, bit_steps_fits 8 (bit_xor c.args.register c.args.byte) (xor_of_32 c.args.register c.args.byte (omega arith) (omega arith)))
