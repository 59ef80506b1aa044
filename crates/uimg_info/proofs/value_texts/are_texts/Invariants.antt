use Rattle.std.proofs.Common.{◌≡◌, drop, false}
use Rattle.uimg_info.specs.ValueTexts.{are_texts}
use Rattle.uimg_info.proofs.value_texts.are_texts.Given as goal

-- the bytes that are left decide
abbrev pub invariant-loop-byte : goal.invariant-loop-byte
invariant-loop-byte l = are_texts l.is_begun (drop l.byte-index l.value) ≡ are_texts false l.value
