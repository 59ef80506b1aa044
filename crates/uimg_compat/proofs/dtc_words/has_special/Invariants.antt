use Rattle.std.{proofs.Common.{◌≡◌, drop}, specs.List.list_any}
use Rattle.uimg_compat.specs.Dtc.{is_special}
use Rattle.uimg_compat.proofs.dtc_words.has_special.Given as goal

-- no byte before the index is special
abbrev pub invariant-loop-byte : goal.invariant-loop-byte
invariant-loop-byte l = list_any is_special (drop l.byte-index l.word) ≡ list_any is_special l.word
