use Rattle.std.proofs.Common.{◌≡◌, ◌≤◌, drop}
use Rattle.std.specs.Str.Parse.{digits_value, digits_value_after}
use Rattle.uimg_compat.specs.CNumbers.{leading_digits}
use Rattle.uimg_compat.proofs.c_numbers.leading_number.Given as goal

-- what is left gives the same
abbrev pub invariant-loop-byte : goal.invariant-loop-byte
invariant-loop-byte l = (l.number ≤ 677680406097408009)
    × (digits_value_after 10 l.number (leading_digits (drop l.byte-index l.text)) ≡ digits_value 10 (leading_digits l.text))
