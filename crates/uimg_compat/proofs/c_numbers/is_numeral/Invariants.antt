use Rattle.std.proofs.Common.{◌≡◌, drop, nat_lt}
use Rattle.std.specs.{Char.digit_value, List.list_all}
use Rattle.uimg_compat.proofs.c_numbers.is_numeral.Given as goal

-- what is left gives the same
abbrev pub invariant-loop-byte : goal.invariant-loop-byte
invariant-loop-byte l = list_all (λ digit. nat_lt (digit_value digit) l.base) (drop l.byte-index l.text)
    ≡ list_all (λ digit. nat_lt (digit_value digit) l.base) l.text
