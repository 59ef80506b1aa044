use Rattle.std.{proofs.Common.{◌≡◌, ◌^◌, ◌<◌, drop}, specs.{List.list_all, Char.is_digit}}
use Rattle.std.specs.Str.Parse.{digits_value, digits_value_after}
use Rattle.uimg_its.proofs.numbers.number.Given as goal

-- what is left gives the same number
abbrev pub invariant-digits : goal.invariant-digits
invariant-digits l =
    (l.value < 2 ^ 32) × (digits_value_after l.base l.value (drop l.byte-index l.digits) ≡ digits_value l.base l.digits)
    × (list_all (λ d. is_digit d l.base) (drop l.byte-index l.digits) ≡ list_all (λ d. is_digit d l.base) l.digits)
