use Rattle.std.proofs.{Common.{arith, ◌+◌, ◌*◌, ◌^◌, ◌≤◌, get_or, drop}, lemmas.Grind.common_steps}
use Rattle.std.{proofs.lemmas.{Bool.Decides.nat_tests, List.at_drop_more}, specs.Char.digit_value}
use Rattle.std.specs.Str.Parse.{digits_value, digits_value_after}
use Rattle.uimg_its.specs.Digits.{number_in_base}
use Rattle.uimg_its.proofs.DigitLaws.{never_falls}
use Rattle.uimg_its.proofs.numbers.number.Goals as goal

pub returns-then-next : goal.returns-then-next
unfolding number_in_base
returns-then-next c =
    let l = c.digits in
    let ds = c.args.digits.now in
    let base = c.args.base in
    let i = l.byte-index in
    let next = l.value * base + digit_value (get_or ds i 0) in
    let turn = at_drop_more (digits_value_after base l.value) ds i 0 c.digits-test.true in
    let grown = never_falls base next (drop (i + 1) ds) (omega (arith, c.requires.low)) in
    let large : 2 ^ 32 ≤ digits_value base ds = grind (arith, common_steps) in
    grind (arith, nat_tests, common_steps)
