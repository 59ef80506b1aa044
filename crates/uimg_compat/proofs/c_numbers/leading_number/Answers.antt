use Rattle.std.proofs.Common.{rules, arith, drop}
use Rattle.uimg_compat.specs.CNumbers.{leading_digits}
use Rattle.uimg_compat.proofs.Numerals.{passed}
use Rattle.uimg_compat.proofs.c_numbers.leading_number.Goals as goal

pub returns-then-number-gt-MOST_BEFORE : goal.returns-then-number-gt-MOST_BEFORE
returns-then-number-gt-MOST_BEFORE c =
    passed 67768040609740800 c.loop-byte.number (leading_digits (drop c.loop-byte.byte-index c.args.text.now)) _ (search (rules, arith)) (search rules)
