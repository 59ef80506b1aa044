use Rattle.std.{proofs.Common.{◌≡◌, ℕ, List, ◌++◌, chars, IsUtf8}, specs.List.flat_map}
use Rattle.std.specs.{Fmt.{HasWritten, IsPlainFormatter}, Str.Iter.chars_rest}
use Rattle.uimg_printing.specs.Escaping.{escaped_letter}
use Rattle.uimg_printing.proofs.escaped.put_text.Given as goal

abbrev pub invariant-loop-letter : goal.invariant-loop-letter
invariant-loop-letter g l =
    IsUtf8 (chars_rest l.rest)
    × (IsPlainFormatter l.fn.f
    → (done : List ℕ) × HasWritten g.W.Write.write_str_gives l.fn.f done l.f
    × (done ++ flat_map escaped_letter (chars (chars_rest l.rest)) ≡ flat_map escaped_letter (chars l.fn.text)))
