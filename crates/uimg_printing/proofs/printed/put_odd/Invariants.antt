use Rattle.std.{proofs.Common.take, specs.{Fmt.{HasWritten, IsPlainFormatter}, List.flat_map}}
use Rattle.uimg_printing.specs.Printing.{odd_text}
use Rattle.uimg_printing.proofs.printed.put_odd.Given as goal

-- the bytes so far were written
abbrev pub invariant-loop-byte : goal.invariant-loop-byte
invariant-loop-byte g l = IsPlainFormatter l.fn.f → HasWritten g.W.Write.write_str_gives l.fn.f (flat_map (odd_text l.is_word) (take l.byte-index l.name)) l.f
