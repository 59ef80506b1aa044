use Rattle.std.{proofs.Common.take, specs.{Fmt.{HasWritten, IsPlainFormatter}, List.flat_map}}
use Rattle.uimg_printing.specs.Printing.{digits_of}
use Rattle.uimg_printing.proofs.counted.put_all.Given as goal

-- the bytes so far were written
abbrev pub invariant-loop-byte : goal.invariant-loop-byte
invariant-loop-byte g l = IsPlainFormatter l.fn.f → HasWritten g.W.Write.write_str_gives l.fn.f (flat_map digits_of (take l.byte-index l.bytes)) l.f
