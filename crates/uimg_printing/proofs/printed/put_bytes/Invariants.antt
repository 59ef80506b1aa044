use Rattle.std.{proofs.Common.take, specs.{Fmt.{HasWritten, IsPlainFormatter}, List.flat_map}}
use Rattle.uimg_printing.specs.Printing.{byte_text}
use Rattle.uimg_printing.proofs.printed.put_bytes.Given as goal

-- the bytes so far were written
abbrev pub invariant-loop-byte : goal.invariant-loop-byte
invariant-loop-byte g l = IsPlainFormatter l.fn.f → HasWritten g.W.Write.write_str_gives l.fn.f (flat_map byte_text (take l.byte-index l.bytes)) l.f
