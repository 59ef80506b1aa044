use Rattle.std.{proofs.Common.take, specs.{Fmt.{HasWritten, IsPlainFormatter}, List.flat_map}}
use Rattle.uimg_compat.specs.ImageTree.{escaped_byte}
use Rattle.uimg_compat.proofs.quoted.put_escaped.Given as goal

-- the bytes so far were written
abbrev pub invariant-loop-byte : goal.invariant-loop-byte
invariant-loop-byte g l = IsPlainFormatter l.fn.f → HasWritten g.W.Write.write_str_gives l.fn.f (flat_map escaped_byte (take l.byte-index l.text)) l.f
