use Rattle.std.{proofs.Common.{◌≡◌, take}, specs.List.fold}
use Rattle.uimg_sums.specs.Crc16.{byte_down}
use Rattle.uimg_sums.proofs.crc16.bytes_down.Given as goal

abbrev pub invariant-loop-byte : goal.invariant-loop-byte
invariant-loop-byte l = l.remainder ≡ fold byte_down l.fn.remainder (take l.byte-index l.bytes)
