use Rattle.std.{proofs.Common.{false, take}, specs.List.flat_map}
use Rattle.uimg_base.specs.Writing.{Writes}
use Rattle.uimg_blob_writing.specs.Encoding.{entry_bytes}
use Rattle.uimg_blob_writing.proofs.reservation.put_entries.Given as goal

-- the entries before the index were written
abbrev pub invariant-loop-reservation : goal.invariant-loop-reservation
invariant-loop-reservation g l =
    Writes false l.fn.out l.out (flat_map entry_bytes (take l.reservation-index l.reservations))
