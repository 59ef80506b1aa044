use Rattle.std.{proofs.Common.{◌≡◌, ◌++◌, length}, specs.Option.option_map}
use Rattle.uimg_fit_updating.specs.Reservations.{entries_in}
use Rattle.uimg_fit_updating.proofs.reading.reservations.entries_in.Given as goal

-- with the entries that are left, all are there
abbrev pub invariant-loop-rest : goal.invariant-loop-rest
invariant-loop-rest l = record {
  all : option_map (λ es. l.entries.items ++ es) (entries_in l.rest) ≡ entries_in l.bytes;
}

abbrev pub decreases-loop-rest : goal.decreases-loop-rest
decreases-loop-rest l = length l.rest
