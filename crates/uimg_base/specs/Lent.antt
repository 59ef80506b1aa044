-- A reference lent to a call: its value before and after the call.
use Rattle.std.specs.Borrow.{MutBor}
use denote.Triple.Both.{Both}

-- A clause may pass a reference as a whole, such as `room`: then `room.entry.now` is `room.old`,
-- and `room.exit.now` is `room.new`. A definition over lent references may abbreviate one over
-- their values before and after, with the suffix `Between`: `Runs` for `RunsBetween`.
abbrev pub Lent : Type 0 → Type 0
Lent T = Both (MutBor T) (MutBor T)
