-- Troubles that end an unpacking.
use Rattle.std.specs.Prelude.{Option, Some, None, Result, Ok, Err}
use Rattle.std.specs.declared.io.Error.{Error}
use Rattle.std.specs.declared.io.ErrorKind.{ErrorKind}
use Rattle.std.specs.declared.io.ErrorKind.TheVariants as kind
use Rattle.uimg_unpacking.specs.declared.trouble.Trouble.{Trouble}
use Rattle.uimg_unpacking.specs.declared.trouble.Trouble.TheVariants.{OutOfMemory, CannotPrint, Closed}

-- what is done, if it is
abbrev pub done_in : {X E : Type 0} → Result X E → Option X
done_in (Ok done) = Some done
done_in (Err fault) = None

-- the trouble of a result, if it has one
abbrev pub trouble_in : {X : Type 0} → Result X Trouble → Option Trouble
trouble_in (Ok done) = None
trouble_in (Err trouble) = Some trouble

-- The trouble of a result is noted in place of an earlier one.
abbrev pub noted : {X : Type 0} → Result X Trouble → Option Trouble → Option Trouble
noted (Ok done) old = old
noted (Err trouble) old = Some trouble

-- the trouble of a line that could not be printed
abbrev pub printing_trouble : ErrorKind → Error → Trouble
printing_trouble kind.OutOfMemory error = OutOfMemory
printing_trouble kind.BrokenPipe error = Closed
printing_trouble _ error = CannotPrint error
