-- Why a map is not written.
use Rattle.std.specs.Prelude.{Bool, true}
use Rattle.std.specs.declared.io.ErrorKind.{ErrorKind}
use Rattle.std.specs.declared.io.ErrorKind.TheVariants as kind
use Rattle.uimg_map.specs.declared.fault.MapFault.TheVariants as fault
use Rattle.uimg_map.specs.declared.stop.MapStop.{MapStop, TheVariants.{Stopped, Closed, Put}}
use Rattle.uimg_map.specs.Faults.{stops}

-- what a failed write of this kind means
abbrev pub stop_of : ErrorKind → MapStop
stop_of kind.OutOfMemory = Stopped fault.OutOfMemory
stop_of kind.BrokenPipe = Closed
stop_of _ = Put

-- the map is not at fault: a read or a write failed, or memory was refused
abbrev pub is_stop : MapStop → Bool
is_stop (Stopped fault) = stops fault
is_stop _ = true
