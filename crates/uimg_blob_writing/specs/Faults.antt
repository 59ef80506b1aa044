-- Results of writing.
use Rattle.std.specs.Prelude.{Result, Ok, Err, Bool, true, false}
use Rattle.uimg_base.specs.declared.ranges.MoveFault.{MoveFault}
use Rattle.uimg_base.specs.declared.ranges.MoveFault.TheVariants as move
use Rattle.uimg_blob_writing.specs.declared.fault.TreeFault.{TreeFault}
use Rattle.uimg_blob_writing.specs.declared.fault.TreeFault.TheVariants.{Put, Read, NoFile}

-- the fault of a copy that stopped
abbrev pub copy_fault : MoveFault → TreeFault
copy_fault move.Read = Read
copy_fault move.Put = Put

-- the result is a failed write
abbrev pub is_put : {X : Type 0} → Result X TreeFault → Bool
is_put (Ok x) = false
is_put (Err Put) = true
is_put (Err Read) = false
is_put (Err NoFile) = false

-- the result is a refused open
abbrev pub is_no_file : {X : Type 0} → Result X TreeFault → Bool
is_no_file (Ok x) = false
is_no_file (Err Put) = false
is_no_file (Err Read) = false
is_no_file (Err NoFile) = true

-- the result is a failed read, or a file of another size
abbrev pub is_read : {X : Type 0} → Result X TreeFault → Bool
is_read (Ok x) = false
is_read (Err Put) = false
is_read (Err Read) = true
is_read (Err NoFile) = false
