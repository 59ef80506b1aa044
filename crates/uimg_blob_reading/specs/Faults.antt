-- Results of this crate.
use Rattle.std.specs.Prelude.{Result, Ok, Err, Bool, true, false}
use Rattle.uimg_blob_reading.specs.declared.fault.{BlobFault.BlobFault, IndexFault.IndexFault}
use Rattle.uimg_blob_reading.specs.declared.fault.BlobFault.TheVariants.{TooLarge, OutOfMemory}
use Rattle.uimg_blob_reading.specs.declared.fault.IndexFault.TheVariants.{Blob, Read}

-- the result is a failed read
abbrev pub is_read : {X : Type 0} → Result X IndexFault → Bool
is_read (Ok x) = false
is_read (Err (Blob fault at)) = false
is_read (Err Read) = true

-- the fault is refused memory
abbrev pub refuses_memory : BlobFault → Bool
refuses_memory OutOfMemory = true
refuses_memory _ = false

-- the result is refused memory
abbrev pub is_out_of_memory : {X : Type 0} → Result X IndexFault → Bool
is_out_of_memory (Ok x) = false
is_out_of_memory (Err (Blob fault at)) = refuses_memory fault
is_out_of_memory (Err Read) = false

-- the fault is too many bytes in a blob to be built
abbrev pub is_too_large : BlobFault → Bool
is_too_large TooLarge = true
is_too_large _ = false

-- the result is a fault that only building gives
abbrev pub is_of_making : {X : Type 0} → Result X IndexFault → Bool
is_of_making (Ok x) = false
is_of_making (Err (Blob fault at)) = is_too_large fault
is_of_making (Err Read) = false
