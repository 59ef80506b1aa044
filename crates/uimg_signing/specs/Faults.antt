-- What a result says of a refusal.
use Rattle.std.specs.Prelude.{◌≡◌, Bool, true, false, Option, Some, None, Result, Ok, Err}
use Rattle.uimg_blob_reading.specs.declared.properties.PropertiesFault.{PropertiesFault}
use Rattle.uimg_blob_reading.specs.declared.properties.PropertiesFault.TheVariants as of
use Rattle.uimg_signing.specs.declared.faults.SigningFault.{SigningFault}
use Rattle.uimg_signing.specs.declared.faults.SigningFault.TheVariants.{Read, OutOfMemory, Changed}
use Rattle.uimg_signing.specs.declared.faults.SigningFault.TheVariants.{TooLong, TooDeep, EarlyEnd}
use Rattle.uimg_signing.specs.declared.faults.SigningFault.TheVariants.{TooManyNodes, Unhashed, NameUnsigned}
use Rattle.uimg_signing.specs.declared.faults.SigningFault.TheVariants.{BadStrings, StringsOffset, StringsOutside}

-- the result is a failed read
abbrev pub is_unread : {X : Type 0} → Result X SigningFault → Bool
is_unread (Ok x) = false
is_unread (Err Read) = true
is_unread (Err OutOfMemory) = false
is_unread (Err TooLong) = false
is_unread (Err TooManyNodes) = false
is_unread (Err Unhashed) = false
is_unread (Err Changed) = false
is_unread (Err TooDeep) = false
is_unread (Err EarlyEnd) = false
is_unread (Err NameUnsigned) = false
is_unread (Err BadStrings) = false
is_unread (Err StringsOffset) = false
is_unread (Err StringsOutside) = false

-- the result is refused memory
abbrev pub is_out_of_memory : {X : Type 0} → Result X SigningFault → Bool
is_out_of_memory (Ok x) = false
is_out_of_memory (Err Read) = false
is_out_of_memory (Err OutOfMemory) = true
is_out_of_memory (Err TooLong) = false
is_out_of_memory (Err TooManyNodes) = false
is_out_of_memory (Err Unhashed) = false
is_out_of_memory (Err Changed) = false
is_out_of_memory (Err TooDeep) = false
is_out_of_memory (Err EarlyEnd) = false
is_out_of_memory (Err NameUnsigned) = false
is_out_of_memory (Err BadStrings) = false
is_out_of_memory (Err StringsOffset) = false
is_out_of_memory (Err StringsOutside) = false

-- a fault of reading properties or blocks, as one of a message
abbrev pub of_properties : PropertiesFault → SigningFault
of_properties of.Read = Read
of_properties of.OutOfMemory = OutOfMemory
of_properties of.Changed = Changed

-- the fault, if there is one
abbrev pub fault_of : {X : Type 0} → Result X SigningFault → Option SigningFault
fault_of (Ok x) = None
fault_of (Err fault) = Some fault

-- The result is `Ok`, or this refusal, unless a read failed or memory was refused.
abbrev pub Refuses : {X : Type 0} → Option SigningFault → Result X SigningFault → Type 0
Refuses refusal result =
    is_unread result ≡ false → is_out_of_memory result ≡ false → fault_of result ≡ refusal

-- The result is this, unless a read failed or memory was refused.
abbrev pub Decides : {X : Type 0} → Result X SigningFault → Result X SigningFault → Type 0
Decides expected result =
    is_unread result ≡ false → is_out_of_memory result ≡ false → result ≡ expected
