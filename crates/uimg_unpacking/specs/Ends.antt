-- How the unpacking of a FIT image ends.
use Rattle.std.specs.Prelude.{◌≡◌, ⊤, ℕ, ◌==◌, ◌&&◌, ◌||◌, nat_le, length, List, ◌++◌, codes, Bool, true, false, if◌then◌else◌, is_some, map, Vec, Option, Some, None, Result, Ok, Err}
use Rattle.std.specs.List.{list_all}
use Rattle.std.specs.Borrow.{Bor}
use Rattle.std.specs.{BTreeSet.BTreeSet, Global.Global}
use Rattle.std.specs.Io.KnownBytes.{Appends}
use Rattle.uimg_fit_base.specs.declared.fault.Fault.{Fault, TheVariants.{Fit, Put}}
use Rattle.uimg_fit_base.specs.declared.fault.FitFault.TheVariants.{NoSuchImage}
use Rattle.uimg_printing.specs.Printing.{printed}
use Rattle.uimg_fit_base.specs.Faults.{is_read, is_out_of_memory}
use Rattle.uimg_fit_checking.specs.Unpacking.{as_bytes, UnpackOutcome, Which, every, called, among, taken, overlaps, unpack_of, is_kept}
use Rattle.uimg_fit_checking.specs.declared.unpacking.Unpacked.{Unpacked, TheVariants.{Taken, Overlapping}}
use Rattle.uimg_fit_checking.specs.Claiming.{claims_of}
use Rattle.uimg_unpacking.specs.Limiting.{fits}
use Rattle.uimg_unpacking.specs.Objects.{told_as, about_payload}
use Rattle.uimg_unpacking.specs.declared.trouble.Trouble.{Trouble}
use Rattle.uimg_unpacking.specs.declared.trouble.Trouble.TheVariants as of
use Rattle.uimg_unpacking.specs.declared.unpacking.Ended.{Ended}
use Rattle.uimg_unpacking.specs.declared.unpacking.Ended.TheVariants.{Kept, Refused, NoImage, Stopped, Troubled}
use Rattle.uimg_unpacking.specs.declared.unpacking.Unpacking.{Unpacking}

-- the requested images; none has a name of more than 255 bytes
abbrev pub which_of : Option (Bor (List ℕ)) → Option (Bor (BTreeSet (Vec ℕ Global))) → Option Which
which_of only (Some names) = Some (among (map (λ name. name.items) names.now.keys))
which_of (Some name) None = if nat_le (length name.now) 255 then Some (called name.now) else None
which_of None None = Some every

abbrev pub asked_which : Unpacking → Option Which
asked_which asked = which_of asked.only asked.among

-- whether not all images are requested
abbrev pub chooses : Unpacking → Bool
chooses asked = is_some asked.among || is_some asked.only

-- the end after all requested payloads were given: none may be there, or one may be refused
abbrev pub end_of_taken : Unpacking → Bool → ℕ → Ended
end_of_taken asked all count =
    if count == 0 && chooses asked then Stopped (Fit NoSuchImage)
    else if count == 0 && is_some asked.need then NoImage
    else if all then Kept else Refused

-- The line of payloads that overlap was printed, or it could not be.
abbrev pub TellsOverlap : Option (Bor (List ℕ)) → List ℕ → Ended → Option (List ℕ) → Option (List ℕ) → Type 0
TellsOverlap path name Refused old new =
    Appends old new (told_as path (printed true name ++ codes ": overlapping") (about_payload 1 (codes "overlapping") name))
TellsOverlap path name (Troubled trouble) old new = ⊤
TellsOverlap path name _ old new = ⊥

-- whether each requested payload was given and is kept
abbrev pub is_whole : Result Unpacked Fault → Bool
is_whole (Ok (Taken all)) = all
is_whole (Ok (Overlapping name)) = false
is_whole (Err fault) = false

-- the end if the image is not refused: what is said of the payloads, unless there is a trouble
abbrev pub EndsGiven : Unpacking → Unpacked → ℕ → Option Trouble → Ended → Option (List ℕ) → Option (List ℕ) → Type 0
EndsGiven asked (Taken all) count (Some trouble) result old new = result ≡ Troubled trouble
EndsGiven asked (Taken all) count None result old new = result ≡ end_of_taken asked all count
EndsGiven asked (Overlapping name) count trouble result old new = TellsOverlap asked.json (as_bytes name) result old new

-- the end at a fault: its trouble if a payload could not be written
abbrev pub end_of_fault : Fault → Option Trouble → Ended
end_of_fault Put (Some trouble) = Troubled trouble
end_of_fault Put None = Troubled of.Put
end_of_fault fault trouble = Stopped fault

-- the end by what was unpacked or by a fault, after how many payloads and with which trouble
abbrev pub Ends : Unpacking → Result Unpacked Fault → ℕ → Option Trouble → Ended → Option (List ℕ) → Option (List ℕ) → Type 0
Ends asked (Ok unpacked) count trouble result old new = EndsGiven asked unpacked count trouble result old new
Ends asked (Err fault) count trouble result old new = result ≡ end_of_fault fault trouble

-- the end by what the definition says of a file
abbrev pub end_of : Unpacking → Result UnpackOutcome Fault → Ended
end_of asked (Ok (taken ts)) = end_of_taken asked (list_all is_kept ts) (length ts)
end_of asked (Ok (overlaps name)) = Refused
end_of asked (Err fault) = Stopped fault

-- the same for the requested images, if there can be any
abbrev pub end_by : Unpacking → Option Which → List ℕ → Ended
end_by asked None file = Stopped (Fit NoSuchImage)
end_by asked (Some only) file = end_of asked (unpack_of asked.need only file)

abbrev pub end_of_file : Unpacking → List ℕ → Ended
end_of_file asked file = end_by asked (asked_which asked) file

-- whether a fault is a failed read or refused memory
abbrev pub is_failure : Result Unpacked Fault → Bool
is_failure result = is_read result || is_out_of_memory result

-- whether an end is a trouble or such a fault
abbrev pub has_failed : Ended → Bool
has_failed (Stopped fault) = is_failure (Err fault)
has_failed (Troubled trouble) = true
has_failed _ = false

-- It is the end of the file by the definition, unless something failed.
abbrev pub EndsByFile : Unpacking → List ℕ → Ended → Type 0
EndsByFile asked file result = has_failed result ≡ false → result ≡ end_of_file asked file

-- This is so if all is kept.
abbrev pub IfKept : Ended → Type 0 → Type 0
IfKept Kept claim = claim
IfKept _ claim = ⊤

-- If all is kept, the requested payloads are no more than the limits allow.
abbrev pub FitsFor : Unpacking → Option Which → List ℕ → Type 0
FitsFor asked None file = ⊥
FitsFor asked (Some only) file = fits asked.limits (claims_of only file) ≡ true

abbrev pub FitsIf : Unpacking → List ℕ → Ended → Type 0
FitsIf asked file end = end ≡ Kept → FitsFor asked (asked_which asked) file
