-- The result of measuring a tree.
use Rattle.std.specs.Prelude.{◌≡◌, ℕ, List, [], ◌∷◌, length, Option, Some, None, Result, Ok, Err}
use Rattle.std.specs.Prelude.{Bool, ⊤, nat_le, nat_lt, is_none, ◌&&◌, if◌then◌else◌}
use Rattle.std.specs.Option.{option_or}
use Rattle.uimg_texts.specs.Nul.{before_nul}
use Rattle.uimg_blob_reading.specs.declared.fault.BlobFault.{BlobFault, TheVariants.BadNodeName}
use Rattle.uimg_blob_reading.specs.declared.fault.BlobFault.TheVariants.{BadPropertyName, TooLarge}
use Rattle.uimg_blob_reading.specs.declared.fault.BlobFault.TheVariants.{OutOfMemory}
use Rattle.uimg_blob_reading.specs.Plain.{NamedOf, NodesOf, no_node, a_node}
use Rattle.uimg_blob_writing.specs.declared.blob_end.BlobEnd.{BlobEnd}
use Rattle.uimg_blob_writing.specs.declared.reservation.Reservation.{Reservation}
use Rattle.uimg_blob_writing.specs.{Alignment.ends_at, Content.Unread, Layouts.{Plan, plan_with, totalsize}}

-- whether a name has at most 255 bytes and no NUL
abbrev pub is_name : List ℕ → Bool
is_name name = nat_le (length name) 255 && is_none (before_nul name)

-- the fault of the first bad name of properties
unfoldable pub bad_property : {V : Type 0} → List (NamedOf V) → Option BlobFault
bad_property [] = None
bad_property (p ∷ own) = if is_name p.name then bad_property own else Some BadPropertyName

-- the fault of the first bad name in the order of writing
unfoldable pub bad_name : {V : Type 0} → NodesOf V → Option BlobFault
bad_name no_node = None
bad_name (a_node name own below after) =
    if is_name name then option_or (bad_property own)
    (option_or (bad_name below) (bad_name after)) else Some BadNodeName

-- the plan if all names are good, or TooLarge if the blob has more than 4294967295 bytes
abbrev pub measured_with : Option BlobFault → Plan → Result Plan BlobFault
measured_with (Some fault) p = Err fault
measured_with None p = if nat_lt 4294967295 (totalsize p) then Err TooLarge else Ok p

-- the plan of a tree with reservations for an end, or the fault of its first bad name, or TooLarge
abbrev pub measured_by : BlobEnd → List Reservation → Unread → Result Plan BlobFault
measured_by ending rs t = measured_with (bad_name t) (plan_with ending rs t)

-- the same without reservations and free room
abbrev pub measured : Unread → Result Plan BlobFault
measured = measured_by (ends_at 4) []

-- the fault of a result, if it is one
abbrev pub fault_in : {X : Type 0} → Result X BlobFault → Option BlobFault
fault_in (Ok x) = None
fault_in (Err fault) = Some fault

-- The result is that of the definition, unless memory was refused.
abbrev pub Measures : Result Plan BlobFault → Result Plan BlobFault → Type 0
Measures (Err OutOfMemory) r = ⊤
Measures (Err fault) r = r ≡ Err fault
Measures (Ok p) r = r ≡ Ok p
