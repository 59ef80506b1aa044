-- The results of filling and of building.
use Rattle.std.specs.Prelude.{ℕ, List, [], ◌∷◌, Bool, length, is_some, is_none, nat_lt}
use Rattle.std.specs.Prelude.{if◌then◌else◌, Option, Some, None, Result, Ok, Err, codes}
use Rattle.std.specs.{List.list_all, Option.option_or}
use Rattle.uimg_texts.specs.declared.naming.Naming.{Naming, TheVariants.Profile}
use Rattle.uimg_blob_reading.specs.{Plain.Nodes, LookUps.{NodeOf, first, images, hashes}}
use Rattle.uimg_fit_base.specs.declared.fault.FitFault.{FitFault}
use Rattle.uimg_fit_base.specs.declared.fault.FitFault.TheVariants.{NoImages, NoData, UnknownAlgo}
use Rattle.uimg_fit_base.specs.declared.fault.FitFault.TheVariants.{PositionTooLow, TooLarge}
use Rattle.uimg_fit_base.specs.declared.placement.AlignedPlacement.{AlignedPlacement}
use Rattle.uimg_fit_base.specs.declared.placement.AlignedPlacement.TheVariants.{Inside, After, At}
use Rattle.uimg_blob_writing.specs.declared.reservation.Reservation.{Reservation}
use Rattle.uimg_fit_building.specs.{Filling.{algo_in, filled}, Building.{placed_with, built_with}}

-- why an image is not filled: it has no `data`, or a hash node of an unknown algorithm
unfoldable pub image_fault : Naming → NodeOf (List ℕ) → Option FitFault
image_fault naming image =
    if is_none (first image.own (codes "data")) then Some NoData
    else if list_all (λ h. is_some (algo_in naming h.own)) (hashes image) then None
    else Some UnknownAlgo

-- the fault of the first image that has one
unfoldable pub first_fault : Naming → List (NodeOf (List ℕ)) → Option FitFault
first_fault naming [] = None
first_fault naming (image ∷ more) = option_or (image_fault naming image) (first_fault naming more)

abbrev pub filling_fault : Naming → Option (List (NodeOf (List ℕ))) → Option FitFault
filling_fault naming None = Some NoImages
filling_fault naming (Some found) = first_fault naming found

abbrev pub fill_from : Option FitFault → Nodes → Result Nodes FitFault
fill_from (Some f) t = Err f
fill_from None t = Ok t

-- the filled tree, or the first fault: no `images`; then for each image no `data`, or a hash node
-- of an unknown algorithm
abbrev pub fill_by : Naming → ℕ → Nodes → Result Nodes FitFault
fill_by naming time t = fill_from (filling_fault naming (images t)) (filled naming time t)

-- the same by the algorithms of the profile
abbrev pub fill_of : ℕ → Nodes → Result Nodes FitFault
fill_of time t = fill_by Profile time t

-- the payloads would begin before the blob's end
abbrev pub is_low : ℕ → AlignedPlacement → Bool
is_low size (Inside least) = Bool.false
is_low size (After align) = Bool.false
is_low size (At p align) = nat_lt p size

-- why a tree with good names cannot be built: the first of a blob that is too large, payloads that
-- would begin before its end, a file that is too large
unfoldable pub fault_with : List Reservation → Nodes → AlignedPlacement → Option FitFault
fault_with rs t placement =
    if nat_lt 4294967295 (length (placed_with rs t placement)) then Some TooLarge
    else if is_low (length (placed_with rs t placement)) placement then Some PositionTooLow
    else if nat_lt 4294967295 (length (built_with rs t placement)) then Some TooLarge
    else None

-- the same without reservations
abbrev pub build_fault : Nodes → AlignedPlacement → Option FitFault
build_fault = fault_with []
