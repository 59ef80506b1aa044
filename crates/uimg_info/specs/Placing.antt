-- Why a FIT image is refused whose payloads are not all in the file.
use Rattle.std.specs.Prelude.{ℕ, ◌+◌, List, [], ◌∷◌, nat_lt, if◌then◌else◌, Option, Some, None}
use Rattle.std.specs.Prelude.{Result, Ok, Err}
use Rattle.uimg_base.specs.declared.spans.Span.{Span}
use Rattle.uimg_fit_base.specs.declared.fault.FitFault.{FitFault, TheVariants.DataOutside}
use Rattle.uimg_fit_checking.specs.Survey.{ImageSaid}
use Rattle.uimg_fit_reading.specs.PayloadPlaces.{place_said}

-- the fault of a payload: it is missing, or ends after a file of this size
abbrev pub fault_of : ℕ → Result Span FitFault → Option FitFault
fault_of size (Ok place) =
    if nat_lt size (place.place + place.length) then Some DataOutside else None
fault_of size (Err fault) = Some fault

-- the first of two, if there is one
abbrev pub or_later : Option FitFault → Option FitFault → Option FitFault
or_later (Some fault) later = Some fault
or_later None later = later

-- the fault of the first of these images, of a blob of this total size, that has one
abbrev pub first_fault : ℕ → ℕ → List ImageSaid → Option FitFault
first_fault size totalsize [] = None
first_fault size totalsize (image ∷ more) =
    or_later (fault_of size (place_said totalsize image.payload)) (first_fault size totalsize more)
