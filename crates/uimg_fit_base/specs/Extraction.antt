-- What an extraction writes.
use Rattle.std.specs.{Prelude.{ℕ, List, Option, Some, None, Result, Ok, Err}, List.slice_get}
use Rattle.uimg_base.specs.{Outcome.{Outcome, done, told, unless_refused}, Results.◌>>=◌}
use Rattle.uimg_blob_reading.specs.{LookUps.NodeOf, Spots.Spot}
use Rattle.uimg_fit_base.specs.declared.fault.{Fault.{Fault, TheVariants.Fit}, FitFault.FitFault}
use Rattle.uimg_fit_base.specs.{declared.fault.FitFault.TheVariants.NoSuchImage, Files.images_of}
use Rattle.uimg_fit_base.specs.Places.{payload}

-- a fault of images, as one of a command
abbrev pub of_images : {X : Type 0} → Result X FitFault → Result X Fault
of_images (Ok x) = Ok x
of_images (Err fault) = Err (Fit fault)

-- the payload of an image, or that there is no image
abbrev pub payload_of : List ℕ → Option (NodeOf Spot) → Result (List ℕ) FitFault
payload_of file (Some image) = payload file image
payload_of file None = Err NoSuchImage

-- the payload of the image at a position, or the first fault
abbrev pub payload_at : List ℕ → ℕ → Result (List ℕ) Fault
payload_at file position = do
  found ← images_of file
  of_images (payload_of file (slice_get found position))

-- an extraction writes that payload alone, or nothing
abbrev pub extract_of : List ℕ → ℕ → Outcome Fault
extract_of file position = unless_refused (payload_at file position) (λ bytes. told bytes done)
