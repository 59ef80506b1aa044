-- Whether each image is named by a configuration. The signature of a configuration covers the images
-- that it names, and no other.
use Rattle.std.specs.Prelude.{◌≡◌, ℕ, List, [], ◌∷◌, Option, Some, None, Result, Ok, Err, IfErr, Bool, true, false, not, if◌then◌else◌}
use Rattle.std.specs.{List.list_any, Option.option_map}
use Rattle.uimg_blob_reading.specs.{Blob.tree, Grammar.Siblings, Reading.Fault as BlobFaultAt}
use Rattle.uimg_blob_reading.specs.{Rows.{Row, table}, declared.roles.Role.Role}
use Rattle.uimg_blob_reading.specs.declared.roles.Role.TheVariants as role
use Rattle.uimg_fit_base.specs.declared.fault.Fault.{Fault}
use Rattle.uimg_fit_base.specs.declared.fault.Fault.TheVariants as of
use Rattle.uimg_fit_checking.specs.declared.surveying.fault.SurveyFault.{SurveyFault}
use Rattle.uimg_fit_checking.specs.declared.surveying.fault.SurveyFault.TheVariants.{Stopped, OutOfMemory, Changed}
use Rattle.uimg_signing.specs.{ImageNaming.names_image, Listing.name_in}
use Rattle.uimg_signing.specs.declared.faults.SigningFault.{SigningFault}
use Rattle.uimg_signing.specs.declared.faults.SigningFault.TheVariants as signing
use Rattle.uimg_strict.specs.{Looseness.LooseSaid, Telling.read_loose}
use Rattle.uimg_strict.specs.declared.loose.Loose.{Loose}
use Rattle.uimg_strict.specs.declared.loose.Looseness.TheVariants.{Unsigned}
use Rattle.uimg_verifying.specs.Configurations.{Tells}

-- the node is a configuration that names the image
abbrev pub covers_as : Role → Bool → Bool
covers_as role.Configuration names = names
covers_as _ names = false

abbrev pub covers : List ℕ → Row → Row → Bool
covers file image row = covers_as row.role (names_image file row image)

-- one of the nodes is
abbrev pub is_covered : List ℕ → List Row → Row → Bool
is_covered file rows image = list_any (covers file image) rows

-- the node is an image that no configuration names
abbrev pub uncovered_as : Role → Bool → Bool
uncovered_as role.Image is_covered = not is_covered
uncovered_as _ is_covered = false

abbrev pub is_uncovered : List ℕ → List Row → Row → Bool
is_uncovered file rows row = uncovered_as row.role (is_covered file rows row)

-- the first such image of these rows
unfoldable pub uncovered_from : List ℕ → List Row → List Row → Option LooseSaid
uncovered_from file all [] = None
uncovered_from file all (row ∷ rows) = if is_uncovered file all row
    then Some (record { why = Unsigned; node = Some (name_in file row) })
    else uncovered_from file all rows

abbrev pub uncovered_in : List ℕ → Result Siblings BlobFaultAt → Result (Option LooseSaid) Fault
uncovered_in file (Ok t) = Ok (uncovered_from file (table t) (table t))
uncovered_in file (Err fault) = Err (of.Blob fault.0 fault.1)

-- the first image of a file that no configuration names, or the first fault of its blob
unfoldable pub uncovered_of : List ℕ → Result (Option LooseSaid) Fault
uncovered_of file = uncovered_in file (tree file)

-- A failed read and refused memory stay so. There is no other fault, unless the source is another one
-- than before.
abbrev pub stopped : SigningFault → SurveyFault
stopped signing.Read = Stopped of.Read
stopped signing.OutOfMemory = OutOfMemory
stopped _ = Changed

-- the fault is none of the image
abbrev pub is_outer : SurveyFault → Bool
is_outer (Stopped of.Read) = true
is_outer OutOfMemory = true
is_outer Changed = true
is_outer _ = false

abbrev pub IsOuter : {X : Type 0} → Result X SurveyFault → Type 0
IsOuter result = IfErr result (λ fault. is_outer fault ≡ true)

abbrev pub TellsUncovered : List ℕ → Result (Option Loose) SurveyFault → Type 0
TellsUncovered file = Tells (option_map read_loose) (uncovered_of file)
