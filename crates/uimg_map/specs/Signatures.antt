-- Which payloads the signatures of configurations cover: those of the images that a configuration
-- with a signature node names, since its signature covers their hash nodes.
use Rattle.std.specs.Prelude.{ℕ, List, [], ◌∷◌, length, Option, Some, None, Result, Ok, Err}
use Rattle.std.specs.{Prelude.{Bool, false, if◌then◌else◌}, List.{slice_get, sum_by}}
use Rattle.std.specs.Option.{option_map}
use Rattle.uimg_blob_reading.specs.{Blob.tree, Grammar.Siblings, Rows.{Row, table}}
use Rattle.uimg_blob_reading.specs.{Counts.nops_met, Properties.places_of}
use Rattle.uimg_fit_base.specs.declared.fault.Fault.TheVariants as of
use Rattle.uimg_fit_checking.specs.declared.surveying.fault.SurveyFault.{SurveyFault}
use Rattle.uimg_fit_checking.specs.declared.surveying.fault.SurveyFault.TheVariants.{Stopped}
use Rattle.uimg_fit_checking.specs.declared.surveying.fault.SurveyFault.TheVariants.{OutOfMemory}
use Rattle.uimg_signing.specs.{ImageNaming.naming_cost, Listing.name_in, Naming.{any_long, named}}
use Rattle.uimg_map.specs.Signing.{signing_nodes}
use Rattle.uimg_signing.specs.declared.configuration_signatures.SignatureNode.{SignatureNode}
use Rattle.uimg_signing.specs.declared.faults.SigningFault.{SigningFault}
use Rattle.uimg_signing.specs.declared.faults.SigningFault.TheVariants as signing

-- the configuration of this row names an image of this name
abbrev pub names : List ℕ → List ℕ → Option Row → Bool
names file name None = false
names file name (Some its) =
    if any_long (places_of its) then false else named file name (places_of its)

-- the name of a configuration
abbrev pub name_of : List ℕ → Option Row → Option (List ℕ)
name_of file row = option_map (name_in file) row

-- the name of the first configuration with one of these signature nodes that names an image of this
-- name
unfoldable pub covered_by : List ℕ → List Row → List ℕ → List SignatureNode → Option (List ℕ)
covered_by file rows name [] = None
covered_by file rows name (s ∷ ss) =
    if names file name (slice_get rows s.configuration) then name_of file (slice_get rows s.configuration)
    else covered_by file rows name ss

-- the same for a file's tree
abbrev pub covered_in : {X : Type 0} → List ℕ → Result Siblings X → List ℕ → Option (List ℕ)
covered_in file (Ok t) name = covered_by file (table t) name (signing_nodes (table t))
covered_in file (Err fault) name = None

-- the most bytes that are requested to decide whether a configuration names an image
abbrev pub cost_at : ℕ → Option Row → ℕ
cost_at nops None = 0
cost_at nops (Some its) = naming_cost (length its.own) nops

-- the same for the configurations of all these signature nodes
abbrev pub cost_of : List ℕ → List Row → SignatureNode → ℕ
cost_of file rows s = cost_at (nops_met file) (slice_get rows s.configuration)

abbrev pub covering_cost : List ℕ → List Row → List SignatureNode → ℕ
covering_cost file rows ss = sum_by (cost_of file rows) ss

-- the same for an image of a file
abbrev pub covering_work : {X : Type 0} → List ℕ → Result Siblings X → ℕ
covering_work file (Ok t) = covering_cost file (table t) (signing_nodes (table t))
covering_work file (Err fault) = 0

-- why a map stops, if it does: other faults say that the source is not honest
abbrev pub stop_of : SigningFault → Option SurveyFault
stop_of signing.Read = Some (Stopped of.Read)
stop_of signing.OutOfMemory = Some OutOfMemory
stop_of _ = None
