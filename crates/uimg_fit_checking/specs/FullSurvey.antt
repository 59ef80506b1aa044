-- A survey, and all properties of configurations (Devicetree Specification, section 5.4).
use Rattle.std.specs.Prelude.{◌≡◌, ◌≤◌, ◌+◌, ◌*◌, ℕ, List, [], length, map, Option, Some, None}
use Rattle.std.specs.Prelude.{Result, Ok, Err, Vec, true}
use Rattle.std.specs.List.{All, sum_by}
use Rattle.uimg_base.specs.declared.spans.Span.{Span}
use Rattle.uimg_base.specs.Device.{Device}
use Rattle.uimg_blob_reading.specs.declared.places.PropertyPlace.{PropertyPlace}
use Rattle.uimg_blob_reading.specs.Counts.{nops_met}
use Rattle.uimg_blob_reading.specs.Indexed.{value_span}
use Rattle.uimg_blob_reading.specs.LookUps.{NodeOf, listed, configurations}
use Rattle.uimg_blob_reading.specs.Places.{read_place, EndsBy}
use Rattle.uimg_blob_reading.specs.Plain.{NamedOf, NodesOf, with_value}
use Rattle.uimg_blob_reading.specs.Spots.{Spot}
use Rattle.uimg_fit_base.specs.Files.{tree_of}
use Rattle.uimg_fit_base.specs.declared.fault.Fault.{Fault}
use Rattle.uimg_fit_checking.specs.SurveyParts.{SurveyInside, is_own}
use Rattle.uimg_fit_checking.specs.declared.surveying.facts.FullSurvey.{FullSurvey}
use Rattle.uimg_fit_checking.specs.declared.surveying.facts.Survey.{Survey}
use Rattle.uimg_fit_checking.specs.declared.surveying.fault.SurveyFault.{SurveyFault}

-- the names of a node's properties, in their order, and the spans of their values
abbrev pub properties_said : NodeOf Spot → List (NamedOf Span)
properties_said node = map (with_value value_span) node.own

-- the same for each child of the node `configurations`, if there is one
abbrev pub properties_in : Option (NodeOf Spot) → List (List (NamedOf Span))
properties_in (Some node) = map properties_said (listed node.below)
properties_in None = []

-- the same for a file's tree; a file without a tree has no configurations
abbrev pub properties_read : Result (NodesOf Spot) Fault → List (List (NamedOf Span))
properties_read (Ok t) = properties_in (configurations t)
properties_read (Err fault) = []

abbrev pub properties_of : List ℕ → List (List (NamedOf Span))
properties_of file = properties_read (tree_of file)

-- the names and spans of properties in a file
abbrev pub read_properties : {Z : Type 0} → List ℕ → Vec PropertyPlace Z → List (NamedOf Span)
read_properties file places = map (read_place file) places.items

-- the most bytes requested to list a node's properties, in a blob with `nops` FDT_NOP tokens: its
-- header and a word, for each a head and at most 256 bytes of a name, and the FDT_NOP tokens
abbrev pub list_cost : ℕ → List (NamedOf Span) → ℕ
list_cost nops said = 44 + 268 * length said + 4 * nops

-- the same for all configurations of a file
abbrev pub properties_cost : List ℕ → ℕ
properties_cost file = sum_by (list_cost (nops_met file)) (properties_of file)

-- Names and values end within `size` bytes, and no name has more than 255.
abbrev pub PlacesInside : {Z : Type 0} → ℕ → Vec PropertyPlace Z → Type 0
PlacesInside size places = All (EndsBy size) places.items

-- All values of the survey and the properties end within the blob, and the blob within the file.
pub record FullInside (size : ℕ) (full : FullSurvey) : Type 0 where
  pub survey : SurveyInside size full.survey
  pub properties : All (PlacesInside full.survey.totalsize) full.properties.items

-- the survey of a result
abbrev pub survey_in : Result FullSurvey SurveyFault → Result Survey SurveyFault
survey_in (Ok full) = Ok full.survey
survey_in (Err fault) = Err fault

-- The result has these facts, unless a read failed or memory was refused.
abbrev pub ReadsAs : {X Y : Type 0} → (X → Y) → Y → Result X SurveyFault → Type 0
ReadsAs read said (Ok x) = read x ≡ said
ReadsAs read said (Err fault) = is_own fault ≡ true

-- The same, and at most `cost` bytes more were requested.
pub record TellsFacts {X Y : Type 0} (read : X → Y) (said : Y) (cost : ℕ)
    (result : Result X SurveyFault)
    (old new : Device) : Type 0 where
  pub told : ReadsAs read said result
  pub asked : new.asked ≤ old.asked + cost

-- what a result says of the properties of one node
abbrev pub TellsProperties : {Z : Type 0} → Device → Device → NodeOf Spot
    → Result (Vec PropertyPlace Z) SurveyFault → Type 0
TellsProperties d e node result =
    TellsFacts (read_properties d.bytes) (properties_said node)
    (list_cost (nops_met d.bytes) (properties_said node)) result d e

-- the same for several lists of properties
abbrev pub TellsLists : {Z W : Type 0} → Device → Device → List (List (NamedOf Span))
    → Result (Vec (Vec PropertyPlace Z) W) SurveyFault → Type 0
TellsLists d e said result =
    TellsFacts (λ lists. map (read_properties d.bytes) lists.items) said
    (sum_by (list_cost (nops_met d.bytes)) said) result d e
