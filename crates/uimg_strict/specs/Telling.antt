-- What the functions of a strict check return.
use Rattle.std.specs.Prelude.{◌≡◌, ◌≤◌, ◌+◌, ℕ, ⊤, List, map, Option, Result, Ok, Err, Vec}
use Rattle.std.specs.Prelude.{false}
use Rattle.std.specs.Option.{option_map}
use Rattle.uimg_base.specs.Device.{Device}
use Rattle.uimg_base.specs.Held.{Held}
use Rattle.uimg_blob_reading.specs.Faults.{refuses_memory}
use Rattle.uimg_blob_reading.specs.Grammar.{Siblings}
use Rattle.uimg_blob_reading.specs.LookUps.{NodeOf}
use Rattle.uimg_blob_reading.specs.Roles.{Level}
use Rattle.uimg_blob_reading.specs.Spots.{Spot}
use Rattle.uimg_blob_reading.specs.declared.nodes.Blob.{Blob}
use Rattle.uimg_blob_reading.specs.declared.places.PropertyPlace.{PropertyPlace}
use Rattle.uimg_fit_base.specs.declared.fault.Fault.TheVariants as of
use Rattle.uimg_fit_checking.specs.declared.surveying.fault.SurveyFault.{SurveyFault}
use Rattle.uimg_fit_checking.specs.declared.surveying.fault.SurveyFault.TheVariants.{Stopped}
use Rattle.uimg_fit_checking.specs.declared.surveying.fault.SurveyFault.TheVariants.{OutOfMemory}
use Rattle.uimg_fit_checking.specs.declared.surveying.fault.SurveyFault.TheVariants.{Changed}
use Rattle.uimg_fit_checking.specs.FullSurvey.{ReadsAs}
use Rattle.uimg_fit_reading.specs.Nodes.{AreFrom, Opened}
use Rattle.uimg_fit_reading.specs.Values.{in_span}
use Rattle.uimg_strict.specs.declared.loose.Loose.{Loose}
use Rattle.uimg_strict.specs.declared.node_names.NodeNames.{NodeNames}
use Rattle.uimg_strict.specs.Looseness.{LooseSaid, NodeSaid, looseness_of}

abbrev pub items_of : {Z : Type 0} → Vec ℕ Z → List ℕ
items_of name = name.items

-- the names in a vector
abbrev pub names_in : {Z W : Type 0} → Vec (Vec ℕ Z) W → List (List ℕ)
names_in names = map items_of names.items

abbrev pub read_names : NodeNames → NodeSaid
read_names names = record {
  name = names.name.items;
  children = names_in names.children;
  properties = names_in names.properties;
}

abbrev pub read_loose : Loose → LooseSaid
read_loose loose = record { why = loose.why; node = option_map items_of loose.node }

-- The result is what the definition says, unless a read failed or memory was refused.
abbrev pub TellsLoose : Option LooseSaid → Result (Option Loose) SurveyFault → Type 0
TellsLoose said result = ReadsAs (option_map read_loose) said result

-- The same for the whole file, whose faults are those of its blob, or that it has no images.
abbrev pub TellsLooseness : List ℕ → Result (Option Loose) SurveyFault → Type 0
TellsLooseness file (Ok found) = looseness_of file ≡ Ok (option_map read_loose found)
TellsLooseness file (Err (Stopped (of.Blob fault at))) =
    refuses_memory fault ≡ false → looseness_of file ≡ Err (of.Blob fault at)
TellsLooseness file (Err (Stopped (of.Fit fault))) = looseness_of file ≡ Err (of.Fit fault)
TellsLooseness file (Err (Stopped of.Read)) = ⊤
TellsLooseness file (Err (Stopped of.Put)) = ⊥
TellsLooseness file (Err OutOfMemory) = ⊤
TellsLooseness file (Err Changed) = ⊥

-- These nodes follow one another at some level, from the node of a number on.
pub record AnyFrom (t : Siblings) (next : Option ℕ) (found : List (NodeOf Spot)) : Type 0 where
  pub level : Level
  pub from : AreFrom t level next found

-- Over an honest device whose tree was read: a fact about the nodes from a number on.
abbrev pub OfAnyNodes : Device → Blob → Held → Option ℕ → (List (NodeOf Spot) → Type 0) → Type 0
OfAnyNodes d blob room first P =
    (t : Siblings) → Opened d blob room t → (found : List (NodeOf Spot))
    → AnyFrom t first found → P found

-- The name of a property ends within `size` bytes.
abbrev pub NameEnds : ℕ → PropertyPlace → Type 0
NameEnds size x = x.name.place + x.name.length ≤ size

-- the name of a property in a file
abbrev pub place_name : List ℕ → PropertyPlace → List ℕ
place_name file x = in_span file x.name
