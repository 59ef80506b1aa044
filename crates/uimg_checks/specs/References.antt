-- Names that a FIT image uses but lacks (Flattened Image Tree format, "'/configurations' node").
use Rattle.std.specs.Prelude.{◌≡◌, ℕ, List, [], ◌∷◌, map, Option, Some, None, Result, IfOk, IsTrue}
use Rattle.std.specs.Prelude.{Vec, if◌then◌else◌}
use Rattle.std.specs.BTreeSet.{BTreeSet}
use Rattle.std.specs.List.{find}
use Rattle.std.specs.Option.{option_map}
use Rattle.uimg_base.specs.Device.{Device}
use Rattle.uimg_base.specs.Lent.{Lent}
use Rattle.uimg_base.specs.Using.{Asks}
use Rattle.uimg_base.specs.declared.spans.Span.{Span}
use Rattle.uimg_fit_base.specs.Files.{bytes_in}
use Rattle.uimg_fit_checking.specs.Survey.{Said, ConfigurationSaid, read_configuration, read_survey}
use Rattle.uimg_fit_checking.specs.SurveyParts.{IsOwn, is_unread}
use Rattle.uimg_fit_reading.specs.Values.{pieces}
use Rattle.uimg_fit_checking.specs.declared.surveying.facts.ConfigurationFacts.{ConfigurationFacts}
use Rattle.uimg_fit_checking.specs.declared.surveying.facts.Survey.{Survey}
use Rattle.uimg_fit_checking.specs.declared.surveying.fault.SurveyFault.{SurveyFault}
use Rattle.uimg_checks.specs.declared.references.missing.Missing.{Missing}
use Rattle.uimg_checks.specs.declared.references.reference.Reference.{Reference}
use Rattle.uimg_checks.specs.declared.references.reference.Reference.TheVariants.{Default}
use Rattle.uimg_checks.specs.Given.{given_by, read_given}
use Rattle.uimg_checks.specs.ReferenceNames.{HasNames, is_lost, is_ended}

-- A missing name: the configuration that gives it, none for the default, and the property.
pub record MissingSaid : Type 0 where
  pub configuration : Option (List ℕ)
  pub reference : Reference
  pub name : List ℕ

-- a text that is lost, or else the whole value if it does not end with a NUL, as a name does
abbrev pub or_unended : Option (List ℕ) → List ℕ → Option (List ℕ)
or_unended (Some text) value = Some text
or_unended None value = if is_ended value then None else Some value

-- the first text of a value that is empty or not among these names, or else a value without its end
abbrev pub lost_in : List (List ℕ) → Option (List ℕ) → Option (List ℕ)
lost_in names None = None
lost_in names (Some value) = or_unended (find (is_lost names) (pieces value)) value

-- the same with the configuration and the property that give it
abbrev pub missing_under : List (List ℕ) → Option (List ℕ) → Reference → Option (List ℕ)
    → Option MissingSaid
missing_under names giver property value =
    option_map (λ text. record {
      configuration = giver;
      reference = property;
      name = text;
    }) (lost_in names value)

-- the first of two, if there is one
abbrev pub earlier_missing : Option MissingSaid → Option MissingSaid → Option MissingSaid
earlier_missing (Some found) later = Some found
earlier_missing None later = later

-- the first in the values of several properties
abbrev pub missing_among : List (List ℕ) → Option (List ℕ) → List (Reference × Option (List ℕ))
    → Option MissingSaid
missing_among names giver [] = None
missing_among names giver (given ∷ more) =
    earlier_missing (missing_under names giver given.0 given.1) (missing_among names giver more)

-- the first name in a configuration that no image has
abbrev pub missing_of : List (List ℕ) → ConfigurationSaid → Option MissingSaid
missing_of images c = missing_among images (Some c.name) (given_by c)

-- the first in several configurations
abbrev pub first_missing : List (List ℕ) → List ConfigurationSaid → Option MissingSaid
first_missing images [] = None
first_missing images (c ∷ cs) = earlier_missing (missing_of images c) (first_missing images cs)

-- the default, if no configuration has its name, or else the first name that no image has
abbrev pub missing_in : Said → Option MissingSaid
missing_in said =
    earlier_missing
    (missing_under (map (λ c. c.name) said.configurations) None Default said.preferred)
    (first_missing (map (λ i. i.name) said.images) said.configurations)

-- a missing name, read in a file
abbrev pub read_missing : List ℕ → Missing → MissingSaid
read_missing file missing =
    record {
      configuration = bytes_in file missing.configuration;
      reference = missing.reference;
      name = missing.name.items;
    }

-- The result is what is missing in a file.
abbrev pub TellsMissing : List ℕ → Option MissingSaid → Result (Option Missing) SurveyFault → Type 0
TellsMissing file said result = IfOk result (λ found. option_map (read_missing file) found ≡ said)

-- What is missing by spans of values: for one property or several, one configuration or several.
abbrev pub under_property : Option Span → Reference → Option Span → List (List ℕ) → List ℕ
    → Option MissingSaid
under_property giver property value names file =
    missing_under names (bytes_in file giver) property (bytes_in file value)

abbrev pub among_properties : Option Span → List (Reference × Option Span) → List (List ℕ) → List ℕ
    → Option MissingSaid
among_properties giver properties names file =
    missing_among names (bytes_in file giver) (map (read_given file) properties)

abbrev pub of_configuration : ConfigurationFacts → List (List ℕ) → List ℕ → Option MissingSaid
of_configuration configuration images file =
    missing_of images (read_configuration file configuration)

abbrev pub of_configurations : List ConfigurationFacts → List (List ℕ) → List ℕ → Option MissingSaid
of_configurations configurations images file =
    first_missing images (map (read_configuration file) configurations)

-- At most `most` bytes were requested; only failed reads, which are counted, and refused memory are
-- faults. Over an honest source, with the names of a list as set, it finds what is missing.
pub record SeeksBetween {Z : Type 0} (most : ℕ) (said : List (List ℕ) → List ℕ → Option MissingSaid)
    (names : BTreeSet (Vec ℕ Z)) (result : Result (Option Missing) SurveyFault) (d e : Device)
    : Type 0 where
  pub uses : Asks most (is_unread result) d e
  pub own : IsOwn result
  pub told : IsTrue d.honest → (list : List (List ℕ)) → HasNames names list
      → TellsMissing d.bytes (said list d.bytes) result

abbrev pub Seeks : {S Z : Type 0} → ℕ → (List (List ℕ) → List ℕ → Option MissingSaid)
    → BTreeSet (Vec ℕ Z) → Result (Option Missing) SurveyFault → (S → Device) → Lent S → Type 0
Seeks most said names result device source =
    SeeksBetween most said names result (device source.entry.now) (device source.exit.now)

-- Over an honest source the result is what is missing in a survey.
abbrev pub TellsFirst : {S : Type 0} → Survey → Result (Option Missing) SurveyFault → (S → Device)
    → Lent S → Type 0
TellsFirst survey result device source = IsTrue (device source.entry.now).honest
    → TellsMissing (device source.entry.now).bytes
    (missing_in (read_survey (device source.entry.now).bytes survey)) result
