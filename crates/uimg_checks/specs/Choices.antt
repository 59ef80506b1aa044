-- The images that a configuration names: what a board boots (Flattened Image Tree format,
-- "'/configurations' node"; U-Boot's fit_conf_get_node).
use Rattle.std.specs.Prelude.{◌≡◌, ⊤, ℕ, List, [], flat_map, map, codes, Option, Some, None, Result, Ok, Err}
use Rattle.std.specs.Prelude.{Bool, true, false, Vec, if◌then◌else◌}
use Rattle.std.specs.BTreeSet.{BTreeSet}
use Rattle.std.specs.List.{find}
use Rattle.std.specs.Str.{bytes_eq}
use Rattle.uimg_texts.specs.Nul.{text}
use Rattle.uimg_engine.specs.{Faults.of_fit, Headline.is_fit}
use Rattle.uimg_fit_base.specs.declared.fault.Fault.{Fault as FitEngineFault}
use Rattle.uimg_fit_checking.specs.Survey.{ConfigurationSaid, Said, survey_of}
use Rattle.uimg_fit_reading.specs.Values.{pieces}
use Rattle.uimg_requests.specs.declared.command.Form.TheVariants as form
use Rattle.uimg_blob_reading.specs.Faults.{refuses_memory}
use Rattle.uimg_engine.specs.declared.fault.Fault.{Fault}
use Rattle.uimg_engine.specs.declared.fault.Fault.TheVariants as engine
use Rattle.uimg_fit_base.specs.declared.fault.Fault.TheVariants as of
use Rattle.uimg_fit_checking.specs.declared.surveying.fault.SurveyFault.{SurveyFault}
use Rattle.uimg_fit_checking.specs.declared.surveying.fault.SurveyFault.TheVariants.{Stopped, OutOfMemory, Changed}
use Rattle.uimg_checks.specs.CheckEnds.{Shows}
use Rattle.uimg_checks.specs.Given.{given_by}
use Rattle.uimg_checks.specs.ReferenceNames.{HasNames, is_ended}
use Rattle.uimg_checks.specs.References.{MissingSaid, missing_of, read_missing}
use Rattle.uimg_checks.specs.Verdicts.{Lacks, Refuses}
use Rattle.uimg_checks.specs.declared.answer.Answer.{Answer, TheVariants.{Failed, Refused}}
use Rattle.uimg_checks.specs.declared.choosing.Choice.{Choice}
use Rattle.uimg_checks.specs.declared.choosing.Choice.TheVariants.{Names, Lost}
use Rattle.uimg_checks.specs.declared.references.reference.Reference.{Reference}
use Rattle.uimg_checks.specs.declared.references.reference.Reference.TheVariants.{Default, Requested}

-- the names in a value
abbrev pub names_in : Option (List ℕ) → List (List ℕ)
names_in None = []
names_in (Some value) = pieces value

-- the names in the values of several properties
abbrev pub names_among : List (Reference × Option (List ℕ)) → List (List ℕ)
names_among given = flat_map (λ one. names_in one.1) given

-- a name without a configuration: one that is requested, or that of the property `default`
abbrev pub lost : Reference → List ℕ → MissingSaid
lost property name = record { configuration = None; reference = property; name = name }

-- the names of images that a configuration gives, or the first that no image has
abbrev pub named_or : Option MissingSaid → List (List ℕ) → Result (List (List ℕ)) MissingSaid
named_or (Some missing) names = Err missing
named_or None names = Ok names

abbrev pub images_among : List (List ℕ) → ConfigurationSaid → Result (List (List ℕ)) MissingSaid
images_among images c = named_or (missing_of images c) (names_among (given_by c))

abbrev pub image_names_of : Said → List (List ℕ)
image_names_of said = map (λ i. i.name) said.images

abbrev pub images_of : Said → ConfigurationSaid → Result (List (List ℕ)) MissingSaid
images_of said c = images_among (image_names_of said) c

-- the first configuration of a name
abbrev pub configuration_of : List ℕ → List ConfigurationSaid → Option ConfigurationSaid
configuration_of name configurations = find (λ c. bytes_eq name c.name) configurations

-- the same of a configuration, if there is one of a name
abbrev pub images_if : Said → MissingSaid → Option ConfigurationSaid
    → Result (List (List ℕ)) MissingSaid
images_if said missing (Some c) = images_of said c
images_if said missing None = Err missing

-- The default is the text of the property `default`, which ends with a NUL.
abbrev pub default_images : Said → Option (List ℕ) → Result (List (List ℕ)) MissingSaid
default_images said None = Err (lost Requested (codes "default"))
default_images said (Some value) = if is_ended value
    then images_if said (lost Default (text value)) (configuration_of (text value) said.configurations)
    else Err (lost Default value)

-- The name `default` is that of the default, unless a configuration has it.
abbrev pub other_images : List ℕ → Said → Result (List (List ℕ)) MissingSaid
other_images asked said = if bytes_eq asked (codes "default")
    then default_images said said.preferred else Err (lost Requested asked)

abbrev pub images_by : List ℕ → Said → Option ConfigurationSaid
    → Result (List (List ℕ)) MissingSaid
images_by asked said (Some c) = images_of said c
images_by asked said None = other_images asked said

-- the names of images that the requested configuration gives, or the first thing that is missing
unfoldable pub images_named : List ℕ → Said → Result (List (List ℕ)) MissingSaid
images_named asked said = images_by asked said (configuration_of asked said.configurations)

-- Why a file has no such images: something is missing, it is refused, or it is a legacy image, which
-- has no configuration.
pub data Unchosen : Type 0 where
  lacks : MissingSaid → Unchosen
  refuses : Fault → Unchosen
  is_legacy : Unchosen

abbrev pub or_lacks : Result (List (List ℕ)) MissingSaid → Result (List (List ℕ)) Unchosen
or_lacks (Ok names) = Ok names
or_lacks (Err missing) = Err (lacks missing)

abbrev pub chosen_from : List ℕ → Result Said FitEngineFault → Result (List (List ℕ)) Unchosen
chosen_from asked (Ok said) = or_lacks (images_named asked said)
chosen_from asked (Err fault) = Err (refuses (of_fit fault))

-- the same for a file
abbrev pub chosen_by : Bool → List ℕ → List ℕ → Result (List (List ℕ)) Unchosen
chosen_by true asked file = chosen_from asked (survey_of file)
chosen_by false asked file = Err is_legacy

abbrev pub chosen_of : List ℕ → List ℕ → Result (List (List ℕ)) Unchosen
chosen_of asked file = chosen_by (is_fit form.Guess file) asked file

-- A choice is this one, read in a file.
abbrev pub IsChoice : List ℕ → Result (List (List ℕ)) MissingSaid → Choice → Type 0
IsChoice file said (Names names) = (list : List (List ℕ)) × (said ≡ Ok list) × HasNames names list
IsChoice file said (Lost missing) = said ≡ Err (read_missing file missing)

-- The result is this choice, unless a read failed, memory was refused, or the file was another one
-- when it was read again.
abbrev pub TellsChoice : Result (List (List ℕ)) Unchosen → List ℕ → Result Choice SurveyFault → Type 0
TellsChoice chosen file (Ok (Names names)) =
    (list : List (List ℕ)) × (chosen ≡ Ok list) × HasNames names list
TellsChoice chosen file (Ok (Lost missing)) = chosen ≡ Err (lacks (read_missing file missing))
TellsChoice chosen file (Err (Stopped (of.Blob fault at))) =
    refuses_memory fault ≡ false → chosen ≡ Err (refuses (engine.Blob fault at))
TellsChoice chosen file (Err (Stopped (of.Fit fault))) = chosen ≡ Err (refuses (engine.Fit fault))
TellsChoice chosen file (Err (Stopped of.Read)) = ⊤
TellsChoice chosen file (Err (Stopped of.Put)) = ⊥
TellsChoice chosen file (Err OutOfMemory) = ⊤
TellsChoice chosen file (Err Changed) = ⊤

-- The answer is that the command failed.
abbrev pub IsFailed : Answer → Type 0
IsFailed (Failed stop) = ⊤
IsFailed answer = ⊥

-- The answer is that a legacy image is refused, or that the command failed.
abbrev pub ShowsLegacy : Answer → Type 0
ShowsLegacy (Refused stop) = stop.message.now ≡ codes "a legacy image has no configuration"
ShowsLegacy answer = IsFailed answer

-- The answer shows why no image is chosen, or that the command failed.
abbrev pub ShowsUnchosen : Answer → Result (List (List ℕ)) Unchosen → Type 0
ShowsUnchosen answer (Ok names) = IsFailed answer
ShowsUnchosen answer (Err (lacks missing)) = Shows answer (Lacks missing)
ShowsUnchosen answer (Err (refuses fault)) = Shows answer (Refuses fault)
ShowsUnchosen answer (Err is_legacy) = ShowsLegacy answer

-- The result is the names of the definition, as a set, or an answer that shows why there are none.
abbrev pub Chooses : {Z : Type 0} → Result (List (List ℕ)) Unchosen → Result (BTreeSet (Vec ℕ Z)) Answer
    → Type 0
Chooses chosen (Ok names) = (list : List (List ℕ)) × (chosen ≡ Ok list) × HasNames names list
Chooses chosen (Err answer) = ShowsUnchosen answer chosen
