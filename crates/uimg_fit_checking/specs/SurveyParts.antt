-- What holds of a survey, besides its facts: where its spans end.
use Rattle.std.specs.Prelude.{◌≡◌, ◌≤◌, ◌+◌, ℕ, ⊤, List, IfOk, IfSome, IfErr, Option, Result, Ok}
use Rattle.std.specs.Prelude.{Err, Bool, true, false, Vec}
use Rattle.std.specs.List.{All}
use Rattle.uimg_base.specs.Device.{Device}
use Rattle.uimg_base.specs.Held.{Held}
use Rattle.uimg_base.specs.Lent.{Lent}
use Rattle.uimg_base.specs.Using.{Uses}
use Rattle.uimg_base.specs.declared.spans.Span.{Span}
use Rattle.uimg_fit_checking.specs.declared.surveying.facts.HashFacts.{HashFacts}
use Rattle.uimg_fit_reading.specs.PayloadPlaces.{Ends, PayloadInside}
use Rattle.uimg_fit_checking.specs.declared.surveying.facts.ImageFacts.{ImageFacts}
use Rattle.uimg_fit_checking.specs.declared.surveying.facts.ConfigurationFacts.{ConfigurationFacts}
use Rattle.uimg_fit_checking.specs.declared.surveying.facts.Survey.{Survey}
use Rattle.uimg_fit_checking.specs.declared.surveying.fault.SurveyFault.{SurveyFault}
use Rattle.uimg_fit_checking.specs.declared.surveying.fault.SurveyFault.TheVariants.{Stopped}
use Rattle.uimg_fit_checking.specs.declared.surveying.fault.SurveyFault.TheVariants.{OutOfMemory}
use Rattle.uimg_fit_checking.specs.declared.surveying.fault.SurveyFault.TheVariants.{Changed}
use Rattle.uimg_fit_checking.specs.Survey.{read_survey, survey_of}
use Rattle.uimg_blob_reading.specs.Faults.{refuses_memory}
use Rattle.uimg_fit_base.specs.declared.fault.Fault.TheVariants as of

-- A name ends within `size` bytes.
abbrev pub NameInside : ℕ → Span → Type 0
NameInside size name = name.place + name.length ≤ size

pub record HashInside (size : ℕ) (facts : HashFacts) : Type 0 where
  pub name : facts.name.place + facts.name.length ≤ size
  pub algo : Ends size facts.algo
  pub value : Ends size facts.value

pub record ImageInside (size : ℕ) (facts : ImageFacts) : Type 0 where
  pub name : facts.name.place + facts.name.length ≤ size
  pub description : Ends size facts.description
  pub kind : Ends size facts.kind
  pub arch : Ends size facts.arch
  pub os : Ends size facts.os
  pub compression : Ends size facts.compression
  pub load : Ends size facts.load
  pub entry : Ends size facts.entry
  pub payload : PayloadInside size facts.payload
  pub hashes : All (HashInside size) facts.hashes.items

pub record ConfigurationInside (size : ℕ) (facts : ConfigurationFacts) : Type 0 where
  pub name : facts.name.place + facts.name.length ≤ size
  pub description : Ends size facts.description
  pub kernel : Ends size facts.kernel
  pub ramdisk : Ends size facts.ramdisk
  pub fdt : Ends size facts.fdt
  pub loadables : Ends size facts.loadables
  pub firmware : Ends size facts.firmware
  pub fpga : Ends size facts.fpga
  pub setup : Ends size facts.setup
  pub standalone : Ends size facts.standalone
  pub script : Ends size facts.script
  pub nodes : All (NameInside size) facts.nodes.items

-- Each value ends within the blob, and the blob within the file.
pub record SurveyInside (size : ℕ) (facts : Survey) : Type 0 where
  pub blob : facts.totalsize ≤ size
  pub description : Ends facts.totalsize facts.description
  pub timestamp : Ends facts.totalsize facts.timestamp
  pub images : All (ImageInside facts.totalsize) facts.images.items
  pub preferred : Ends facts.totalsize facts.preferred
  pub configurations : All (ConfigurationInside facts.totalsize) facts.configurations.items

-- the result is a failed read
abbrev pub is_unread : {X : Type 0} → Result X SurveyFault → Bool
is_unread (Err (Stopped of.Read)) = true
is_unread _ = false

-- the result is that memory for the table of nodes was refused
abbrev pub lacks_room : {X : Type 0} → Result X SurveyFault → Bool
lacks_room (Err (Stopped (of.Blob fault at))) = refuses_memory fault
lacks_room _ = false

-- the result is that the source changed
abbrev pub is_changed : {X : Type 0} → Result X SurveyFault → Bool
is_changed (Err Changed) = true
is_changed _ = false

-- The result is the facts of the file or its first fault, unless a read or memory failed.
abbrev pub Surveys : List ℕ → Result Survey SurveyFault → Type 0
Surveys file (Ok survey) = survey_of file ≡ Ok (read_survey file survey)
Surveys file (Err (Stopped (of.Blob fault at))) =
    refuses_memory fault ≡ false → survey_of file ≡ Err (of.Blob fault at)
Surveys file (Err (Stopped (of.Fit fault))) = survey_of file ≡ Err (of.Fit fault)
Surveys file (Err (Stopped of.Read)) = ⊤
Surveys file (Err (Stopped of.Put)) = ⊥
Surveys file (Err OutOfMemory) = ⊤
Surveys file (Err Changed) = ⊥

-- the fault is a failed read or refused memory, not one of the image
abbrev pub is_own : SurveyFault → Bool
is_own (Stopped of.Read) = true
is_own OutOfMemory = true
is_own _ = false

abbrev pub IsOwn : {X : Type 0} → Result X SurveyFault → Type 0
IsOwn result = IfErr result (λ fault. is_own fault ≡ true)

-- All facts of a result end within `size` bytes.
abbrev pub AllInside : {X Z E : Type 0} → (ℕ → X → Type 0) → Result (Vec X Z) E → ℕ → Type 0
AllInside Inside result size = IfOk result (λ found. All (Inside size) found.items)

-- Source and room are unchanged, and a failure was counted exactly if it is returned.
pub record LeavesSurveyBetween {X : Type 0} (result : Result X SurveyFault) (d e : Device)
    (old new : Held) : Type 0 where
  pub uses : Uses (is_unread result) d e
  pub room : new ≡ old
  pub no_table : lacks_room result ≡ false

abbrev pub LeavesSurvey : {S X : Type 0} → Result X SurveyFault → (S → Device) → Lent S → Lent Held
    → Type 0
LeavesSurvey result device source room =
    LeavesSurveyBetween result (device source.entry.now) (device source.exit.now) room.entry.now
    room.exit.now
