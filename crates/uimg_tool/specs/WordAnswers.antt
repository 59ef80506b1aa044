-- What a command line of `uimg` answers, over the files of a world.
use Rattle.std.specs.Prelude.{◌≡◌, ◌⊎◌, ℕ, List, IsTrue, Option, Some, None, Result, Ok, Err}
use Rattle.uimg_base.specs.{Device.Device, Named.FileMap}
use Rattle.uimg_cli.specs.{FaultTexts.text_of, Reading.ReadsWords}
use Rattle.uimg_cli.specs.declared.command_line.Asked.{Asked}
use Rattle.uimg_cli.specs.declared.command_line.words_fault.WordsFault.{WordsFault}
use Rattle.uimg_cli.specs.declared.command_line.words_fault.WordsFault.TheVariants.{NoCommand}
use Rattle.uimg_tool.specs.{Commands.{Changes, Guards, Means}, Complaints.{AddsText, ComplainsBetween}, Programs.{epoch_of, words_of}, Statuses.words_status}
use Rattle.uimg_tool.specs.declared.{command_line.CommandLine.CommandLine, complaints.Complaints.Complaints}
use Rattle.uimg_world.specs.Deeds.{Deed}
use Rattle.uimg_world.specs.declared.file_id.FileId.{FileId}

-- what an output holds that is returned, unless it is lost
abbrev pub printed : {W : Type 0} → (W → Option (List ℕ)) → Option W → Option (List ℕ)
printed contents None = None
printed contents (Some out) = contents out

-- What is wrong with words is told in a line; of words that are no command, a text that says why.
abbrev pub ComplainsWords : {V : Type 0} → (V → Option (List ℕ)) → WordsFault → (old new : Complaints V) → Type 0
ComplainsWords contents (NoCommand text) old new = AddsText contents (text_of (NoCommand text)) old new
ComplainsWords contents fault old new = ComplainsBetween contents (Some (Some (text_of fault))) old new

-- what an output has, if contracts know that, what standard error has, and the calls that were made
pub record Seen (V : Type 0) : Type 0 where
  pub text : Option (List ℕ)
  pub err : Complaints V
  pub trace : List Deed

-- A request is carried out. Over an honest world, unless the status is 3, it came to something that it means, which was
-- told. No more is changed than it changes, or memory was refused before anything was done. What it keeps to is kept.
pub record CarriesOut {K V : Type 0} (device : K → Device) (identities : List ℕ → Option FileId) (contents : V → Option (List ℕ)) (asked : Asked)
    (files : FileMap) (status : ℕ) (old new : Seen V) : Type 0 where
  pub means : IsTrue files.honest → (status ≡ 3) ⊎ ((told : Option (Option (List ℕ)))
      × Means device identities asked files old.trace new.trace status told old.text new.text × ComplainsBetween contents told old.err new.err)
  pub changes : ((status ≡ 3) × (new.trace ≡ old.trace)) ⊎ Changes asked old.trace new.trace
  pub guards : Guards asked files status old.trace new.trace

-- words are refused: nothing is done or printed
pub record Refuses {V : Type 0} (contents : V → Option (List ℕ)) (fault : WordsFault) (status : ℕ) (old new : Seen V) : Type 0 where
  pub is : status ≡ words_status fault
  pub told : ComplainsWords contents fault old.err new.err
  pub unprinted : new.text ≡ old.text
  pub undone : new.trace ≡ old.trace

abbrev pub AnswersRead : {K V : Type 0} → (K → Device) → (List ℕ → Option FileId) → (V → Option (List ℕ)) → Result Asked WordsFault → FileMap → ℕ → (old new : Seen V) → Type 0
AnswersRead device identities contents (Ok asked) files status old new = CarriesOut device identities contents asked files status old new
AnswersRead device identities contents (Err fault) files status old new = Refuses contents fault status old new

-- What the definition of command lines reads from the words is carried out, or they are refused.
pub record AnswersLine {K V : Type 0} (device : K → Device) (identities : List ℕ → Option FileId) (contents : V → Option (List ℕ)) (line : CommandLine)
    (files : FileMap) (status : ℕ) (old new : Seen V) : Type 0 where
  pub asked : Result Asked WordsFault
  pub reads : ReadsWords (epoch_of line) line.time (words_of line) asked
  pub answers : AnswersRead device identities contents asked files status old new
