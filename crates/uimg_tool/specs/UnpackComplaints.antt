-- What an unpacking prints on standard error, over the files of a world.
use Rattle.std.specs.Prelude.{◌≡◌, ◌⊎◌, ℕ, List, codes, Bool, true, false, IsTrue, Vec, is_some, Option, Some, None, if◌then◌else◌}
use Rattle.std.specs.{Borrow.Bor, BTreeSet.BTreeSet, Global.Global, Option.option_copied}
use Rattle.uimg_base.specs.Named.{FileMap}
use Rattle.uimg_cli.specs.declared.command_line.unpack.UnpackRequest.{UnpackRequest}
use Rattle.uimg_engine.specs.{FaultTexts.text_of, Headline.is_fit}
use Rattle.uimg_requests.specs.declared.command.Form.TheVariants as form
use Rattle.uimg_checks.specs.{CheckEnds.Shows, Lines.answer_line, Verdicts.verdict_of, declared.{answer.Answer.Answer, judging.Terms.Terms}}
use Rattle.uimg_verifying.specs.declared.required.Required.{Required}
use Rattle.uimg_tool.specs.{EndingStatuses.ending_status, Statuses.is_of_command, UnpackEnds.end_of, Unpackings.{IsChosen, IsUnchosen, signed_terms, unpacking_of}}
use Rattle.uimg_tool.specs.declared.unpack_answers.Ending.{Ending}
use Rattle.uimg_tool.specs.declared.unpack_answers.Ending.TheVariants as ending
use Rattle.uimg_unpacking.specs.Ends.{EndsByFile}
use Rattle.uimg_unpacking.specs.declared.unpacking.Ended.{Ended}
use Rattle.uimg_unpacking.specs.declared.unpacking.Unpacking.{Unpacking}

-- How the unpacking of a file can end: for a FIT image, unless something fails, as the definition says.
abbrev pub EndsIn : Bool → Unpacking → List ℕ → Ending → Type 0
EndsIn true asked file end = (ended : Ended) × (end ≡ end_of ended) × EndsByFile asked file ended
EndsIn false asked file end = (ended : Ended) × (end ≡ end_of ended)

-- Or a read of it failed.
abbrev pub EndsOver : Unpacking → List ℕ → Ending → Type 0
EndsOver asked file end = (ending_status end ≡ 3) ⊎ EndsIn (is_fit form.Guess file) asked file end

-- the same of a request, with the images that are chosen in the file
pub record EndsChosen (asked : UnpackRequest) (path : Bor (List ℕ)) (file : List ℕ) (end : Ending) : Type 0 where
  pub among : Option (Bor (BTreeSet (Vec ℕ Global)))
  pub chosen : IsChosen asked.config file (option_copied among)
  pub ends : EndsIn (is_fit form.Guess file) (unpacking_of asked among None path) file end

-- of the file at a path, which can be opened or not
abbrev pub EndsAt : FileMap → UnpackRequest → Bor (List ℕ) → Ending → Type 0
EndsAt files asked path end =
    (ending_status end ≡ 3) ⊎ ((file : List ℕ) × (files.bytes path.now ≡ Some file) × EndsChosen asked path file end)

-- The end is an answer that shows why no image is chosen.
abbrev pub EndsUnchosen : UnpackRequest → List ℕ → Ending → Type 0
EndsUnchosen asked file end = (answer : Answer) × (end ≡ ending.Unsigned answer) × IsUnchosen asked.config file answer

-- The end is the answer of a check by keys, if there are any.
pub record EndsUnsigned (terms : Terms) (file : List ℕ) (end : Ending) : Type 0 where
  pub keyed : IsTrue (is_some terms.required)
  pub answer : Answer
  pub is : end ≡ ending.Unsigned answer
  pub shows : Shows answer (verdict_of terms file)

-- an unpacking that may end so
abbrev pub EndsSigned : Unpacking → Terms → List ℕ → Ending → Type 0
EndsSigned asked terms file end = EndsOver asked file end ⊎ EndsUnsigned terms file end

-- the end of the file at a path
abbrev pub EndsAsked : FileMap → UnpackRequest → Option Required → Bor (List ℕ) → Ending → Type 0
EndsAsked files asked keys path end = EndsAt files asked path end
    ⊎ ((file : List ℕ) × (files.bytes path.now ≡ Some file) × (EndsUnsigned (signed_terms asked keys) file end ⊎ EndsUnchosen asked file end))

-- What is told of an end: a fault, or a trouble, whose text is not defined, or the line of a check of the image at this
-- path. What was unpacked or is refused or weak has its lines on standard output.
abbrev pub told_of_ending : List ℕ → Ending → Option (Option (List ℕ))
told_of_ending path (ending.Told status) = None
told_of_ending path (ending.Unsigned answer) = Some (Some (answer_line path answer))
told_of_ending path ending.Unread = Some None
told_of_ending path ending.Weak = None
told_of_ending path ending.NoImage = Some (Some (codes "no image has a hash, as there is none"))
told_of_ending path (ending.Stopped fault) = Some (Some (text_of fault))
told_of_ending path (ending.Troubled trouble) = Some None

-- For JSON, objects on standard output have all of it but some troubles.
abbrev pub told_beside_object : Ending → Option (Option (List ℕ))
told_beside_object (ending.Troubled trouble) = if is_of_command trouble then Some None else None
told_beside_object end = None

abbrev pub told_of_unpacking : List ℕ → Bool → Ending → Option (Option (List ℕ))
told_of_unpacking path true end = told_beside_object end
told_of_unpacking path false end = told_of_ending path end
