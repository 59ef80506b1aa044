-- The checks of many images: what is answered of each, in order.
use Rattle.std.specs.Prelude.{◌≡◌, ◌⊎◌, ℕ, max, List, [], ◌∷◌, codes, Option, Some, None, Bool, true, false, ◌&&◌, if◌then◌else◌, IsTrue, IfSome, option_map}
use Rattle.std.specs.{Borrow.Bor, Io.KnownBytes.Appends, List.list_all, Str.bytes_eq}
use Rattle.uimg_base.specs.Named.{FileMap}
use Rattle.uimg_checks.specs.Answers.{answer_status, answer_word}
use Rattle.uimg_checks.specs.declared.answer.Answer.{Answer}
use Rattle.uimg_tool.specs.declared.keys.Keyed.{Keyed}
use Rattle.uimg_checks.specs.{CheckEnds.Shows, TestReports.{Reported, reported, with_case}, Verdicts.verdict_of}
use Rattle.uimg_tool.specs.{AnswerTexts.answer_text, Paths.{is_name, paths_in}}
use Rattle.uimg_tool.specs.declared.checks.Checks.{Checks}
use Rattle.uimg_world.specs.Deeds.{Deed, Explains, Opens, Reads}
use Rattle.uimg_world.specs.declared.call.Answer.TheVariants.{Done}

-- The greatest status so far, whether any image was checked, how many files below a folder were skipped,
-- the report, if one is requested, what the output has, if contracts know it, and what the world was
-- asked.
pub record Told : Type 0 where
  pub greatest : ℕ
  pub has_checked : Bool
  pub skipped : ℕ
  pub report : Option Reported
  pub text : Option (List ℕ)
  pub trace : List Deed

abbrev pub told : Checks → Option (List ℕ) → List Deed → Told
told checks text trace = record {
  greatest = checks.greatest;
  has_checked = checks.has_checked;
  skipped = checks.skipped;
  report = option_map reported checks.report;
  text = text;
  trace = trace;
}

-- The file at a path was opened, or it was asked why it cannot be; or nothing was, as of a path that is
-- no text.
abbrev pub LooksAt : List ℕ → List Deed → List Deed → Type 0
LooksAt path before after = (after ≡ Opens path true ∷ before)
    ⊎ (after ≡ Explains path ∷ Opens path false ∷ before) ⊎ (after ≡ before)

-- what is written for an answer: nothing for one that is ok, if it is to be quiet
abbrev pub text_for : Keyed → List ℕ → Answer → List ℕ
text_for asked path answer =
    if asked.request.now.is_quiet && bytes_eq (answer_word answer) (codes "ok") then []
    else answer_text asked.request.now.as_json path answer

-- The answer shows the verdict about the bytes of a file, or else that the check failed. It failed if
-- there is no file.
abbrev pub AnswersBytes : Keyed → Option (List ℕ) → Answer → Type 0
AnswersBytes asked None answer = answer_status answer ≡ 3
AnswersBytes asked (Some file) answer = Shows answer (verdict_of asked.terms file)

-- the answer about the file at a path, if the files are honest
abbrev pub AnswersFile : FileMap → Keyed → List ℕ → Answer → Type 0
AnswersFile files asked path answer =
    IsTrue files.honest → AnswersBytes asked (files.bytes path) answer

-- a report, if one is requested, has the test case of an answer
abbrev pub IsReported : List ℕ → Answer → Option Reported → Option Reported → Type 0
IsReported path answer old new = new ≡ option_map (with_case path answer) old

-- The image at a path is answered: its file decides the answer, the status counts, its text is
-- written, a report has its test case, and no other file is asked for.
pub record IsAnswered (files : FileMap) (asked : Keyed) (path : List ℕ) (answer : Answer) (old new : Told) : Type 0 where
  pub file : AnswersFile files asked path answer
  pub status : new.greatest ≡ max old.greatest (answer_status answer)
  pub counted : new.has_checked ≡ true
  pub skipped : new.skipped ≡ old.skipped
  pub reported : IsReported path answer old.report new.report
  pub written : Appends old.text new.text (text_for asked path answer)
  pub looked : LooksAt path old.trace new.trace

abbrev pub Answers : FileMap → Keyed → List ℕ → Told → Told → Type 0
Answers files asked path old new = (answer : Answer) × IsAnswered files asked path answer old new

-- each of some images, in order
abbrev pub AnswersEach : FileMap → Keyed → List (List ℕ) → Told → Told → Type 0
AnswersEach files asked [] old new = new ≡ old
AnswersEach files asked (path ∷ paths) old new =
    (next : Told) × Answers files asked path old next × AnswersEach files asked paths next new

-- no image for an empty name
abbrev pub AnswersUnlessEmpty : FileMap → Keyed → List ℕ → Told → Told → Type 0
AnswersUnlessEmpty files asked [] old new = new ≡ old
AnswersUnlessEmpty files asked (byte ∷ rest) old new = Answers files asked (byte ∷ rest) old new

-- the path of the file of names; `-` is standard input
abbrev pub names_path : List ℕ → List ℕ
names_path path = if bytes_eq path (codes "-") then codes "/dev/stdin" else path

-- the byte after each name
abbrev pub names_end : Keyed → ℕ
names_end asked = if asked.request.now.has_nuls then 0 else 10

-- The names are those in the file, if the files are honest; none is empty.
pub record AreNames (files : FileMap) (asked : Keyed) (path : List ℕ) (names : List (List ℕ)) : Type 0 where
  pub some : list_all is_name names ≡ true
  pub file : IsTrue files.honest
      → IfSome (files.bytes (names_path path)) (λ file. names ≡ paths_in (names_end asked) file)

-- the same after the file of names was opened
abbrev pub after_names : List ℕ → Told → Told
after_names path old = record old { trace = Reads (names_path path) Done ∷ old.trace }

-- images whose names a file has
abbrev pub AnswersNamed : FileMap → Keyed → List ℕ → Told → Told → Type 0
AnswersNamed files asked path old new = (names : List (List ℕ)) × AreNames files asked path names
    × AnswersEach files asked names (after_names path old) new

-- those that a file names, if one is given
abbrev pub AnswersFrom : FileMap → Keyed → Option (Bor (List ℕ)) → Told → Told → Type 0
AnswersFrom files asked None old new = new ≡ old
AnswersFrom files asked (Some path) old new = AnswersNamed files asked path.now old new
