-- The paths that are left below a folder, and the files among them that begin as images.
use Rattle.std.proofs.Common.{◌≡◌, ◌⊎◌, ℕ, max, List, [], ◌∷◌, ◌++◌, map, reverse, length, Bool, true, false, not, ◌&&◌, Vec, Global, vec_items, Option, Some, None, Result, Ok, Err, IfOk, IfSome, IsTrue, option_map, refl, ap, sym, subst, subst₂, inl, inr, ◌∙◌}
use mathlib.Core.List.{map-append, reverse-append, reverse-reverse}
use Rattle.std.proofs.lemmas.List.{nil_from_length}
use Rattle.uimg_base.specs.{Device.Device, Named.{FileMap, Opens, SameFiles}}
use Rattle.uimg_checks.specs.{Answers.answer_status, CheckEnds.AnswersLine, TestReports.reported}
use Rattle.uimg_checks.specs.declared.answer.Answer.{Answer}
use Rattle.std.specs.Io.KnownBytes.{Appends}
use Rattle.uimg_tool.specs.{Below.{AnswersAt, AnswersBelow, AnswersBy, AnswersFound, AnswersGiven, AnswersTarget, Begins, Stands, all, asking, begins_as_image, more}, Checks.{Answers, AnswersFile, IsReported, LooksAt, Told, text_for, told}, FolderPaths.ArePathsIn}
use Rattle.uimg_cli.specs.Check.{is_input}
use Rattle.uimg_tool.specs.declared.checks.Checks.{Checks}
use Rattle.uimg_tool.specs.declared.keys.Keyed.{Keyed}
use Rattle.uimg_tool.proofs.CheckLaws.{failed_bytes, failed_file}
use Rattle.uimg_tool.proofs.SameLaws.{at_same, found_same, stands_same}
use Rattle.uimg_world.specs.Deeds.{Deed, Lists, Looks}
use Rattle.uimg_world.specs.declared.kind.Kind.{Kind}
use Rattle.uimg_world.specs.declared.kind.Kind.TheVariants as kind
use Rattle.uimg_world.specs.declared.kind.Target.TheVariants as target

-- a failure has status 3
pub failed_status : (asked : Keyed) (answer : Answer) → AnswersLine false answer → answer_status answer ≡ 3
failed_status asked answer told = failed_bytes asked None answer told

-- the file that was opened begins so
pub begun : (files : FileMap) (path : List ℕ) (is_image : Bool) (d : Device) → Opens files path d → (IsTrue d.honest → is_image ≡ begins_as_image d.bytes) → Begins files path is_image
begun files path is_image d opens is honest =
    subst (λ (file : Option (List ℕ)). IfSome file (λ bytes. begins_as_image bytes ≡ is_image)) (sym (opens.bytes honest)) (sym (is (opens.honest honest)))

-- the paths of a list from its end
abbrev pub from_end : List (Vec ℕ Global) → List (List ℕ)
from_end left = map vec_items (reverse left)

-- no path is left
pub none_left : (files : FileMap) (asked : Keyed) (left : List (Vec ℕ Global)) (told : Told) → length left ≡ 0 → AnswersBelow files asked (from_end left) told told
none_left files asked left told none = all (ap from_end (nil_from_length left none)) refl

-- the last path is taken, and what it stands for is put back in its place
pub one_taken : (files then_files : FileMap) (asked : Keyed) (whole left within turned new : List (Vec ℕ Global)) (path : Vec ℕ Global) (bytes : List ℕ) (cur next last : Told) → SameFiles files then_files → bytes ≡ path.items
    → whole ≡ left ++ path ∷ [] → turned ≡ reverse within → new ≡ left ++ turned → Stands then_files asked bytes (map vec_items within) cur next
    → AnswersBelow files asked (from_end new) next last → AnswersBelow files asked (from_end whole) cur last
one_taken files then_files asked whole left within turned new path bytes cur next last same bytes_are whole_is turned_is new_is stands below =
    more path.items (map vec_items within) (from_end left) next (ap from_end whole_is ∙ ap (map vec_items) (reverse-append left (path ∷ [])))
    (subst (λ (p : List ℕ). Stands files asked p (map vec_items within) cur next) bytes_are (stands_same files then_files same asked bytes (map vec_items within) cur next stands))
    (subst (λ (paths : List (List ℕ)). AnswersBelow files asked paths next last) is below) where
      is : from_end new ≡ map vec_items within ++ from_end left
      is =
          ap from_end (new_is ∙ ap (λ (l : List (Vec ℕ Global)). left ++ l) turned_is)
          ∙ ap (map vec_items) (reverse-append left (reverse within) ∙ ap (λ (l : List (Vec ℕ Global)). l ++ reverse left) (reverse-reverse within))
          ∙ map-append vec_items within (reverse left)

-- standard input
pub as_input : (files : FileMap) (asked : Keyed) (path : List ℕ) (old new : Told) → is_input path ≡ true → Answers files asked path old new
    → AnswersGiven files asked path old new
as_input files asked path old new is answers =
    subst (λ (b : Bool). AnswersBy (not b && asked.request.now.is_recursive) files asked path old new) (sym is) answers

-- an image that is given where folders stand for themselves
pub as_given : (files : FileMap) (asked : Keyed) (path text : List ℕ) (old new : Told) → is_input text ≡ false → asked.request.now.is_recursive ≡ false → path ≡ text → Answers files asked path old new
    → AnswersGiven files asked text old new
as_given files asked path text old new no_input is same answers =
    subst₂ (λ (a b : Bool). AnswersBy (not a && b) files asked text old new) (sym no_input) (sym is) (subst (λ (p : List ℕ). Answers files asked p old new) same answers)

-- what was looked at
pub found_given : (files then_files : FileMap) (asked : Keyed) (path text : List ℕ) (found kind : Kind) (checks : Checks) (known : Option (List ℕ)) (before after : List Deed) (new : Told) → is_input text ≡ false → asked.request.now.is_recursive ≡ true
    → SameFiles files then_files → path ≡ text → found ≡ kind → after ≡ Looks text found ∷ before → AnswersFound then_files asked path kind (told checks known after) new
    → AnswersGiven files asked text (told checks known before) new
found_given files then_files asked path text found kind checks known before after new no_input is stay same found_is noted answers =
    subst₂ (λ (a b : Bool). AnswersBy (not a && b) files asked text (told checks known before) new) (sym no_input) (sym is) (
      kind,
      found_same files then_files stay asked text kind (asking (Looks text kind) (told checks known before)) new
          (subst₂ (λ (p : List ℕ) (t : List Deed). AnswersFound then_files asked p kind (told checks known t) new) same
          (noted ∙ ap (λ (k : Kind). Looks text k ∷ before) found_is) answers),
    )

-- what is at a path, which is a text
pub stands_at : (files then_files : FileMap) (asked : Keyed) (path text : List ℕ) (found : Kind) (within : List (List ℕ)) (checks : Checks) (known : Option (List ℕ)) (before after : List Deed) (new : Told)
    → SameFiles files then_files → text ≡ path → after ≡ Looks text found ∷ before → AnswersAt then_files asked text found within (told checks known after) new
    → Stands files asked path within (told checks known before) new
stands_at files then_files asked path text found within checks known before after new stay same noted answers =
    inr (
      found,
      at_same files then_files stay asked path found within (asking (Looks path found) (told checks known before)) new
          (subst (λ (p : List ℕ). AnswersAt then_files asked p found within (asking (Looks p found) (told checks known before)) new) same
          (subst (λ (t : List Deed). AnswersAt then_files asked text found within (told checks known t) new) noted answers)),
    )

-- the names of a folder
pub listed_paths : (files : FileMap) (asked : Keyed) (path names : List ℕ) (within : List (List ℕ)) (checks : Checks) (known : Option (List ℕ)) (before after : List Deed) → after ≡ Lists path (Some names) ∷ before
    → ArePathsIn path names within → AnswersAt files asked path kind.Folder within (told checks known before) (told checks known after)
listed_paths files asked path names within checks known before after noted are = (Some names, (are, ap (told checks known) noted))

-- a folder that has none to read
pub unlisted : (files then_files : FileMap) (asked : Keyed) (path bytes : List ℕ) (answer : Answer) (checks then_checks : Checks) (known written : Option (List ℕ)) (before after : List Deed)
    → SameFiles files then_files → bytes ≡ path → after ≡ Lists path None ∷ before → AnswersLine false answer → then_checks.greatest ≡ max checks.greatest (answer_status answer)
    → then_checks.has_checked ≡ true → then_checks.skipped ≡ checks.skipped → Appends known written (text_for asked bytes answer)
    × IsReported bytes answer (option_map reported checks.report) (option_map reported then_checks.report)
    → AnswersAt files asked path kind.Folder [] (told checks known before) (told then_checks written after)
unlisted files then_files asked path bytes answer checks then_checks known written before after stay same noted line greatest checked skipped put = (
  None,
  (
    refl,
    (
      answer,
      failed_status asked answer line,
      record {
        file = failed_file files asked path answer line;
        status = greatest;
        counted = checked;
        skipped = skipped;
        reported = subst (λ (p : List ℕ). IsReported p answer (option_map reported checks.report) (option_map reported then_checks.report)) same put.1;
        written = subst (λ (p : List ℕ). Appends known written (text_for asked p answer)) same put.0;
        looked = inr (inr noted);
      },
    ),
  ),
)

pub if_ok : {X F : Type 0} {P Q : X → Type 0} (r : Result X F) → ((x : X) → P x → Q x) → IfOk r P → IfOk r Q
if_ok (Ok x) f h = f x h
if_ok (Err e) f h = tt

-- an image whose answer was put
pub image_put : (files : FileMap) (asked : Keyed) (path bytes : List ℕ) (answer : Answer) (checks then_checks : Checks) (known written : Option (List ℕ)) (before after : List Deed)
    → AnswersFile files asked path answer → (answer_status answer ≡ 3) ⊎ Begins files path true → LooksAt path before after → then_checks.greatest ≡ max checks.greatest (answer_status answer)
    → then_checks.has_checked ≡ true → then_checks.skipped ≡ checks.skipped → bytes ≡ path → Appends known written (text_for asked bytes answer)
    × IsReported bytes answer (option_map reported checks.report) (option_map reported then_checks.report)
    → AnswersTarget files asked path target.File (told checks known before) (told then_checks written after)
image_put files asked path bytes answer checks then_checks known written before after file begins looked greatest checked skipped same put =
    inl (
      answer,
      begins,
      record {
        file = file;
        status = greatest;
        counted = checked;
        skipped = skipped;
        reported = subst (λ (p : List ℕ). IsReported p answer (option_map reported checks.report) (option_map reported then_checks.report)) same put.1;
        written = subst (λ (p : List ℕ). Appends known written (text_for asked p answer)) same put.0;
        looked = looked;
      },
    )
