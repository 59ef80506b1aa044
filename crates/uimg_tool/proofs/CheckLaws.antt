-- Answers about some images, and then about others.
use Rattle.std.proofs.Common.{◌≡◌, ◌+◌, ◌<◌, get_or, length, ℕ, List, [], ◌∷◌, ◌++◌, map, drop, Bool, true, false, ◌&&◌, ◌||◌, Option, Some, None, Result, Ok, Err, OnOk, IfSome, IsTrue, filter, option_map, inl, inr, refl, ap, ap₂, sym, subst, subst₂, ◌∙◌, true≢false}
use mathlib.Core.List.{append-nil}
use Rattle.std.specs.{Borrow.Bor, Io.KnownBytes.{IsAtEnd}, List.list_all}
use Rattle.std.proofs.KnownBytes.{Keeps-refl}
use Rattle.std.proofs.lemmas.List.{drop_more}
use Rattle.std.proofs.lemmas.List.Folds.{list_all-append}
use Rattle.uimg_tool.specs.declared.keys.Keyed.{Keyed}
use Rattle.uimg_tool.specs.{Answering.Comes, Below.{AnswersAllGiven, AnswersGiven}, Checking.{AnswersAll, ChecksBy, EndsChecks, KeysAt, MeansCheck, ReportsIf, keys_read, nothing_told, terms_of}, Reports.FindsReportIf}
use Rattle.uimg_cli.specs.declared.command_line.{check.CheckRequest.CheckRequest, keys.KeyRequest.KeyRequest}
use Rattle.uimg_base.specs.{Device.Device, Named.{FileMap, Opens, SameFiles}}
use Rattle.uimg_checks.specs.{CheckEnds.{AnswersLine, Shows}, TestReports.{Reported, reported}, Verdicts.verdict_of}
use Rattle.uimg_keys.specs.Keys.{HasKeys}
use Rattle.uimg_verifying.specs.declared.required.Required.{Required}
use Rattle.uimg_tool.specs.Checks.{AnswersBytes, AnswersEach, AnswersFile, AnswersNamed, AnswersFrom, AnswersUnlessEmpty, AreNames, Told, after_names, names_end, names_path, told}
use Rattle.uimg_tool.specs.Paths.{is_name, paths_in}
use Rattle.uimg_tool.proofs.PathLaws.{Left, left_ends}
use Rattle.uimg_tool.proofs.SameLaws.{all_given_same, answers_same, given_same}
use Rattle.uimg_checks.specs.declared.answer.Answer.{Answer}
use Rattle.uimg_checks.specs.declared.answer.Answer.TheVariants.{Found, Missing, Loose, Refused, Failed}
use Rattle.uimg_tool.specs.declared.checks.Checks.{Checks}
use Rattle.uimg_world.specs.Deeds.{Deed}

pub on_ok : {X F P Q : Type 0} (r : Result X F) → (P → Q) → OnOk r P → OnOk r Q
on_ok (Ok x) f h = f h
on_ok (Err e) f h = tt

-- an answer about the file that was opened
pub file_answered : (files : FileMap) (asked : Keyed) (path : List ℕ) (answer : Answer) (d : Device) → Opens files path d
    → (IsTrue d.honest → Shows answer (verdict_of asked.terms d.bytes)) → AnswersFile files asked path answer
file_answered files asked path answer d opens shows honest =
    subst (λ (file : Option (List ℕ)). AnswersBytes asked file answer) (sym (opens.bytes honest)) (shows (opens.honest honest))

pub failed_bytes : (asked : Keyed) (file : Option (List ℕ)) (answer : Answer) → AnswersLine false answer → AnswersBytes asked file answer
failed_bytes asked None (Failed stop) told = refl
failed_bytes asked None (Found found more) told = absurd told
failed_bytes asked None (Missing configuration property name) told = absurd told
failed_bytes asked None (Loose shown why name signatures) told = absurd told
failed_bytes asked None (Refused stop) told = absurd (true≢false (sym told))
failed_bytes asked (Some file) (Failed stop) told = tt
failed_bytes asked (Some file) (Found found more) told = absurd told
failed_bytes asked (Some file) (Missing configuration property name) told = absurd told
failed_bytes asked (Some file) (Loose shown why name signatures) told = absurd told
failed_bytes asked (Some file) (Refused stop) told = absurd (true≢false (sym told))

-- an answer that is a failure
pub failed_file : (files : FileMap) (asked : Keyed) (path : List ℕ) (answer : Answer) → AnswersLine false answer → AnswersFile files asked path answer
failed_file files asked path answer told honest = failed_bytes asked (files.bytes path) answer told

pub each_then : (files : FileMap) (asked : Keyed) (paths others : List (List ℕ)) (old mid new : Told) → AnswersEach files asked paths old mid
    → AnswersEach files asked others mid new → AnswersEach files asked (paths ++ others) old new
each_then files asked [] others old mid new first more = subst (λ (it : Told). AnswersEach files asked others it new) first more
each_then files asked (path ∷ paths) others old mid new first more =
    (first.0, first.1, each_then files asked paths others first.0 mid new first.2 more)

pub each_same : (old_files new_files : FileMap) (asked : Keyed) (paths : List (List ℕ)) (old new : Told) → SameFiles old_files new_files → AnswersEach new_files asked paths old new
    → AnswersEach old_files asked paths old new
each_same old_files new_files asked [] old new same each = each
each_same old_files new_files asked (path ∷ paths) old new same each =
    (each.0, answers_same old_files new_files asked path old each.0 same each.1, each_same old_files new_files asked paths each.0 new same each.2)

-- all images, when none is left
pub each_left : (files : FileMap) (asked : Keyed) (items : List (Bor (List ℕ))) (i : ℕ) (old cur : Told) → items ≡ asked.request.now.images.items → drop i items ≡ []
    → ((last : Told) → AnswersAllGiven files asked (map (λ path. path.now) (drop i items)) cur last → AnswersAllGiven files asked (map (λ path. path.now) items) old last)
    → AnswersAllGiven files asked (map (λ path. path.now) asked.request.now.images.items) old cur
each_left files asked items i old cur are none so =
    subst (λ (l : List (Bor (List ℕ))). AnswersAllGiven files asked (map (λ path. path.now) l) old cur) are
    (so cur (subst (λ (l : List (Bor (List ℕ))). AnswersAllGiven files asked (map (λ path. path.now) l) cur cur) (sym none) refl))

-- one more of the command line
pub given_more : (files then_files : FileMap) (asked : Keyed) (items : List (Bor (List ℕ))) (i : ℕ) (d : Bor (List ℕ)) (old cur next last : Told) → i < length items → SameFiles files then_files
    → ((last : Told) → AnswersAllGiven files asked (map (λ path. path.now) (drop i items)) cur last → AnswersAllGiven files asked (map (λ path. path.now) items) old last)
    → AnswersGiven then_files asked (get_or items i d).now cur next → AnswersAllGiven files asked (map (λ path. path.now) (drop (i + 1) items)) next last
    → AnswersAllGiven files asked (map (λ path. path.now) items) old last
given_more files then_files asked items i d old cur next last within stay so given rest =
    so last
    (subst (λ (l : List (Bor (List ℕ))). AnswersAllGiven files asked (map (λ path. path.now) l) cur last) (sym (drop_more items i d within))
    (next, given_same files then_files asked (get_or items i d).now cur next stay given, rest))

-- one more, unless its name is empty
each_more : (files then_files : FileMap) (asked : Keyed) (path : List ℕ) (names : List (List ℕ)) (old mid new : Told) → SameFiles files then_files → AnswersEach files asked names old mid
    → AnswersUnlessEmpty then_files asked path mid new → AnswersEach files asked (names ++ filter is_name (path ∷ [])) old new
each_more files then_files asked [] names old mid new stay each same =
    subst (λ (l : List (List ℕ)). AnswersEach files asked l old new) (sym (append-nil names)) (subst (λ (it : Told). AnswersEach files asked names old it) (sym same) each)
each_more files then_files asked (byte ∷ rest) names old mid new stay each answer =
    each_then files asked names ((byte ∷ rest) ∷ []) old mid new each (new, answers_same files then_files asked (byte ∷ rest) mid new stay answer, refl)

pub each_item : (files then_files : FileMap) (asked : Keyed) (path item : List ℕ) (names : List (List ℕ)) (old mid new : Told) → path ≡ item → SameFiles files then_files
    → AnswersEach files asked names old mid → AnswersUnlessEmpty then_files asked path mid new → AnswersEach files asked (names ++ filter is_name (item ∷ [])) old new
each_item files then_files asked path item names old mid new is stay each answers =
    each_more files then_files asked item names old mid new stay each (subst (λ (p : List ℕ). AnswersUnlessEmpty then_files asked p mid new) is answers)

pub all_names : (path : List ℕ) (names : List (List ℕ)) → list_all is_name names ≡ true → list_all is_name (names ++ filter is_name (path ∷ [])) ≡ true
all_names [] names all = ap (list_all is_name) (append-nil names) ∙ all
all_names (byte ∷ rest) names all = list_all-append is_name names ((byte ∷ rest) ∷ []) ∙ ap₂ (λ (a b : Bool). a && b) all refl

-- the names are those in the file, when all of it was read
pub are_names : (files : FileMap) (asked : Keyed) (path : List ℕ) (end : ℕ) (whole known : Option (List ℕ)) (names : List (List ℕ)) → end ≡ names_end asked
    → (IsTrue files.honest → whole ≡ files.bytes (names_path path)) → list_all is_name names ≡ true → Left end whole known names → IsAtEnd known → AreNames files asked path names
are_names files asked path end whole known names is from all left ends = record {
  some = all;
  file = λ honest. subst₂ (λ (n : ℕ) (bytes : Option (List ℕ)). IfSome bytes (λ file. names ≡ paths_in n file)) is (from honest) (left_ends end whole known names left ends);
}

names_same : (files then_files : FileMap) (asked : Keyed) (path : List ℕ) (names : List (List ℕ)) → SameFiles files then_files → AreNames then_files asked path names → AreNames files asked path names
names_same files then_files asked path names same are = record {
  some = are.some;
  file = λ honest. subst (λ (bytes : List ℕ → Option (List ℕ)). IfSome (bytes (names_path path)) (λ file. names ≡ paths_in (names_end asked) file)) same.bytes
      (are.file (subst (λ (b : Bool). IsTrue b) (sym same.honest) honest));
}

pub all_given : (files : FileMap) (asked : Keyed) (old new : Told) → asked.request.now.files_from ≡ None → AnswersAllGiven files asked (map (λ path. path.now) asked.request.now.images.items) old new
    → AnswersAll files asked old new
all_given files asked old new none each =
    (new, each, subst (λ (it : Option (Bor (List ℕ))). AnswersFrom files asked it new new) (sym none) refl)

pub all_named : (files then_files : FileMap) (asked : Keyed) (file : Bor (List ℕ)) (old mid new : Told) → SameFiles files then_files → asked.request.now.files_from ≡ Some file
    → AnswersAllGiven files asked (map (λ path. path.now) asked.request.now.images.items) old mid → AnswersNamed then_files asked file.now mid new → AnswersAll files asked old new
all_named files then_files asked file old mid new stay is each names = (
  mid,
  each,
  subst (λ (it : Option (Bor (List ℕ))). AnswersFrom files asked it mid new) (sym is)
      (names.0, names_same files then_files asked file.now names.0 stay names.1, each_same files then_files asked names.0 (after_names file.now mid) new stay names.2),
)

from_same : (old_files new_files : FileMap) (asked : Keyed) (from : Option (Bor (List ℕ))) (old new : Told) → SameFiles old_files new_files → AnswersFrom new_files asked from old new
    → AnswersFrom old_files asked from old new
from_same old_files new_files asked None old new same told = told
from_same old_files new_files asked (Some path) old new same told =
    (told.0, names_same old_files new_files asked path.now told.0 same told.1, each_same old_files new_files asked told.0 (after_names path.now old) new same told.2)

all_same : (old_files new_files : FileMap) (asked : Keyed) (old new : Told) → SameFiles old_files new_files → AnswersAll new_files asked old new → AnswersAll old_files asked old new
all_same old_files new_files asked old new same all =
    (all.0, all_given_same old_files new_files asked (map (λ path. path.now) asked.request.now.images.items) old all.0 same all.1, from_same old_files new_files asked asked.request.now.files_from all.0 new same all.2)

-- the end of all checks
-- what is written of a report does not depend on which of two equal files are meant
reports_same : (is_enough : Bool) (old_files new_files : FileMap) (junit : Option (Bor (List ℕ))) (report : Option Reported) (before after : List Deed) → SameFiles old_files new_files → ReportsIf is_enough new_files junit report before after
    → ReportsIf is_enough old_files junit report before after
reports_same false old_files new_files junit report before after same written = written
reports_same true old_files new_files None report before after same written = written
reports_same true old_files new_files (Some path) None before after same written = written
reports_same true old_files new_files (Some path) (Some report) before after same written =
    (written.0, λ honest. written.1 (subst (λ (b : Bool). IsTrue b) (sym same.honest) honest))

pub checks_told : (files then_files : FileMap) (asked : Keyed) (checks : Checks) (before after last : List Deed) (old new : Option (List ℕ)) (first : Told) (status : ℕ) (tells : Option (Option (List ℕ))) → first ≡ nothing_told asked.request.now.junit old before
    → SameFiles files then_files → AnswersAll files asked first (told checks new after) → Comes (EndsChecks then_files asked (told checks None after) last) status tells None None → Comes (ChecksBy asked files before last) status tells old new
checks_told files then_files asked checks before after last old new first status tells begins same all (inl failed) = inl failed
checks_told files then_files asked checks before after last old new first status tells begins same all (inr ends) =
    let is_enough : Bool = checks.has_checked || asked.request.now.allows_none in
    inr (
      told checks new after,
      subst (λ (it : Told). AnswersAll files asked it (told checks new after)) begins all,
      (ends.0, reports_same is_enough files then_files asked.request.now.junit (option_map reported checks.report) after last same ends.1),
      Keeps-refl new,
    )

-- the same by keys that were read before
keys_same : (files then_files : FileMap) (asked : Option KeyRequest) (required : Option Required) → SameFiles files then_files → KeysAt then_files asked required → KeysAt files asked required
keys_same files then_files None required same keys = keys
keys_same files then_files (Some asked) None same keys = keys
keys_same files then_files (Some asked) (Some required) same keys = (
  keys.0,
  keys.1,
  λ honest. subst (λ (bytes : List ℕ → Option (List ℕ)). IfSome (bytes asked.path.now) (λ file. HasKeys file keys.0)) same.bytes
      (keys.2 (subst (λ (b : Bool). IsTrue b) (sym same.honest) honest)),
)

pub keys_told : (files mid_files then_files : FileMap) (asked : CheckRequest) (keyed : Keyed) (before seen noted after : List Deed) (status : ℕ) (told : Option (Option (List ℕ))) (old new : Option (List ℕ)) → keyed.request.now ≡ asked
    → keyed.terms ≡ terms_of asked keyed.terms.required → SameFiles files mid_files → SameFiles files then_files → FindsReportIf files asked.junit before seen → KeysAt mid_files asked.key keyed.terms.required → noted ≡ keys_read asked.key seen
    → Comes (ChecksBy keyed then_files noted after) status told old new → Comes (MeansCheck asked files before after) status told old new
keys_told files mid_files then_files asked keyed before seen noted after status told old new is terms first same finds keys read (inl failed) = inl failed
keys_told files mid_files then_files asked keyed before seen noted after status told old new is terms first same finds keys read (inr checks) =
    let last : Told = checks.0 in
    let junit : Option (Bor (List ℕ)) = keyed.request.now.junit in
    let is_enough : Bool = last.has_checked || keyed.request.now.allows_none in
    inr (
      keyed,
      seen,
      is,
      finds,
      terms,
      keys_same files mid_files asked.key keyed.terms.required first keys,
      subst (λ (t : List Deed). ChecksBy keyed files t after status told old new) read
          (last, all_same files then_files keyed (nothing_told junit old noted) last same checks.1, (checks.2.0, reports_same is_enough files then_files junit last.report last.trace after same checks.2.1), checks.3),
    )
