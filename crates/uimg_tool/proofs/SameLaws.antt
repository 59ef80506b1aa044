-- The same answers about files that are the same.
use Rattle.std.proofs.Common.{◌≡◌, ◌⊎◌, ℕ, List, [], ◌∷◌, ◌++◌, Bool, true, false, not, ◌&&◌, Option, Some, None, IfSome, IsTrue, inl, inr, sym, subst}
use Rattle.uimg_base.specs.Named.{FileMap, SameFiles}
use Rattle.uimg_checks.specs.Answers.{answer_status}
use Rattle.uimg_checks.specs.declared.answer.Answer.{Answer}
use Rattle.uimg_cli.specs.Check.{is_input}
use Rattle.uimg_tool.specs.{Below.{AnswersAllGiven, AnswersAt, AnswersBelow, AnswersBy, AnswersFolder, AnswersFound, AnswersGiven, AnswersImage, AnswersListed, AnswersTarget, Begins, Stands, all, asking, begins_as_image, more}, Checks.{Answers, AnswersBytes, AnswersFile, IsAnswered, Told}}
use Rattle.uimg_tool.specs.declared.keys.Keyed.{Keyed}
use Rattle.uimg_world.specs.Deeds.{Finds, Lists, Looks}
use Rattle.uimg_world.specs.declared.kind.Kind.{Kind}
use Rattle.uimg_world.specs.declared.kind.Kind.TheVariants as kind
use Rattle.uimg_world.specs.declared.kind.Target.{Target}
use Rattle.uimg_world.specs.declared.kind.Target.TheVariants as target

-- an answer about the same files
pub file_same : (old new : FileMap) (asked : Keyed) (path : List ℕ) (answer : Answer) → SameFiles old new → AnswersFile new asked path answer → AnswersFile old asked path answer
file_same old new asked path answer same told honest =
    subst (λ (bytes : List ℕ → Option (List ℕ)). AnswersBytes asked (bytes path) answer) same.bytes
    (told (subst (λ (b : Bool). IsTrue b) (sym same.honest) honest))

-- the same answers about files that are the same
pub answered_same : (old_files new_files : FileMap) (asked : Keyed) (path : List ℕ) (answer : Answer) (old new : Told) → SameFiles old_files new_files → IsAnswered new_files asked path answer old new
    → IsAnswered old_files asked path answer old new
answered_same old_files new_files asked path answer old new same answered = record {
  file = file_same old_files new_files asked path answer same answered.file;
  status = answered.status;
  counted = answered.counted;
  skipped = answered.skipped;
  reported = answered.reported;
  written = answered.written;
  looked = answered.looked;
}

pub answers_same : (old_files new_files : FileMap) (asked : Keyed) (path : List ℕ) (old new : Told) → SameFiles old_files new_files → Answers new_files asked path old new
    → Answers old_files asked path old new
answers_same old_files new_files asked path old new same answers =
    (answers.0, answered_same old_files new_files asked path answers.0 old new same answers.1)

module _ (old_files new_files : FileMap) (same : SameFiles old_files new_files) (asked : Keyed) where
  begins_same : (path : List ℕ) (is_image : Bool) → Begins new_files path is_image → Begins old_files path is_image
  begins_same path is_image told honest =
      subst (λ (bytes : List ℕ → Option (List ℕ)). IfSome (bytes path) (λ file. begins_as_image file ≡ is_image)) same.bytes
      (told (subst (λ (b : Bool). IsTrue b) (sym same.honest) honest))

  begins_or_failed : (path : List ℕ) (answer : Answer) → (answer_status answer ≡ 3) ⊎ Begins new_files path true → (answer_status answer ≡ 3) ⊎ Begins old_files path true
  begins_or_failed path answer (inl failed) = inl failed
  begins_or_failed path answer (inr begins) = inr (begins_same path true begins)

  image_same : (path : List ℕ) (old new : Told) → AnswersImage new_files asked path old new → AnswersImage old_files asked path old new
  image_same path old new told =
      (told.0, begins_or_failed path told.0 told.1, answered_same old_files new_files asked path told.0 old new same told.2)

  target_same : (path : List ℕ) (found : Target) (old new : Told) → AnswersTarget new_files asked path found old new → AnswersTarget old_files asked path found old new
  target_same path target.File old new (inl image) = inl (image_same path old new image)
  target_same path target.File old new (inr other) = inr (begins_same path false other.0, other.1)
  target_same path target.Nothing old new told = told
  target_same path target.Pipe old new told = told
  target_same path target.Other old new told = told

  listed_same : (path : List ℕ) (names : Option (List ℕ)) (within : List (List ℕ)) (old new : Told) → AnswersListed new_files asked path names within old new
      → AnswersListed old_files asked path names within old new
  listed_same path (Some names) within old new told = told
  listed_same path None within old new told =
      (told.0, (told.1.0, told.1.1, answered_same old_files new_files asked path told.1.0 old new same told.1.2))

  pub at_same : (path : List ℕ) (found : Kind) (within : List (List ℕ)) (old new : Told) → AnswersAt new_files asked path found within old new → AnswersAt old_files asked path found within old new
  at_same path kind.Nothing within old new told = (told.0, answers_same old_files new_files asked path old new same told.1)
  at_same path kind.Link within old new told = told
  at_same path kind.File within old new told = (told.0, (told.1.0, target_same path told.1.0 (asking (Finds path told.1.0) old) new told.1.1))
  at_same path kind.Folder within old new told = (told.0, listed_same path told.0 within (asking (Lists path told.0) old) new told.1)

  pub stands_same : (path : List ℕ) (within : List (List ℕ)) (old new : Told) → Stands new_files asked path within old new → Stands old_files asked path within old new
  stands_same path within old new (inl no_text) = inl (no_text.0, no_text.1, answers_same old_files new_files asked path old new same no_text.2)
  stands_same path within old new (inr told) = inr (told.0, at_same path told.0 within (asking (Looks path told.0) old) new told.1)

  pub below_same : (paths : List (List ℕ)) (old new : Told) → AnswersBelow new_files asked paths old new → AnswersBelow old_files asked paths old new
  below_same paths old new (all none is) = all none is
  below_same paths old new (more path within rest next is stands below) =
      more path within rest next is (stands_same path within old next stands) (below_same (within ++ rest) next new below)

  folder_same : (path : List ℕ) (old new : Told) → AnswersFolder new_files asked path old new → AnswersFolder old_files asked path old new
  folder_same path old new told = (told.0, below_same (path ∷ []) (record old { skipped = 0 }) told.0 told.1, told.2)

  pub found_same : (path : List ℕ) (found : Kind) (old new : Told) → AnswersFound new_files asked path found old new → AnswersFound old_files asked path found old new
  found_same path kind.Folder old new told = folder_same path old new told
  found_same path kind.Nothing old new told = answers_same old_files new_files asked path old new same told
  found_same path kind.Link old new told = answers_same old_files new_files asked path old new same told
  found_same path kind.File old new told = answers_same old_files new_files asked path old new same told

  by_same : (is_recursive : Bool) (path : List ℕ) (old new : Told) → AnswersBy is_recursive new_files asked path old new → AnswersBy is_recursive old_files asked path old new
  by_same false path old new told = answers_same old_files new_files asked path old new same told
  by_same true path old new told = (told.0, found_same path told.0 (asking (Looks path told.0) old) new told.1)

  all_given : (paths : List (List ℕ)) (old new : Told) → AnswersAllGiven new_files asked paths old new → AnswersAllGiven old_files asked paths old new
  all_given [] old new told = told
  all_given (path ∷ paths) old new told = (told.0, by_same (not (is_input path) && asked.request.now.is_recursive) path old told.0 told.1, all_given paths told.0 new told.2)

pub given_same : (old_files new_files : FileMap) (asked : Keyed) (path : List ℕ) (old new : Told) → SameFiles old_files new_files → AnswersGiven new_files asked path old new → AnswersGiven old_files asked path old new
given_same old_files new_files asked path old new same told = by_same old_files new_files same asked (not (is_input path) && asked.request.now.is_recursive) path old new told

pub all_given_same : (old_files new_files : FileMap) (asked : Keyed) (paths : List (List ℕ)) (old new : Told) → SameFiles old_files new_files → AnswersAllGiven new_files asked paths old new
    → AnswersAllGiven old_files asked paths old new
all_given_same old_files new_files asked paths old new same told = all_given old_files new_files same asked paths old new told
