-- The files that were begun, and what they hold.
use Rattle.std.specs.Prelude.{◌≡◌, ℕ, suc, ◌^◌, nat_lt, List, [], ◌∷◌, ◌++◌, map, codes, decimal, string_bytes, bytes_eq, Bool, true, false, ◌&&◌, not, if◌then◌else◌, Option, Some, None}
use Rattle.std.specs.List.{list_all}
use Rattle.uimg_unpacking.specs.Contents.{Files, files_after, held, is_in, differ}
use Rattle.uimg_world.specs.Deeds.{ClosesFile, Deed}
use Rattle.uimg_world.specs.declared.call.Answer.{Answer}
use Rattle.uimg_unpacking.specs.FileNames.{is_file_name}
use Rattle.uimg_unpacking.specs.declared.staged_file.StagedFile.{StagedFile}

-- whether its paths in the temporary folder are those of its number
unfoldable pub has_paths : List ℕ → ℕ → StagedFile → Bool
has_paths made number its =
    nat_lt number (2 ^ 64) && bytes_eq (string_bytes its.new) (made ++ codes "/new-" ++ decimal number)
    && bytes_eq (string_bytes its.old) (made ++ codes "/old-" ++ decimal number)

-- the same of files by their numbers, from one on
abbrev pub are_numbered : List ℕ → ℕ → List StagedFile → Bool
are_numbered made number [] = true
are_numbered made number (its ∷ files) = has_paths made number its && are_numbered made (suc number) files

-- in the temporary folder, if it was made
unfoldable pub are_numbered_in : Option (List ℕ) → List StagedFile → Bool
are_numbered_in None [] = true
are_numbered_in None (its ∷ files) = false
are_numbered_in (Some made) files = are_numbered made 0 files

-- all files but the last one
abbrev pub without_last : List StagedFile → List StagedFile
without_last [] = []
without_last (its ∷ []) = []
without_last (its ∷ next ∷ files) = its ∷ without_last (next ∷ files)

-- the files that are complete: not the last one if it is being written
abbrev pub complete : List StagedFile → Bool → List StagedFile
complete files true = without_last files
complete files false = files

-- what files hold at their paths in the temporary folder
abbrev pub held_new : List Deed → List StagedFile → List (Option (List ℕ))
held_new calls = map (λ its. held calls (string_bytes its.new))

abbrev pub staged : List Deed → List StagedFile → Bool → List (Option (List ℕ))
staged calls files is_writing = held_new calls (complete files is_writing)

-- the names that they get
abbrev pub names_of : List StagedFile → List (List ℕ)
names_of = map (λ its. string_bytes its.name)

-- the names of those that are complete
abbrev pub complete_names : List StagedFile → Bool → List (List ℕ)
complete_names files is_writing = names_of (complete files is_writing)

-- One name more, unless that failed.
abbrev pub with_name : Bool → List (List ℕ) → List ℕ → List (List ℕ)
with_name is_begun names name = if is_begun then names ++ name ∷ [] else names

-- One more file is complete, unless that failed.
abbrev pub Completes : Bool → Option (List ℕ) → (old new : List (Option (List ℕ))) → Type 0
Completes true contents old new = new ≡ old ++ contents ∷ []
Completes false contents old new = new ≡ old

-- The last of some names goes, if there is one, and is added to others or not.
pub data Drops (names left others now : List (List ℕ)) : Type 0 where
  none_gone : left ≡ names → now ≡ others → Drops names left others now
  last_gone : (name : List ℕ) → names ≡ left ++ name ∷ [] → now ≡ others → Drops names left others now
  last_noted : (name : List ℕ) → names ≡ left ++ name ∷ [] → now ≡ others ++ name ∷ [] → Drops names left others now

-- whether some names and others are used, and the names differ from one another and from the others
unfoldable pub uses_names : (List ℕ → Bool) → (names others : List (List ℕ)) → Bool
uses_names is_used names others =
    list_all is_used names && list_all is_used others
    && differ names && list_all (λ name. not (is_in name others)) names

-- The last file was closed, after a wait for its bytes if it is synced. If there is none, nothing is done.
abbrev pub ClosesLast : Bool → Bool → Option StagedFile → Option (List ℕ) → Answer → (old new : List Deed) → Type 0
ClosesLast is_known is_synced None contents answer old new = new ≡ old
ClosesLast is_known is_synced (Some its) contents answer old new =
    ClosesFile is_known (string_bytes its.new) is_synced contents answer old new

-- Calls leave the files of a folder as they are, except those of some names.
abbrev pub LeavesOthers : List ℕ → List (List ℕ) → (old new : List Deed) → Type 0
LeavesOthers folder names old new =
    (start : Files) (name : List ℕ) → is_file_name name ≡ true → is_in name names ≡ false
    → files_after start new (folder ++ codes "/" ++ name) ≡ files_after start old (folder ++ codes "/" ++ name)
