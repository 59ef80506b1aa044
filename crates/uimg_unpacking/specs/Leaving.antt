-- What an unpacking leaves as it was.
use Rattle.std.specs.Prelude.{◌≡◌, ℕ, List, ◌++◌, codes, decimal, Bool, true, false, Option, Some, None}
use Rattle.std.specs.Option.{option_map_or}
use Rattle.uimg_unpacking.specs.Contents.{Files, IsTrueTo, differ, files_after, held_in}
use Rattle.uimg_world.specs.Deeds.{Deed}
use Rattle.uimg_unpacking.specs.Places.{is_file_of}
use Rattle.uimg_unpacking.specs.Staged.{LeavesOthers}
use Rattle.uimg_unpacking.specs.declared.trouble.Trouble.{Trouble}
use Rattle.uimg_unpacking.specs.declared.trouble.Trouble.TheVariants.{NotPutBack, CannotPrint, Closed}
use Rattle.uimg_unpacking.specs.declared.unpacking.Ended.{Ended}
use Rattle.uimg_unpacking.specs.declared.unpacking.Ended.TheVariants.{Kept, Troubled}
use Rattle.uimg_unpacking.specs.declared.unpacking.Unpacking.{Unpacking}

-- Calls leave at each `FOLDER/NAME` what was there, for all files of which their answers are true.
abbrev pub Leaves : List ℕ → (before after : List Deed) → Type 0
Leaves folder before after = (start : Files) → IsTrueTo start after → (path : List ℕ) → is_file_of folder path ≡ true
    → files_after start after path ≡ files_after start before path

-- No file has its name after a trouble. Lines are printed once files have their names, and if old files cannot be put back,
-- new ones may have them.
abbrev pub is_undone : Trouble → Bool
is_undone (NotPutBack path) = false
is_undone (CannotPrint why) = false
is_undone Closed = false
is_undone _ = true

abbrev pub are_undone : Option Trouble → Bool
are_undone trouble = option_map_or is_undone trouble false

-- no file has its name at an end
abbrev pub is_left : Ended → Bool
is_left Kept = false
is_left (Troubled trouble) = is_undone trouble
is_left _ = true

-- At such an end the files of the folder are as they were, unless good payloads are kept.
abbrev pub LeavesAt : Unpacking → Ended → (before after : List Deed) → Type 0
LeavesAt asked end before after =
    asked.keeps_good ≡ false → is_left end ≡ true → Leaves asked.folder.path.now before after

-- Nothing is at the paths in the temporary folder where old files are kept, if it was made.
abbrev pub KeepsNone : Option (List ℕ) → List Deed → Type 0
KeepsNone made calls = (start : Files) → IsTrueTo start calls → (path : List ℕ) → made ≡ Some path → (number : ℕ)
    → files_after start calls (path ++ codes "/old-" ++ decimal number) ≡ None

-- Files get these names, and hold what they held. Or none gets one, and names that differ are as they were.
pub record NamesAll (folder : List ℕ) (names : List (List ℕ)) (contents : List (Option (List ℕ))) (trouble : Option Trouble) (before after : List Deed) : Type 0 where
  pub holds : trouble ≡ None → differ names ≡ true → held_in folder after names ≡ contents
  pub others : trouble ≡ None → LeavesOthers folder names before after
  pub back : are_undone trouble ≡ true → differ names ≡ true → Leaves folder before after
