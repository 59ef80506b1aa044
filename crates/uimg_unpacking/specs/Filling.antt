-- What the files hold that a FIT image was unpacked to.
use Rattle.std.specs.Prelude.{◌≡◌, ⊤, ℕ, List, [], ◌∷◌, map, Bool, true, false, Option, Some, None, Result, Ok, Err}
use Rattle.std.specs.List.{list_all}
use Rattle.uimg_fit_base.specs.declared.fault.Fault.{Fault}
use Rattle.uimg_fit_checking.specs.Unpacking.{Take, kept, refused, UnpackOutcome, Which, taken, overlaps, unpack_of}
use Rattle.uimg_unpacking.specs.Contents.{differ, held_in}
use Rattle.uimg_world.specs.Deeds.{Deed}
use Rattle.uimg_unpacking.specs.Ends.{asked_which}
use Rattle.uimg_unpacking.specs.FileNames.{file_name, is_file_name}
use Rattle.uimg_unpacking.specs.declared.unpacking.Ended.{Ended}
use Rattle.uimg_unpacking.specs.declared.unpacking.Ended.TheVariants.{Kept, Refused}
use Rattle.uimg_unpacking.specs.declared.unpacking.Unpacking.{Unpacking}

-- the names of the files of payloads that are kept, after files of some names; a refused one takes a name too
abbrev pub names_of_kept : List (List ℕ) → List Take → List (List ℕ)
names_of_kept names [] = []
names_of_kept names (kept image bytes vouched ∷ takes) =
    file_name names image ∷ names_of_kept (file_name names image ∷ names) takes
names_of_kept names (refused image told ∷ takes) = names_of_kept (file_name names image ∷ names) takes

-- their bytes
abbrev pub kept_bytes : List Take → List (List ℕ)
kept_bytes [] = []
kept_bytes (kept image bytes vouched ∷ takes) = bytes ∷ kept_bytes takes
kept_bytes (refused image told ∷ takes) = kept_bytes takes

-- what becomes of the payloads by the definition, if none overlaps another
abbrev pub takes_by : Result UnpackOutcome Fault → Option (List Take)
takes_by (Ok (taken takes)) = Some takes
takes_by (Ok (overlaps name)) = None
takes_by (Err fault) = None

abbrev pub takes_of : Unpacking → Option Which → List ℕ → Option (List Take)
takes_of asked None file = None
takes_of asked (Some only) file = takes_by (unpack_of asked.need only file)

-- whether payloads have files at such an end: all do, or the good ones if these are kept
abbrev pub are_kept : Unpacking → Ended → Bool
are_kept asked Kept = true
are_kept asked Refused = asked.keeps_good
are_kept asked _ = false

-- By the calls that were made, the files of a folder that have the names of the kept payloads hold their bytes. These
-- names are file names, and differ.
pub record Holds (folder : List ℕ) (takes : List Take) (calls : List Deed) : Type 0 where
  pub are_names : list_all is_file_name (names_of_kept [] takes) ≡ true
  pub apart : differ (names_of_kept [] takes) ≡ true
  pub hold : held_in folder calls (names_of_kept [] takes) ≡ map Some (kept_bytes takes)

abbrev pub FillsIf : List ℕ → Option (List Take) → List Deed → Type 0
FillsIf folder None calls = ⊤
FillsIf folder (Some takes) calls = Holds folder takes calls

-- At such an end the files of the kept payloads hold their bytes, unless payloads overlap.
abbrev pub Fills : Unpacking → List ℕ → Ended → List Deed → Type 0
Fills asked file end calls =
    are_kept asked end ≡ true → FillsIf asked.folder.path.now (takes_of asked (asked_which asked) file) calls
