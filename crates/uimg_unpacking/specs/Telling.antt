-- Which lines are printed.
use Rattle.std.specs.Prelude.{◌≡◌, ℕ, List, [], ◌++◌, Bool, true, false, Option, Some, None, Result, Ok, Err, if◌then◌else◌, is_ok}
use Rattle.std.specs.Io.KnownBytes.{Appends}

-- The line of a kept file is added, unless none is kept any more.
abbrev pub with_kept : Bool → List ℕ → List ℕ → List ℕ
with_kept none_kept lines line = if none_kept then lines else lines ++ line

-- The line of a refused file is added. It replaces the lines of kept files, unless some are kept or
-- the lines are those of refused files.
abbrev pub with_refused : Bool → List ℕ → List ℕ → List ℕ
with_refused keeps_lines lines line = (if keeps_lines then lines else []) ++ line

-- Lines were printed, if they are printed at all.
abbrev pub TellsIf : Bool → Option (List ℕ) → Option (List ℕ) → List ℕ → Type 0
TellsIf true old new lines = Appends old new lines
TellsIf false old new lines = new ≡ old

-- whether all files have their names, and nothing old is left
abbrev pub is_named : {X E : Type 0} → Result (Result X E) E → Bool
is_named (Ok removed) = is_ok removed
is_named (Err trouble) = false

-- the trouble that files have no names, or that something old is left
abbrev pub naming_trouble : {X E : Type 0} → Result (Result X E) E → Option E
naming_trouble (Ok (Ok done)) = None
naming_trouble (Ok (Err trouble)) = Some trouble
naming_trouble (Err trouble) = Some trouble
