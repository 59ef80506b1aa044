-- What becomes of the file that was begun last.
use Rattle.std.specs.Prelude.{◌≡◌, ⊤, Option, Some, None, true, ℕ, ◌-◌, length, List, [], Bool, false, string_bytes}
use Rattle.std.specs.List.{slice_get}
use Rattle.std.specs.Option.{option_map_or}
use Rattle.uimg_unpacking.specs.declared.staged_file.StagedFile.{StagedFile}
use Rattle.uimg_unpacking.specs.declared.trouble.Trouble.{Trouble}
use Rattle.uimg_unpacking.specs.declared.trouble.Trouble.TheVariants.{CannotWrite, OutOfMemory}

-- the file, if any was begun
abbrev pub last_of : List StagedFile → Option StagedFile
last_of files = slice_get files (length files - 1)

-- the name that it gets
abbrev pub last_name : List StagedFile → List ℕ
last_name files = option_map_or (λ its. string_bytes its.name) (last_of files) []

-- the trouble of a file that cannot be written, with the path that it was to get, or of no memory
abbrev pub IsUnwritten : StagedFile → Trouble → Type 0
IsUnwritten its (CannotWrite path why) = string_bytes path.0 ≡ string_bytes its.whole
IsUnwritten its OutOfMemory = ⊤
IsUnwritten its _ = ⊥

-- There is a trouble just if a file was begun that is not complete.
abbrev pub TellsUnwritten : Bool → Option StagedFile → Option Trouble → Type 0
TellsUnwritten true (Some its) (Some trouble) = IsUnwritten its trouble
TellsUnwritten true (Some its) None = ⊥
TellsUnwritten true None found = found ≡ None
TellsUnwritten false last found = found ≡ None
