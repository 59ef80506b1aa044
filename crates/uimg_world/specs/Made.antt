-- What is at the paths of files and folders that were made.
use Rattle.std.specs.Prelude.{◌≡◌, ℕ, List, bytes_eq, if◌then◌else◌, Option, Some, None, String, Vec}
use Rattle.std.specs.Option.{option_map}
use Rattle.std.specs.BTreeMap.{BTreeMap, get_by_text}
use Rattle.uimg_world.specs.declared.kind.Kind.{Kind}
use Rattle.uimg_world.specs.declared.kind.Kind.TheVariants.{Nothing, File, Folder}

-- nothing, the bytes of a file, or a folder, which has none
abbrev pub made_at : {Y Z : Type 0} → BTreeMap (String Y) (Option (Vec ℕ Z)) → List ℕ → Option (Option (List ℕ))
made_at made path = option_map (option_map (λ bytes. bytes.items)) (get_by_text made path)

abbrev pub bytes_made : Option (Option (List ℕ)) → Option (List ℕ)
bytes_made None = None
bytes_made (Some found) = found

abbrev pub kind_made : Option (Option (List ℕ)) → Kind
kind_made None = Nothing
kind_made (Some None) = Folder
kind_made (Some (Some bytes)) = File

-- Something else is at a path, and all others are as before.
abbrev pub MadeBut : {Y Z : Type 0} → (old new : BTreeMap (String Y) (Option (Vec ℕ Z))) → List ℕ → Option (Option (List ℕ)) → Type 0
MadeBut old new path found =
    (asked : List ℕ) → made_at new asked ≡ (if bytes_eq path asked then found else made_at old asked)

-- What was at a path is at another one instead.
abbrev pub MovesMade : {Y Z : Type 0} → (old new : BTreeMap (String Y) (Option (Vec ℕ Z))) → (from to : List ℕ) → Type 0
MovesMade old new from to = (asked : List ℕ) → made_at new asked
    ≡ (if bytes_eq from asked then None else if bytes_eq to asked then made_at old from else made_at old asked)
