-- What the files hold that a legacy image was unpacked to.
use Rattle.std.specs.Prelude.{◌≡◌, ◌⊎◌, ⊤, ℕ, ◌-◌, ◌^◌, ◌<◌, List, [], ◌∷◌, ◌++◌, map, codes, Bool, true, if◌then◌else◌, Option, Some, None, Ok}
use Rattle.std.specs.Borrow.{Bor}
use Rattle.std.specs.List.{AllByRecursion}
use Rattle.uimg_legacy.specs.Unpacking.{Part, part_if, unpack_of}
use Rattle.uimg_unpacking.specs.Contents.{held}
use Rattle.uimg_world.specs.Deeds.{Deed}
use Rattle.uimg_unpacking.specs.{Ends.IfKept, FileNames.image_name}
use Rattle.uimg_unpacking.specs.declared.unpacking.Ended.{Ended}
use Rattle.uimg_unpacking.specs.declared.unpacking.Unpacking.{Unpacking}

-- the names of the files of parts, by their numbers and lengths
abbrev pub part_names : List (ℕ × ℕ) → List (List ℕ)
part_names = map (λ part. image_name part.0)

-- a part with the bytes of its file, if these are known
abbrev pub known_part : ℕ → Option (List ℕ) → List Part
known_part number (Some bytes) = part_if true number bytes
known_part number None = []

-- parts, by their numbers and lengths, with what their files hold
abbrev pub parts_by : List (ℕ × ℕ) → List (Option (List ℕ)) → List Part
parts_by [] contents = []
parts_by (part ∷ parts) [] = []
parts_by (part ∷ parts) (one ∷ contents) = known_part part.0 one ++ parts_by parts contents

-- Parts are held until they are kept.
abbrev pub held_parts : Bool → List (ℕ × ℕ) → List (Option (List ℕ)) → List Part
held_parts is_kept parts contents = if is_kept then [] else parts_by parts contents

abbrev pub kept_parts : Bool → List (ℕ × ℕ) → List (Option (List ℕ)) → List Part
kept_parts is_kept parts contents = if is_kept then parts_by parts contents else []

-- The number of the part whose file has a name. For a name that no part's file has it is 2^32 - 1, which is the number of
-- no part.
pub record IsNumberOf (name : List ℕ) (number : ℕ) : Type 0 where
  pub own : (its : ℕ) → its < 2 ^ 32 → name ≡ image_name its → number ≡ its
  pub other : (name ≡ image_name number) ⊎ (number ≡ 2 ^ 32 - 1)

-- the number of the requested part, if one is requested by the name of its file
abbrev pub Requests : Option (Bor (List ℕ)) → Option ℕ → Type 0
Requests None None = ⊤
Requests None (Some number) = ⊥
Requests (Some name) None = ⊥
Requests (Some name) (Some number) = IsNumberOf name.now number

-- The file of each of these parts in a folder holds exactly its bytes.
abbrev pub HoldsParts : List ℕ → List Part → List Deed → Type 0
HoldsParts folder parts calls =
    AllByRecursion (λ part. held calls (folder ++ codes "/" ++ image_name part.number) ≡ Some part.bytes) parts

-- By the calls that were made, the files of the requested parts of an image hold these.
pub record FillsParts (asked : Unpacking) (image : List ℕ) (calls : List Deed) : Type 0 where
  pub only : Option ℕ
  pub requested : Requests asked.only only
  pub parts : List Part
  pub are : unpack_of only image ≡ Ok (Some parts)
  pub holds : HoldsParts asked.folder.path.now parts calls

-- the same, if the parts are kept
abbrev pub FillsKept : Unpacking → List ℕ → Ended → List Deed → Type 0
FillsKept asked image end calls = IfKept end (FillsParts asked image calls)
