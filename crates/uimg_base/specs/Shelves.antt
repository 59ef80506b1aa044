-- What a shelf in a file holds.
use Rattle.std.specs.Prelude.{ℕ, List, ◌∷◌, take, Option, Some, None, Result, IfOk, ⊤}
use Rattle.std.specs.Io.KnownBytes.{Appends}

-- the contents of its file with the buffered bytes, if known; unknown before there is a file
abbrev pub shelf_contents : {F : Type 0} → (F → Option (List ℕ)) → Option F → Option (List ℕ)
shelf_contents contents None = None
shelf_contents contents (Some file) = contents file

-- Bytes were appended to a new file.
pub record Begins {F : Type 0} (contents : F → Option (List ℕ)) (new : Option (List ℕ))
    (bytes : List ℕ) : Type 0 where
  pub made : F
  pub appended : Appends (contents made) new bytes

-- The first write created a file and appended as many bytes as it returned.
abbrev pub BeginsFirst : {F E : Type 0} → (F → Option (List ℕ)) → Option F → Result ℕ E
    → Option (List ℕ) → List ℕ → Type 0
BeginsFirst contents None result new bytes = IfOk result (λ n. Begins contents new (take n bytes))
BeginsFirst contents (Some file) result new bytes = ⊤

-- The first write creates a file at the path of the shelf, and no other write creates one.
abbrev pub created_paths : {F : Type 0} → List ℕ → Option F → List (List ℕ) → List (List ℕ)
created_paths path None created = path ∷ created
created_paths path (Some file) created = created
