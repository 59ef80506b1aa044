-- How the entries of a room change.
use Rattle.std.specs.Prelude.{◌≡◌, ◌+◌, ◌<◌, ℕ, List, [], ◌∷◌, ◌++◌, length, Option, Bool}
use Rattle.std.specs.{Prelude.{if◌then◌else◌, get_or, slice_set}, List.AllByRecursion}
use Rattle.uimg_base.specs.Held.{Held, SameSize, AddsOne}
use Rattle.uimg_blob_reading.specs.{declared.{keys.Key.Key, roles.Role.Role}, Tokens.Property}
use Rattle.uimg_blob_reading.specs.{Grammar.none, Keys.key_named, Walk.{Open, opened}}
use Rattle.uimg_blob_reading.specs.Kept.{span_word, number_word, role_word}
use Rattle.uimg_blob_reading.specs.SoFar.{next_number, entries_so_far}

-- the entry of a node that begins: its name, parent and role, without an end and values
abbrev pub begun_entry : ℕ → ℕ → Option ℕ → Role → List ℕ
begun_entry at length parent role =
    span_word (at + 4) length ∷ number_word parent ∷ 0 ∷ role_word role
    ∷ 0 ∷ 0 ∷ 0 ∷ 0 ∷ 0 ∷ 0 ∷ 0 ∷ 0 ∷ 0 ∷ 0 ∷ 0 ∷ 0 ∷ []

-- The entry was added; or entries are unchanged, with a refusal counted if memory was refused.
pub record Enters (added no_memory : Bool) (entry : List ℕ) (old new : Held) : Type 0 where
  pub entries : new.entries ≡ (if added then old.entries ++ entry ∷ [] else old.entries)
  -- a refusal was counted if and only if memory was refused
  pub size : AddsOne added no_memory old new

-- the entries after a node ended: all entries after its own are of its descendants
abbrev pub ended_entries : ℕ → List (List ℕ) → List (List ℕ)
ended_entries number es = slice_set es number (slice_set (get_or es number []) 2 (length es))

-- The key is that of the name.
pub record IsKeyOf (key : Option Key) (name : List ℕ) : Type 0 where
  pub is : key ≡ key_named name

-- If this node is the innermost open one and has no child, the property is added after its others.
abbrev pub GainsProperty : ℕ → Property → List (List ℕ) → List (List ℕ) → Type 0
GainsProperty number p old new =
    (at : ℕ) (name : List ℕ) (own : List Property) (ls : List Open)
    → old ≡ entries_so_far (opened at name own none ∷ ls) → number ≡ next_number ls
    → AllByRecursion (λ q. 0 < q.place) own
    → new ≡ entries_so_far (opened at name (own ++ p ∷ []) none ∷ ls)

-- The node gains any property with this key whose value has this offset and length.
pub record GainsValue (key : Option Key) (place bytes number : ℕ) (old new : Held) : Type 0 where
  -- of two properties with the same name, the first counts
  pub kept : (p : Property) → IsKeyOf key p.name → p.place ≡ place → bytes ≡ length p.value
      → GainsProperty number p old.entries new.entries
  -- no entry was added, and no memory taken
  pub size : SameSize old new
