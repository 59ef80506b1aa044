-- The result of indexing: entries and a blob that are those of a tree.
use Rattle.std.specs.Prelude.{◌≡◌, ◌^◌, ◌<◌, ◌≤◌, ◌+◌, ◌*◌, ℕ, List, length, map, Option, Some}
use Rattle.std.specs.Prelude.{None, Result, Ok, IfErr, IsTrue, max, Bool, if◌then◌else◌}
use Rattle.std.specs.{List.{AllByRecursion, slice_get}, Option.is_some}
use Rattle.uimg_base.specs.{Device.{Device, RisesIf}, Held.{Held, held_bytes}}
use Rattle.uimg_base.specs.declared.spans.Span.{Span}
use Rattle.uimg_blob_reading.specs.declared.{fault.IndexFault.IndexFault, nodes.Blob.Blob}
use Rattle.uimg_blob_reading.specs.{declared.{keys.Key.Key, roles.Role.Role}, Tokens.Property}
use Rattle.uimg_blob_reading.specs.{Grammar.Siblings, Blob.{tree, blocks}, Counts.nodes_met}
use Rattle.uimg_blob_reading.specs.{Roles.{is_images, is_configurations, keys_of}, LookUps.first}
use Rattle.uimg_blob_reading.specs.{Rows.{Row, table, child_number}, Spots.{Spot, spot_of}}
use Rattle.uimg_blob_reading.specs.{Keys.name_of, Kept.{kept_of, entries, slot, LiesIn}}
use Rattle.uimg_blob_reading.specs.Passes.{Indexes, IsPrefix, IsSoFar, tokens_in}

-- The entries are those of a tree, the blob has the numbers of its `images` and `configurations`,
-- and all names and values end inside the blob.
pub record IsIndexed (t : Siblings) (blob : Blob) (es : List (List ℕ)) : Type 0 where
  pub kept : es ≡ entries t
  pub images : blob.images ≡ child_number is_images t
  pub configurations : blob.configurations ≡ child_number is_configurations t
  pub lies : AllByRecursion (LiesIn blob.totalsize) (kept_of t)
  pub small : blob.totalsize < 2 ^ 32

-- These are entries and blob of some tree inside the device; if honest, of the tree of its bytes.
pub record Finds (device : Device) (blob : Blob) (es : List (List ℕ)) : Type 0 where
  -- some tree, whatever the source returned
  pub nodes : Siblings
  -- that of the file, if the source is honest
  pub is : IsTrue device.honest → tree device.bytes ≡ Ok nodes
  -- each of its names and values ends inside the blob
  pub indexed : IsIndexed nodes blob es
  -- the blob ends inside the source
  pub within : blob.totalsize ≤ length device.bytes

-- The node with this number has this row in the table of the indexed tree.
pub record IsRow (blob : Blob) (es : List (List ℕ)) (number : ℕ) (row : Row) : Type 0 where
  pub nodes : Siblings
  pub indexed : IsIndexed nodes blob es
  pub is : slice_get (table nodes) number ≡ Some row

-- P holds for the node's row in that table.
abbrev pub OfRow : Blob → List (List ℕ) → ℕ → (Row → Type 0) → Type 0
OfRow blob es number P = (row : Row) → IsRow blob es number row → P row

-- P holds if the entries and the blob are those of a tree.
abbrev pub WhereIndexed : Blob → List (List ℕ) → Type 0 → Type 0
WhereIndexed blob es P = (t : Siblings) → IsIndexed t blob es → P

-- Over an honest device there are at most `count` of its bytes entries.
abbrev pub KeepsWithin : (List ℕ → ℕ) → Device → Held → Type 0
KeepsWithin count d k = IsTrue d.honest → length k.entries ≤ count d.bytes

-- What indexing does to its room's memory.
pub record TakesNodes (device : Device) (no_memory : Bool) (old new : Held) : Type 0 where
  -- `OutOfMemory` of the blob is returned exactly if the refusals of the room rose
  pub refused : RisesIf no_memory old.refused new.refused
  -- 8192 bytes, and 128 for each node that was met
  pub peak : IsTrue device.honest → new.peak ≤ max old.peak (held_bytes (nodes_met device.bytes))
  -- over any device
  pub most : new.peak ≤ max old.peak (8320 + 16 * length device.bytes)

-- Over an honest device the entries are those of its tree, or the fault is the first.
abbrev pub IndexesTree : {X : Type 0} → Device → Result X IndexFault → List (List ℕ) → Type 0
IndexesTree d result es = IsTrue d.honest → Indexes (tree d.bytes) result es

-- Over an honest device, after refused memory, these are the entries of the nodes before.
abbrev pub LeavesPrefix : {X : Type 0} → Device → Result X IndexFault → List (List ℕ) → Type 0
LeavesPrefix d result es = IsTrue d.honest → IsPrefix (tokens_in (blocks d.bytes)) result es

-- Over an honest device, after a refusal the entries are those so far.
abbrev pub LeavesSoFar : {X : Type 0} → Device → Result X IndexFault → List (List ℕ) → Type 0
LeavesSoFar d result es =
    IsTrue d.honest → IfErr result (λ fault. IsSoFar (blocks d.bytes) fault es)

-- the span of a node's name: it follows the word that begins the node
abbrev pub name_span : Row → Span
name_span row = record { place = row.at + 4; length = length row.name }

-- the span of a value
abbrev pub value_span : Spot → Span
value_span s = record { place = s.place; length = length s.bytes }

abbrev pub property_span : Property → Span
property_span p = record { place = p.place; length = length p.value }

-- whether the role keeps a value of this key
abbrev pub keeps : Role → Key → Bool
keeps role key = is_some (slot (name_of key) (keys_of role))

-- the value of the first property with this key, if the role keeps the key
abbrev pub value_of : Row → Key → Option Spot
value_of row key = if keeps row.role key then first (map spot_of row.own) (name_of key) else None
