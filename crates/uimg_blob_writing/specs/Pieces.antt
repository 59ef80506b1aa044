-- A blob as pieces in order, each of them bytes or a file.
use Rattle.std.specs.Prelude.{◌≡◌, ℕ, ◌+◌, ◌-◌, List, [], ◌∷◌, ◌++◌, length, replicate, Result}
use Rattle.std.specs.{Prelude.{Bool, IsTrue, is_err, false}, Bool.OnFalse}
use Rattle.std.specs.List.{flat_map, AllByRecursion}
use Rattle.uimg_texts.specs.Numbers.{up4}
use Rattle.uimg_base.specs.{Device.RisesIf, Sink.Sink, Named.FileMap, Writing.Written}
use Rattle.uimg_blob_reading.specs.Plain.{NamedOf, no_node, a_node}
use Rattle.uimg_blob_writing.specs.{declared.fault.TreeFault.TreeFault, Content.IsBytes}
use Rattle.uimg_blob_writing.specs.Content.{Content, Unread, bytes, size_of, content_bytes, file_of, IsKept}
use Rattle.uimg_blob_writing.specs.Encoding.{word, padded, with_nul, name_offset, strings, header}
use Rattle.uimg_blob_writing.specs.Encoding.{reserved, structure_offset}
use Rattle.uimg_blob_writing.specs.{Alignment.filling, Layouts.{Plan, plan_end, totalsize}}
use Rattle.uimg_blob_writing.specs.{Faults.{is_put, is_no_file, is_read}, UsingFiles.{UsesFiles, OpensEach}}

-- the zeros that pad n bytes to a multiple of 4
abbrev pub padding : ℕ → List ℕ
padding n = replicate (up4 n - n) 0

-- FDT_BEGIN_NODE and the name of a node
abbrev pub begin_bytes : List ℕ → List ℕ
begin_bytes name = word 1 ++ padded (with_nul name)

-- what comes before the value of a property: FDT_PROP, its size in bytes and its name's offset
abbrev pub head_bytes : ℕ → ℕ → List ℕ
head_bytes size offset = word 3 ++ word size ++ word offset

-- a property: what comes before its value, the value, and its padding
unfoldable pub property_pieces : List (List ℕ) → NamedOf Content → List Content
property_pieces names p =
    bytes (head_bytes (size_of p.value) (name_offset names p.name)) ∷ p.value
    ∷ bytes (padding (size_of p.value)) ∷ []

-- for each node its beginning, its properties, its children, and FDT_END_NODE
unfoldable pub nodes_pieces : List (List ℕ) → Unread → List Content
nodes_pieces names no_node = []
nodes_pieces names (a_node name own below after) =
    bytes (begin_bytes name)
    ∷ (flat_map (property_pieces names) own
    ++ (nodes_pieces names below ++ bytes (word 2) ∷ nodes_pieces names after))

-- the planned blob: header, reservation block, nodes, FDT_END, strings block, padding
unfoldable pub blob_pieces : Plan → Unread → List Content
blob_pieces p t =
    bytes (header (totalsize p) (structure_offset p.reservations) p.structure
    (length (strings p.names)))
    ∷ bytes (reserved p.reservations)
    ∷ (nodes_pieces p.names t ++ bytes (word 9) ∷ bytes (strings p.names)
    ∷ bytes (filling p.ending (plan_end p)) ∷ [])

-- What a call that writes pieces does to files and output. At success over honest files, each piece
-- that is a file has the stored size and all was appended; otherwise a prefix was.
pub record WritesPieces {X : Type 0} (steady : Bool) (answer : Result X TreeFault)
    (old new : FileMap) (s t : Sink) (pieces : List Content) : Type 0 where
  -- no call changes them; `NoFile` is returned if and only if their refusals rose
  pub files : UsesFiles (is_no_file answer) old new
  -- exactly the files among the pieces are opened, in order; at a fault the first ones
  pub opened : OpensEach (is_err answer) (flat_map file_of pieces) old new
  -- `Put` is returned if and only if the faults of the output rose
  pub faults : RisesIf (is_put answer) s.faults t.faults
  -- complete files refuse none that exists with its stored size
  pub found : IsTrue old.complete → AllByRecursion (IsKept old.bytes) pieces
      → is_no_file answer ≡ false
  -- if steady sources are opened and each file has its stored size, no read fails
  pub reads : IsTrue steady → IsTrue old.honest → AllByRecursion (IsKept old.bytes) pieces
      → is_read answer ≡ false
  -- if no piece is a file, only a write can fail
  pub in_memory : AllByRecursion IsBytes pieces → is_err answer ≡ is_put answer
  -- at success each file has its stored size
  pub kept : IsTrue old.honest → OnFalse (is_err answer) (AllByRecursion (IsKept old.bytes) pieces)
  -- all pieces, or a prefix of them at a fault
  pub written : IsTrue old.honest
      → Written (is_err answer) s t (flat_map (content_bytes old.bytes) pieces)
