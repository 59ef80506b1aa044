-- The layout of a tree's blob, known before it is written.
use Rattle.std.specs.Prelude.{ℕ, ◌+◌, List, [], ◌∷◌, length}
use Rattle.uimg_texts.specs.Numbers.{up4}
use Rattle.uimg_blob_reading.specs.Plain.{NamedOf, no_node, a_node}
use Rattle.uimg_blob_writing.specs.Content.{Content, Unread, size_of}
use Rattle.uimg_blob_writing.specs.declared.blob_end.BlobEnd.{BlobEnd}
use Rattle.uimg_blob_writing.specs.declared.reservation.Reservation.{Reservation}
use Rattle.uimg_blob_writing.specs.Encoding.{names_of, strings, structure_offset, blob_size}

-- The names of the strings block, the reservations, the structure block's size in bytes, and the
-- blob's end.
pub record Plan : Type 0 where
  pub names : List (List ℕ)
  pub reservations : List Reservation
  pub structure : ℕ
  pub ending : BlobEnd

-- the size in bytes of a property's token, with its value
abbrev pub property_size : NamedOf Content → ℕ
property_size p = 12 + up4 (size_of p.value)

-- the size in bytes of the tokens of properties
abbrev pub properties_size : List (NamedOf Content) → ℕ
properties_size [] = 0
properties_size (p ∷ own) = property_size p + properties_size own

-- the size in bytes of nodes, with the stored sizes of files
unfoldable pub nodes_size : Unread → ℕ
nodes_size no_node = 0
nodes_size (a_node name own below after) =
    4 + up4 (length name + 1) + properties_size own + nodes_size below + 4 + nodes_size after

-- the plan of a tree with reservations for an end; the structure block ends with FDT_END
abbrev pub plan_with : BlobEnd → List Reservation → Unread → Plan
plan_with ending rs t =
    record {
      names = names_of t;
      reservations = rs;
      structure = nodes_size t + 4;
      ending = ending;
    }

-- where a planned blob's strings block ends
abbrev pub plan_end : Plan → ℕ
plan_end p = structure_offset p.reservations + p.structure + length (strings p.names)

-- the size in bytes of a planned blob
abbrev pub totalsize : Plan → ℕ
totalsize p =
    blob_size p.ending (structure_offset p.reservations) p.structure (length (strings p.names))
