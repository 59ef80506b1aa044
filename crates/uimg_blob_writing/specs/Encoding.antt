-- The blob of a tree (Devicetree Specification, chapter 5).
use Rattle.std.specs.Prelude.{ℕ, suc, ◌+◌, ◌-◌, ◌*◌, List, [], ◌∷◌, ◌++◌, length, replicate, if◌then◌else◌}
use Rattle.std.specs.{Int.{to_be_bytes, w32, w64}, List.{flat_map, list_any}, Str.bytes_eq}
use Rattle.uimg_texts.specs.Numbers.{up4}
use Rattle.uimg_blob_reading.specs.Blob.{magic}
use Rattle.uimg_blob_reading.specs.Plain.{NamedOf, NodesOf, Named, Nodes, no_node, a_node}
use Rattle.uimg_blob_writing.specs.declared.blob_end.BlobEnd.{BlobEnd}
use Rattle.uimg_blob_writing.specs.declared.reservation.Reservation.{Reservation}
use Rattle.uimg_blob_writing.specs.Alignment.{ends_at, filled, sized}

-- a number in four bytes, big-endian
abbrev pub word : ℕ → List ℕ
word n = to_be_bytes w32 n

-- bytes padded with zeros to a multiple of 4
abbrev pub padded : List ℕ → List ℕ
padded bytes = bytes ++ replicate (up4 (length bytes) - length bytes) 0

-- a name and its NUL
abbrev pub with_nul : List ℕ → List ℕ
with_nul name = name ++ 0 ∷ []

-- the names with one more, if it is not among them
abbrev pub with_name : List (List ℕ) → List ℕ → List (List ℕ)
with_name names name = if list_any (bytes_eq name) names then names else names ++ name ∷ []

-- the names with those of properties
unfoldable pub with_names : {V : Type 0} → List (List ℕ) → List (NamedOf V) → List (List ℕ)
with_names names [] = names
with_names names (p ∷ own) = with_names (with_name names p.name) own

-- the names with those of the properties of nodes, in order of first use
unfoldable pub with_names_in : {V : Type 0} → List (List ℕ) → NodesOf V → List (List ℕ)
with_names_in names no_node = names
with_names_in names (a_node name own below after) =
    with_names_in (with_names_in (with_names names own) below) after

-- the names of a tree's properties, each once, in order of first use
abbrev pub names_of : {V : Type 0} → NodesOf V → List (List ℕ)
names_of t = with_names_in [] t

-- the strings block: each name with its NUL
abbrev pub strings : List (List ℕ) → List ℕ
strings names = flat_map with_nul names

-- the offset of a name in the strings block
unfoldable pub name_offset : List (List ℕ) → List ℕ → ℕ
name_offset [] name = 0
name_offset (first ∷ names) name =
    if bytes_eq name first then 0 else length (with_nul first) + name_offset names name

-- FDT_PROP: the length of the value, the offset of the name, and the value
unfoldable pub property_bytes : List (List ℕ) → Named → List ℕ
property_bytes names p =
    word 3 ++ word (length p.value) ++ word (name_offset names p.name) ++ padded p.value

-- for each node FDT_BEGIN_NODE, the name, the properties, the children and FDT_END_NODE
unfoldable pub nodes_bytes : List (List ℕ) → Nodes → List ℕ
nodes_bytes names no_node = []
nodes_bytes names (a_node name own below after) =
    word 1 ++ padded (with_nul name) ++ flat_map (property_bytes names) own
    ++ nodes_bytes names below
    ++ word 2
    ++ nodes_bytes names after

-- the structure block: the nodes and FDT_END
abbrev pub structure : Nodes → List ℕ
structure t = nodes_bytes (names_of t) t ++ word 9

-- an entry of the reservation block (section 5.3): address and size, each of 64 bits, big-endian
abbrev pub entry_bytes : Reservation → List ℕ
entry_bytes r = to_be_bytes w64 r.address ++ to_be_bytes w64 r.size

-- the reservation block: the entries, and the pair of zeros that ends it
abbrev pub reserved : List Reservation → List ℕ
reserved rs = flat_map entry_bytes rs ++ replicate 16 0

-- off_dt_struct: the offset of the structure block, after the header of 40 bytes, the entries and
-- the pair of zeros
abbrev pub structure_offset : List Reservation → ℕ
structure_offset rs = 40 + 16 * suc (length rs)

-- The header for the size of the blob, the offset of the structure block, and the sizes of it and
-- of the strings block: magic, totalsize, off_dt_struct, off_dt_strings, off_mem_rsvmap, version,
-- last_comp_version, boot_cpuid_phys, size_dt_strings, size_dt_struct.
abbrev pub header : ℕ → ℕ → ℕ → ℕ → List ℕ
header total offset structure_size strings_size =
    word magic ++ word total ++ word offset ++ word (offset + structure_size) ++ word 40
    ++ word 17 ++ word 16 ++ word 0 ++ word strings_size ++ word structure_size

-- the size in bytes of a blob with this end, offset of the structure block and sizes of blocks
abbrev pub blob_size : BlobEnd → ℕ → ℕ → ℕ → ℕ
blob_size ending offset structure_size strings_size =
    sized ending (offset + structure_size + strings_size)

-- a blob: the header, the reservation block, the structure and strings blocks, and padding
unfoldable pub blob : BlobEnd → List Reservation → List ℕ → List ℕ → List ℕ
blob ending rs structure strings =
    filled ending
    (header (blob_size ending (structure_offset rs) (length structure) (length strings))
    (structure_offset rs) (length structure) (length strings) ++ reserved rs
    ++ structure
    ++ strings)

-- the blob of a tree with reservations and an end
abbrev pub encode_with : BlobEnd → List Reservation → Nodes → List ℕ
encode_with ending rs t = blob ending rs (structure t) (strings (names_of t))

-- the blob of a tree without reservations and free room
abbrev pub encode : Nodes → List ℕ
encode = encode_with (ends_at 4) []
