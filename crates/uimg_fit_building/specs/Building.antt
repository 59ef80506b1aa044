-- The file built from a tree (Flattened Image Tree format, "External data").
use Rattle.std.specs.Prelude.{ℕ, ◌+◌, ◌-◌, List, [], ◌∷◌, ◌++◌, length, replicate, if◌then◌else◌}
use Rattle.std.specs.{Prelude.{codes, unwrap_or}, List.flat_map, Option.option_map_or, Str.bytes_eq}
use Rattle.uimg_blob_reading.specs.Plain.{NamedOf, NodesOf, Named, Nodes, no_node, a_node}
use Rattle.uimg_blob_reading.specs.LookUps.{first, images}
use Rattle.uimg_blob_writing.specs.{Alignment.{aligned, padded_by}, Encoding.{word, encode_with}}
use Rattle.uimg_blob_writing.specs.declared.blob_end.BlobEnd.{BlobEnd}
use Rattle.uimg_blob_writing.specs.declared.reservation.Reservation.{Reservation}
use Rattle.uimg_fit_base.specs.declared.placement.AlignedPlacement.{AlignedPlacement}
use Rattle.uimg_fit_base.specs.declared.placement.AlignedPlacement.TheVariants.{Inside, After, At}
use Rattle.uimg_fit_base.specs.Placements.{align_of, least_of}
use Rattle.uimg_fit_building.specs.Filling.{with_images}

-- the first `data` of an image, or nothing
abbrev pub data_of : List Named → List ℕ
data_of own = unwrap_or (first own (codes "data")) []

-- The steps of placing work on any values: `size` gives the size of a value, `made` the value of
-- some bytes.

-- the size of an image's payload, rounded up to an alignment
abbrev pub padded_size_by : {V : Type 0} → (V → ℕ) → ℕ → List (NamedOf V) → ℕ
padded_size_by size align own =
    option_map_or (λ payload. aligned align (size payload)) (first own (codes "data")) 0

-- properties, with two cells in place of the first `data`: its offset, under a key, and its size
unfoldable pub moved_own_by : {V : Type 0} → (V → ℕ) → (List ℕ → V) → List ℕ → ℕ → List (NamedOf V)
    → List (NamedOf V)
moved_own_by size made key at [] = []
moved_own_by size made key at (p ∷ own) =
    if bytes_eq (codes "data") p.name then
    record { name = key; value = made (word at) }
    ∷ record { name = codes "data-size"; value = made (word (size p.value)) } ∷ own
    else p ∷ moved_own_by size made key at own

-- images, with cells in place of the first `data` of each: one after another from an offset on,
-- each rounded up to an alignment; an image without `data` is unchanged
unfoldable pub moved_from_by : {V : Type 0} → (V → ℕ) → (List ℕ → V) → ℕ → List ℕ → ℕ → NodesOf V
    → NodesOf V
moved_from_by size made align key at no_node = no_node
moved_from_by size made align key at (a_node name own below after) =
    a_node name (moved_own_by size made key at own) below
    (moved_from_by size made align key (at + padded_size_by size align own) after)

-- a tree with its payloads placed: inside the blob; at `data-offset`, which counts from the blob's
-- end; or at `data-position`, which counts from the file's start
abbrev pub moved_by : {V : Type 0} → (V → ℕ) → (List ℕ → V) → NodesOf V → AlignedPlacement
    → NodesOf V
moved_by size made t (Inside least) = t
moved_by size made t (After align) =
    with_images (moved_from_by size made align (codes "data-offset") 0) t
moved_by size made t (At p align) =
    with_images (moved_from_by size made align (codes "data-position") p) t

-- the same for values that are bytes
abbrev pub padded_size : ℕ → List Named → ℕ
padded_size align own = padded_size_by (λ value. length value) align own

abbrev pub moved_own : List ℕ → ℕ → List Named → List Named
moved_own = moved_own_by (λ value. length value) (λ value. value)

abbrev pub moved_from : ℕ → List ℕ → ℕ → Nodes → Nodes
moved_from = moved_from_by (λ value. length value) (λ value. value)

abbrev pub moved : Nodes → AlignedPlacement → Nodes
moved = moved_by (λ value. length value) (λ value. value)

-- the payloads of a tree, each padded with zeros to an alignment
abbrev pub payloads : ℕ → Nodes → List ℕ
payloads align t = flat_map (λ image. padded_by align (data_of image.own)) (unwrap_or (images t) [])

-- the end of a tree's blob
abbrev pub end_of : AlignedPlacement → BlobEnd
end_of placement = record { align = align_of placement; least = least_of placement }

-- the blob of a tree with its payloads placed, with reservations
abbrev pub placed_with : List Reservation → Nodes → AlignedPlacement → List ℕ
placed_with rs t placement = encode_with (end_of placement) rs (moved t placement)

-- what follows the blob
abbrev pub behind_with : List Reservation → Nodes → AlignedPlacement → List ℕ
behind_with rs t (Inside least) = []
behind_with rs t (After align) = payloads align t
behind_with rs t (At p align) =
    replicate (p - length (placed_with rs t (At p align))) 0 ++ payloads align t

-- the file of a tree with reservations
abbrev pub built_with : List Reservation → Nodes → AlignedPlacement → List ℕ
built_with rs t placement = placed_with rs t placement ++ behind_with rs t placement

-- the blob and the file of a tree without reservations
abbrev pub placed_blob : Nodes → AlignedPlacement → List ℕ
placed_blob = placed_with []

abbrev pub built : Nodes → AlignedPlacement → List ℕ
built = built_with []
