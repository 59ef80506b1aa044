-- U-Boot's reading, tried on worked cases.
use Rattle.std.specs.Prelude.{◌≡◌, ℕ, List, [], ◌∷◌, Some, None, true, false, refl, codes}
use Rattle.std.specs.Option.{option_map}
use Rattle.uimg_texts.specs.Numbers.{be32}
use Rattle.uimg_blob_reading.specs.LookUps.{NodeOf, listed}
use Rattle.uimg_blob_reading.specs.Plain.{NamedOf, NodesOf, no_node, a_node}
use Rattle.uimg_blob_reading.specs.Spots.{Spot}
use Rattle.uimg_strict.specs.UBoot.{goes_on_at, nodename_eq, path, payload_found, hashes_compared, has_no_at}

-- a node is found by its name up to a unit address, unless the sought name has one
names : (nodename_eq (codes "images") (codes "images@1") ≡ true) × (nodename_eq (codes "images") (codes "images2") ≡ false)
    × (nodename_eq (codes "images@1") (codes "images@1") ≡ true) × (nodename_eq (codes "images@1") (codes "images") ≡ false)
    × (nodename_eq (codes "a@") (codes "a@@") ≡ false)
unfolding goes_on_at
names = (refl, refl, refl, refl, refl)

-- .. so `/images` is the node `images@1` if that comes first
abbrev tree : NodesOf Spot
tree = a_node [] [] (a_node (codes "images@1") [] no_node (a_node (codes "images") [] no_node no_node)) no_node

first-images : (option_map (λ n. n.name) (path tree (codes "images")) ≡ Some (codes "images@1")) × (has_no_at tree ≡ false)
unfolding goes_on_at listed has_no_at
first-images = (refl, refl)

-- A file with the words 7, 40 (its total size), 9, 2, and images whose properties are at these words.
abbrev file : List ℕ
file = 0 ∷ 0 ∷ 0 ∷ 7 ∷ 0 ∷ 0 ∷ 0 ∷ 40 ∷ 0 ∷ 0 ∷ 0 ∷ 9 ∷ 0 ∷ 0 ∷ 0 ∷ 2 ∷ []

abbrev value : List ℕ → ℕ → List ℕ → NamedOf Spot
value name at bytes = record { name = name; value = record { place = at; bytes = bytes } }

abbrev image : List (NamedOf Spot) → NodeOf Spot
image own = record { name = codes "a"; own = own; below = no_node }

-- `data` alone; a position before an offset and before `data`; an offset from the blob's end; a cell of eight
-- bytes by its first four; and an offset without a size
payloads :
    (payload_found file (image (value (codes "data") 12 (codes "ab") ∷ [])) ≡ Some (record { place = 12; length = 2 }))
    × (payload_found file (image (value (codes "data") 12 (codes "ab") ∷ value (codes "data-position") 8 (0 ∷ []) ∷ value (codes "data-size") 12 [] ∷ [])) ≡ Some (record { place = 9; length = 2 }))
    × (payload_found file (image (value (codes "data-offset") 8 [] ∷ value (codes "data-size") 12 [] ∷ [])) ≡ Some (record { place = 49; length = 2 }))
    × (payload_found file (image (value (codes "data") 12 (codes "ab") ∷ value (codes "data-offset") 8 [] ∷ [])) ≡ None)
unfolding be32
payloads = (refl, refl, refl, refl)

-- a hash node is ignored if `uboot-ignore` has four bytes that are not 0
abbrev with_hash : List (NamedOf Spot) → NodeOf Spot
with_hash own = record { name = codes "a"; own = []; below = a_node (codes "hash-1") own no_node (a_node (codes "hush") [] no_node no_node) }

hashes-of :
    (hashes_compared file (with_hash (value (codes "uboot-ignore") 12 (0 ∷ 0 ∷ 0 ∷ 2 ∷ []) ∷ [])) ≡ [])
    × (hashes_compared file (with_hash []) ≡ record { name = codes "hash-1"; own = []; below = no_node } ∷ [])
unfolding be32 listed
hashes-of = (refl, refl)
