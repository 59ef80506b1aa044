-- Definitions tried on worked cases.
use Rattle.std.specs.Prelude.{◌≡◌, [], ◌∷◌, refl, Ok}
use Rattle.uimg_texts.specs.{Nul.before_nul, Numbers.be32}
use Rattle.uimg_blob_reading.specs.{Tokens.{tokens_from, token_at}, Blob.{tree, blocks}}
use Rattle.uimg_blob_reading.specs.Grammar.{root, properties, children, without_nops}
use Rattle.uimg_blob_reading.specs.Plain.{Nodes, no_node, a_node, unplaced_in}
use Rattle.uimg_blob_writing.specs.Alignment.{aligned}
use Rattle.uimg_blob_writing.specs.Encoding.{with_names, with_names_in, name_offset, property_bytes, nodes_bytes, blob, encode}

abbrev mixed : Nodes
mixed = a_node []
    (record { name = 118 ∷ []; value = 97 ∷ 0 ∷ 0 ∷ 0 ∷ 0 ∷ 1 ∷ 0 ∷ 0 ∷ 0 ∷ 2 ∷ 0 ∷ 255 ∷ [] }
    ∷ record { name = 101 ∷ []; value = [] } ∷ []) no_node no_node

mixed-values : encode mixed ≡
    0xd0 ∷ 0x0d ∷ 0xfe ∷ 0xed ∷ 0 ∷ 0 ∷ 0 ∷ 112 ∷ 0 ∷ 0 ∷ 0 ∷ 56 ∷ 0 ∷ 0 ∷ 0 ∷ 108 ∷ 0 ∷ 0 ∷ 0 ∷ 40
    ∷ 0 ∷ 0 ∷ 0 ∷ 17 ∷ 0 ∷ 0 ∷ 0 ∷ 16 ∷ 0 ∷ 0 ∷ 0 ∷ 0 ∷ 0 ∷ 0 ∷ 0 ∷ 4 ∷ 0 ∷ 0 ∷ 0 ∷ 52
    ∷ 0 ∷ 0 ∷ 0 ∷ 0 ∷ 0 ∷ 0 ∷ 0 ∷ 0 ∷ 0 ∷ 0 ∷ 0 ∷ 0 ∷ 0 ∷ 0 ∷ 0 ∷ 0
    ∷ 0 ∷ 0 ∷ 0 ∷ 1 ∷ 0 ∷ 0 ∷ 0 ∷ 0
    ∷ 0 ∷ 0 ∷ 0 ∷ 3 ∷ 0 ∷ 0 ∷ 0 ∷ 12 ∷ 0 ∷ 0 ∷ 0 ∷ 0 ∷ 97 ∷ 0 ∷ 0 ∷ 0 ∷ 0 ∷ 1 ∷ 0 ∷ 0 ∷ 0 ∷ 2 ∷ 0 ∷ 255
    ∷ 0 ∷ 0 ∷ 0 ∷ 3 ∷ 0 ∷ 0 ∷ 0 ∷ 0 ∷ 0 ∷ 0 ∷ 0 ∷ 2
    ∷ 0 ∷ 0 ∷ 0 ∷ 2 ∷ 0 ∷ 0 ∷ 0 ∷ 9
    ∷ 118 ∷ 0 ∷ 101 ∷ 0 ∷ []
unfolding with_names with_names_in name_offset property_bytes nodes_bytes blob aligned
mixed-values = refl

mixed-back : unplaced_in (tree (encode mixed)) ≡ Ok mixed
unfolding with_names with_names_in name_offset property_bytes nodes_bytes blob aligned tree blocks tokens_from token_at before_nul root properties children without_nops be32
mixed-back = refl

-- A blob that ends at 735 and a payload of 1001 bytes, as mkimage 2023.01 rounds them up by -B 4, 8, 200, c and 14.
aligned-values : (aligned 4 735 ≡ 736) × (aligned 4 1001 ≡ 1004) × (aligned 8 735 ≡ 736) × (aligned 8 1001 ≡ 1008) × (aligned 512 735 ≡ 1024) × (aligned 512 1001 ≡ 1024)
    × (aligned 12 735 ≡ 736) × (aligned 12 1001 ≡ 1012) × (aligned 20 735 ≡ 736) × (aligned 20 1001 ≡ 1004)
unfolding aligned
aligned-values = (refl, refl, refl, refl, refl, refl, refl, refl, refl, refl)
