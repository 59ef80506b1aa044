-- Definitions tried on worked cases.
use Rattle.std.proofs.Common.{sym}
use Rattle.std.specs.Prelude.{◌≡◌, ℕ, List, [], ◌∷◌, ◌++◌, refl, Ok, Err, Some, None, map, replicate, codes}
use Rattle.uimg_blob_reading.specs.{declared.fault.BlobFault.TheVariants.BadNesting, Keys.key_named}
use Rattle.uimg_blob_reading.specs.{declared.fault.IndexFault.TheVariants.Blob, Rows.{rows, table}}
use Rattle.uimg_blob_reading.specs.Tokens.{tokens_from, token_at, begin_node, end_node, prop, last}
use Rattle.uimg_blob_reading.specs.{Blob.{tree, blocks, up_to}, Passes.{inside, IsSoFar}}
use Rattle.uimg_blob_reading.specs.{Counts.{nodes_met, nops_met, meta, tokens_before}, Walk.opened}
use Rattle.uimg_blob_reading.specs.{Kept.{kept, span_word}, SoFar.{so_far, next_level, next_number}}
use Rattle.uimg_blob_reading.specs.declared.keys.Key.TheVariants as key
use Rattle.uimg_blob_reading.specs.declared.roles.Role.TheVariants as role
use Rattle.uimg_texts.specs.{Numbers.be32, Nul.before_nul}
use Rattle.uimg_blob_reading.specs.Grammar.{Siblings, none, node, root, properties, children, without_nops}
use Rattle.uimg_blob_reading.proofs.PhaseLaws.{true_false}

-- a blob of 112 bytes: the root with the properties v and e
abbrev header : List ℕ
header =
    0xd0 ∷ 0x0d ∷ 0xfe ∷ 0xed ∷ 0 ∷ 0 ∷ 0 ∷ 112 ∷ 0 ∷ 0 ∷ 0 ∷ 56 ∷ 0 ∷ 0 ∷ 0 ∷ 108 ∷ 0 ∷ 0 ∷ 0 ∷ 40
    ∷ 0 ∷ 0 ∷ 0 ∷ 17 ∷ 0 ∷ 0 ∷ 0 ∷ 16 ∷ 0 ∷ 0 ∷ 0 ∷ 0 ∷ 0 ∷ 0 ∷ 0 ∷ 4 ∷ 0 ∷ 0 ∷ 0 ∷ 52
    ∷ 0 ∷ 0 ∷ 0 ∷ 0 ∷ 0 ∷ 0 ∷ 0 ∷ 0 ∷ 0 ∷ 0 ∷ 0 ∷ 0 ∷ 0 ∷ 0 ∷ 0 ∷ 0 ∷ []

abbrev strings : List ℕ
strings = 118 ∷ 0 ∷ 101 ∷ 0 ∷ []

abbrev mixed : List ℕ
mixed = header
    ++ (0 ∷ 0 ∷ 0 ∷ 1 ∷ 0 ∷ 0 ∷ 0 ∷ 0
    ∷ 0 ∷ 0 ∷ 0 ∷ 3 ∷ 0 ∷ 0 ∷ 0 ∷ 12 ∷ 0 ∷ 0 ∷ 0 ∷ 0 ∷ 97 ∷ 0 ∷ 0 ∷ 0 ∷ 0 ∷ 1 ∷ 0 ∷ 0 ∷ 0 ∷ 2 ∷ 0 ∷ 255
    ∷ 0 ∷ 0 ∷ 0 ∷ 3 ∷ 0 ∷ 0 ∷ 0 ∷ 0 ∷ 0 ∷ 0 ∷ 0 ∷ 2
    ∷ 0 ∷ 0 ∷ 0 ∷ 2 ∷ 0 ∷ 0 ∷ 0 ∷ 9 ∷ [])
    ++ strings

mixed-tree : tree mixed ≡ Ok (node 56 []
    (record { name = 118 ∷ []; place = 76; value = 97 ∷ 0 ∷ 0 ∷ 0 ∷ 0 ∷ 1 ∷ 0 ∷ 0 ∷ 0 ∷ 2 ∷ 0 ∷ 255 ∷ [] }
    ∷ record { name = 101 ∷ []; place = 100; value = [] } ∷ []) none none)
unfolding tree blocks tokens_from token_at before_nul root properties children without_nops be32
mixed-tree = refl

mixed-meta : meta mixed ≡ 3136
unfolding tree blocks tokens_from token_at before_nul root properties children without_nops be32 up_to tokens_before
mixed-meta = refl

-- a property after a child: the root, a child, its end, a property
abbrev late : List ℕ
late = header
    ++ (0 ∷ 0 ∷ 0 ∷ 1 ∷ 0 ∷ 0 ∷ 0 ∷ 0
    ∷ 0 ∷ 0 ∷ 0 ∷ 1 ∷ 97 ∷ 0 ∷ 0 ∷ 0 ∷ 0 ∷ 0 ∷ 0 ∷ 2
    ∷ 0 ∷ 0 ∷ 0 ∷ 3 ∷ 0 ∷ 0 ∷ 0 ∷ 0 ∷ 0 ∷ 0 ∷ 0 ∷ 2
    ∷ 0 ∷ 0 ∷ 0 ∷ 2 ∷ 0 ∷ 0 ∷ 0 ∷ 9 ∷ 0 ∷ 0 ∷ 0 ∷ 0 ∷ 0 ∷ 0 ∷ 0 ∷ 0 ∷ 0 ∷ 0 ∷ 0 ∷ 0 ∷ [])
    ++ strings

late-tree : tree late ≡ Err (BadNesting, 76)
unfolding tree blocks tokens_from token_at before_nul root properties children without_nops be32
late-tree = refl

-- its entries so far: the root has no end yet, its child ends before the node of number 2
late-entries : IsSoFar (blocks late) (Blob BadNesting 76) ((span_word 60 0 ∷ 0 ∷ 0 ∷ 0 ∷ replicate 12 0) ∷ (span_word 68 1 ∷ 1 ∷ 2 ∷ 6 ∷ replicate 12 0) ∷ [])
unfolding blocks tokens_from token_at before_nul be32 so_far next_level next_number kept
late-entries = record {
  taken = begin_node 56 (Ok []) ∷ begin_node 64 (Ok (97 ∷ [])) ∷ end_node 72 ∷ [];
  token = prop 76 (Ok (record { name = 101 ∷ []; place = 88; value = [] }));
  more = end_node 88 ∷ last 92 ∷ [];
  all = refl;
  phase = inside (opened 56 [] [] (node 64 (97 ∷ []) [] none none) ∷ []);
  reached = refl;
  entries = refl;
  refused = ((λ known. refl), (λ refused. absurd (true_false (sym refused))));
}

-- the same with a token without meaning in the property's place
abbrev accepted : List ℕ
accepted = header
    ++ (0 ∷ 0 ∷ 0 ∷ 1 ∷ 0 ∷ 0 ∷ 0 ∷ 0
    ∷ 0 ∷ 0 ∷ 0 ∷ 1 ∷ 97 ∷ 0 ∷ 0 ∷ 0 ∷ 0 ∷ 0 ∷ 0 ∷ 2
    ∷ 0 ∷ 0 ∷ 0 ∷ 4 ∷ 0 ∷ 0 ∷ 0 ∷ 2 ∷ 0 ∷ 0 ∷ 0 ∷ 9
    ∷ 0 ∷ 0 ∷ 0 ∷ 2 ∷ 0 ∷ 0 ∷ 0 ∷ 9 ∷ 0 ∷ 0 ∷ 0 ∷ 0 ∷ 0 ∷ 0 ∷ 0 ∷ 0 ∷ 0 ∷ 0 ∷ 0 ∷ 0 ∷ [])
    ++ strings

accepted-tree : tree accepted ≡ Ok (node 56 [] [] (node 64 (97 ∷ []) [] none none) none)
unfolding tree blocks tokens_from token_at before_nul root properties children without_nops be32
accepted-tree = refl

accepted-nodes : nodes_met accepted ≡ 2
unfolding tree blocks tokens_from token_at before_nul root properties children without_nops be32 up_to
accepted-nodes = refl

accepted-nops : nops_met accepted ≡ 1
unfolding tree blocks tokens_from token_at before_nul root properties children without_nops be32 up_to
accepted-nops = refl

-- a tree with images, twice, an image and its hash
abbrev fit : Siblings
fit = node 0 [] []
    (node 1 (codes "images") [] (node 2 (codes "kernel") [] (node 3 (codes "hash-1") [] none none) none)
    (node 4 (codes "images") [] (node 5 (codes "no") [] none none)
    (node 6 (codes "configurations") [] (node 7 (codes "conf") [] none none) none))) none

fit-roles : map (λ r. r.role) (table fit) ≡
    role.Root ∷ role.Images ∷ role.Image ∷ role.Hash ∷ role.Other ∷ role.Other ∷ role.Configurations ∷ role.Configuration ∷ []
unfolding rows
fit-roles = refl

fit-next : map (λ r. r.next_sibling) (table fit) ≡ None ∷ Some 4 ∷ None ∷ None ∷ Some 6 ∷ None ∷ None ∷ None ∷ []
unfolding rows
fit-next = refl

fit-first : map (λ r. r.first_child) (table fit) ≡ Some 1 ∷ Some 2 ∷ Some 3 ∷ None ∷ Some 5 ∷ None ∷ Some 7 ∷ None ∷ []
unfolding rows
fit-first = refl

fit-parents : map (λ r. r.parent) (table fit) ≡ None ∷ Some 0 ∷ Some 1 ∷ Some 2 ∷ Some 0 ∷ Some 4 ∷ Some 0 ∷ Some 6 ∷ []
unfolding rows
fit-parents = refl

type-key : key_named (codes "type") ≡ Some key.Kind
type-key = refl

long-key : key_named (codes "types") ≡ None
long-key = refl
