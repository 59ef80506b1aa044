-- The sizes that a plan has are those of the blob.
use Rattle.std.proofs.Common.{◌≡◌, ◌<◌, ◌+◌, ◌++◌, ℕ, List, [], ◌∷◌, length, map, unwrap_or, Option, refl, ap, ◌∙◌, length-append, arith}
use Rattle.std.specs.List.{flat_map, AllByRecursion}
use Rattle.uimg_blob_reading.specs.Tokens.{Blocks}
use Rattle.uimg_blob_reading.specs.Plain.{NamedOf, NodesOf, no_node, a_node, with_value, with_values, AllValues, AreNamed, IsName}
use Rattle.uimg_blob_writing.specs.Content.{Content, Unread, bytes, file, content_bytes, size_of, IsKept}
use Rattle.uimg_blob_writing.specs.Encoding.{word, padded, with_nul, names_of, with_name, with_names, with_names_in, property_bytes, nodes_bytes}
use Rattle.uimg_blob_writing.specs.Layouts.{property_size, properties_size, nodes_size}
use Rattle.uimg_blob_writing.proofs.TokenLaws.{length-padded, length-property_bytes, length-six}

-- a value that is kept has its size
pub kept-size : (files : List ℕ → Option (List ℕ)) (c : Content) → IsKept files c → length (content_bytes files c) ≡ size_of c
kept-size files (bytes b) h = refl
kept-size files (file name size) h = ap (λ (o : Option (List ℕ)). length (unwrap_or o [])) h.1 ∙ h.2

no_blocks : Blocks
no_blocks = record { bytes = []; structure = 0; structure_end = 0; strings = 0; strings_size = 0 }

-- names stay whatever the values are
with_names-values : {V W : Type 0} (f : V → W) (names : List (List ℕ)) (own : List (NamedOf V)) → with_names names (map (with_value f) own) ≡ with_names names own
unfolding with_names
with_names-values f names [] = refl
with_names-values f names (p ∷ own) = with_names-values f (with_name names p.name) own

with_names_in-values : {V W : Type 0} (f : V → W) (names : List (List ℕ)) (t : NodesOf V) → with_names_in names (with_values f t) ≡ with_names_in names t
unfolding with_names_in with_values
with_names_in-values f names no_node = refl
with_names_in-values f names (a_node name own below after) =
    ap (λ (l : List (List ℕ)). with_names_in (with_names_in l (with_values f below)) (with_values f after)) (with_names-values f names own)
    ∙ ap (λ (l : List (List ℕ)). with_names_in l (with_values f after)) (with_names_in-values f (with_names names own) below)
    ∙ with_names_in-values f (with_names_in (with_names names own) below) after

pub names_of-values : {V W : Type 0} (f : V → W) (t : NodesOf V) → names_of (with_values f t) ≡ names_of t
names_of-values f t = with_names_in-values f [] t

pub named-properties : {V W : Type 0} (f : V → W) (own : List (NamedOf V)) → AllByRecursion (λ p. IsName p.name) own → AllByRecursion (λ p. IsName p.name) (map (with_value f) own)
named-properties f [] h = tt
named-properties f (p ∷ own) h = (h.0, named-properties f own h.1)

pub named-values : {V W : Type 0} (f : V → W) (t : NodesOf V) → AreNamed t → AreNamed (with_values f t)
unfolding with_values
named-values f no_node h = tt
named-values f (a_node name own below after) h = (h.0, named-properties f own h.1, named-values f below h.2, named-values f after h.3)

module _ (files : List ℕ → Option (List ℕ)) (names : List (List ℕ)) where
  length-properties : (own : List (NamedOf Content)) → AllByRecursion (λ p. IsKept files p.value) own → length (flat_map (property_bytes names) (map (with_value (content_bytes files)) own)) ≡ properties_size own
  length-properties [] kept = refl
  length-properties (p ∷ own) kept =
      let bytes = property_bytes names (with_value (content_bytes files) p) in
      let step : length (flat_map (property_bytes names) (map (with_value (content_bytes files)) (p ∷ own))) ≡ length (bytes ++ flat_map (property_bytes names) (map (with_value (content_bytes files)) own)) = refl in
      let total : properties_size (p ∷ own) ≡ property_size p + properties_size own = refl in
      omega (arith, step, total, length-append bytes (flat_map (property_bytes names) (map (with_value (content_bytes files)) own)), length-property_bytes no_blocks names (with_value (content_bytes files) p), kept-size files p.value kept.0, length-properties own kept.1)

  pub length-nodes : (t : Unread) → AllValues (IsKept files) t → length (nodes_bytes names (with_values (content_bytes files) t)) ≡ nodes_size t
  unfolding with_values nodes_bytes nodes_size
  length-nodes no_node kept = refl
  length-nodes (a_node name own below after) kept =
      let props = flat_map (property_bytes names) (map (with_value (content_bytes files)) own) in
      let all = length-six no_blocks names (word 1) (padded (with_nul name)) props (nodes_bytes names (with_values (content_bytes files) below)) (word 2) (nodes_bytes names (with_values (content_bytes files) after)) in
      omega (arith, all, length-padded (with_nul name), length-append name (0 ∷ []), length-properties own kept.0, length-nodes below kept.1, length-nodes after kept.2)

-- values fit where the nodes do
small-properties : (n : ℕ) (own : List (NamedOf Content)) → properties_size own < n → AllByRecursion (λ p. size_of p.value < n) own
small-properties n [] h = tt
small-properties n (p ∷ own) h =
    let total : properties_size (p ∷ own) ≡ property_size p + properties_size own = refl in
    (omega (arith, h, total), small-properties n own (omega (arith, h, total)))

pub small-values : (n : ℕ) (t : Unread) → nodes_size t < n → AllValues (λ c. size_of c < n) t
unfolding nodes_size
small-values n no_node h = tt
small-values n (a_node name own below after) h = (small-properties n own (omega (arith, h)), small-values n below (omega (arith, h)), small-values n after (omega (arith, h)))
