-- What is set in a tree before it is built.
use Rattle.std.specs.Prelude.{◌≡◌, ℕ, List, [], ◌∷◌, if◌then◌else◌, not, Option, Some, None, codes}
use Rattle.std.specs.{List.{filter, list_any, AllByRecursion}, Str.bytes_eq}
use Rattle.std.specs.Option.{option_and_then, option_map_or}
use Rattle.uimg_texts.specs.declared.naming.Naming.{Naming, TheVariants.Profile}
use Rattle.uimg_sums.specs.{declared.algo.Algo.Algo, Algorithms.digest_by}
use Rattle.uimg_blob_reading.specs.{Roles.is_hash, LookUps.{NodeOf, first, images, hashes}}
use Rattle.uimg_blob_reading.specs.Plain.{NamedOf, NodesOf, Named, Nodes, no_node, a_node}
use Rattle.uimg_texts.specs.Nul.{text}
use Rattle.uimg_blob_writing.specs.Encoding.{word}
use Rattle.uimg_fit_base.specs.AlgoNames.{algo_by}

-- properties, with the first of a name set to a value, or with one more
unfoldable pub with : {V : Type 0} → List ℕ → V → List (NamedOf V) → List (NamedOf V)
with key value [] = record { name = key; value = value } ∷ []
with key value (p ∷ own) =
    if bytes_eq key p.name then record { name = key; value = value } ∷ own else p
    ∷ with key value own

-- the names of the properties that give payloads offsets outside the blob
abbrev pub external_names : List (List ℕ)
external_names = codes "data-offset" ∷ codes "data-size" ∷ codes "data-position" ∷ []

-- properties without those
abbrev pub without_external : {V : Type 0} → List (NamedOf V) → List (NamedOf V)
without_external own = filter (λ p. not (list_any (bytes_eq p.name) external_names)) own

-- a node and those that follow it
abbrev pub followed_by : {V : Type 0} → NodeOf V → NodesOf V → NodesOf V
followed_by n after = a_node n.name n.own n.below after

-- a function applied to each of some nodes
unfoldable pub each : {V : Type 0} → (NodeOf V → NodeOf V) → NodesOf V → NodesOf V
each f no_node = no_node
each f (a_node name own below after) =
    followed_by (f (record { name = name; own = own; below = below })) (each f after)

-- nodes, with a function applied to the children of the first of a name
unfoldable pub in_first : {V : Type 0} → List ℕ → (NodesOf V → NodesOf V) → NodesOf V → NodesOf V
in_first key f no_node = no_node
in_first key f (a_node name own below after) =
    if bytes_eq key name then a_node name own (f below) after else a_node name own below
    (in_first key f after)

-- a tree, with a function applied to its images
abbrev pub with_images : {V : Type 0} → (NodesOf V → NodesOf V) → NodesOf V → NodesOf V
with_images f no_node = no_node
with_images f (a_node name own below after) =
    a_node name own (in_first (codes "images") f below) after

-- a tree, with one of the root's properties set
abbrev pub with_root : {V : Type 0} → List ℕ → V → NodesOf V → NodesOf V
with_root key value no_node = no_node
with_root key value (a_node name own below after) = a_node name (with key value own) below after

-- The steps of filling work on any values: `read` gives the bytes of a value, `made` the value of
-- some bytes. The algorithms are those of a set of names.

-- the algorithm of a hash node, if its name is known
abbrev pub hash_algo : {V : Type 0} → Naming → (V → List ℕ) → List (NamedOf V) → Option Algo
hash_algo naming read own =
    option_and_then (λ name. algo_by naming (text (read name))) (first own (codes "algo"))

-- a hash node with the digest of a payload; one of an unknown algorithm is unchanged
abbrev pub with_digest_by : {V : Type 0} → Naming → (V → List ℕ) → (List ℕ → V) → List ℕ → NodeOf V
    → NodeOf V
with_digest_by naming read made message h =
    option_map_or (λ algo. record h {
      own = with (codes "value") (made (digest_by algo message))
          h.own;
    }) (hash_algo naming read h.own) h

-- a child of an image: a hash node with the digest, any other unchanged
abbrev pub hashed_by : {V : Type 0} → Naming → (V → List ℕ) → (List ℕ → V) → List ℕ → NodeOf V
    → NodeOf V
hashed_by naming read made message h =
    if is_hash h.name then with_digest_by naming read made message h else h

-- an image with the digests of its first `data`, and no offset outside the blob
abbrev pub filled_image_by : {V : Type 0} → Naming → (V → List ℕ) → (List ℕ → V) → NodeOf V
    → NodeOf V
filled_image_by naming read made image = record image {
  own = without_external image.own;
  below =
      option_map_or (λ payload. each (hashed_by naming read made (read payload)) image.below)
      (first image.own (codes "data")) image.below;
}

-- a tree with a timestamp and its images' digests
abbrev pub filled_by : {V : Type 0} → Naming → (V → List ℕ) → (List ℕ → V) → ℕ → NodesOf V
    → NodesOf V
filled_by naming read made time t =
    with_root (codes "timestamp") (made (word time))
    (with_images (each (filled_image_by naming read made)) t)

-- the same for values that are bytes
abbrev pub algo_in : Naming → List Named → Option Algo
algo_in naming own = hash_algo naming (λ value. value) own

abbrev pub hashed : Naming → List ℕ → NodeOf (List ℕ) → NodeOf (List ℕ)
hashed naming message h = hashed_by naming (λ value. value) (λ value. value) message h

abbrev pub filled_image : Naming → NodeOf (List ℕ) → NodeOf (List ℕ)
filled_image naming image = filled_image_by naming (λ value. value) (λ value. value) image

abbrev pub filled : Naming → ℕ → Nodes → Nodes
filled naming time t = filled_by naming (λ value. value) (λ value. value) time t

-- A hash node's algorithm is known and its first `value` is the digest of a payload.
pub record IsDigest (naming : Naming) (message : List ℕ) (h : NodeOf (List ℕ)) : Type 0 where
  pub algo : Algo
  pub known : algo_in naming h.own ≡ Some algo
  pub value : first h.own (codes "value") ≡ Some (digest_by algo message)

-- An image has `data` and no offset outside the blob, and each of its hash nodes has the digest of
-- its first `data`.
pub record IsFilledImage (naming : Naming) (image : NodeOf (List ℕ)) : Type 0 where
  pub message : List ℕ
  pub has : first image.own (codes "data") ≡ Some message
  pub no_offset : first image.own (codes "data-offset") ≡ None
  pub no_size : first image.own (codes "data-size") ≡ None
  pub no_position : first image.own (codes "data-position") ≡ None
  pub digests : AllByRecursion (IsDigest naming message) (hashes image)

-- A tree has `images`, and each image is filled.
pub record IsFilledBy (naming : Naming) (t : Nodes) : Type 0 where
  pub found : List (NodeOf (List ℕ))
  pub are_images : images t ≡ Some found
  pub each_filled : AllByRecursion (IsFilledImage naming) found

-- the same by the algorithms of the profile
abbrev pub IsFilled : Nodes → Type 0
IsFilled t = IsFilledBy Profile t
