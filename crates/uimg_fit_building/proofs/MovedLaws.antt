-- The images of a tree whose payloads were moved.
use Rattle.std.proofs.Common.{◌≡◌, ◌<◌, ◌^◌, ℕ, ◌+◌, List, [], ◌∷◌, length, Option, Some, None, Bool, true, false, if◌then◌else◌, cond, find, unwrap_or, refl, ap, sym, ◌∙◌, codes, arith}
use Rattle.std.specs.{List.AllByRecursion, Option.{option_map, option_map_or}, Str.bytes_eq}
use Rattle.std.proofs.lemmas.Nat.{from_be_bytes-to_be_bytes_4}
use Rattle.uimg_blob_reading.specs.Plain.{Named, Nodes, no_node, a_node, IsName, AreNamed}
use Rattle.uimg_blob_reading.specs.LookUps.{NodeOf, listed, first, images}
use Rattle.uimg_blob_writing.specs.{Alignment.{aligned, padded_by}, Encoding.word}
use Rattle.uimg_blob_writing.proofs.AlignmentLaws.{length-padded_by, aligned-none}
use Rattle.uimg_fit_base.specs.Files.{number}
use Rattle.uimg_fit_building.specs.Filling.{in_first, with_images}
use Rattle.uimg_fit_building.specs.Building.{data_of, padded_size, moved_own, moved_from, moved_from_by, moved_own_by}

-- a payload with the zeros behind it
padded-step : (align : ℕ) (o : Option (List ℕ)) → length (padded_by align (unwrap_or o [])) ≡ option_map_or (λ (payload : List ℕ). aligned align (length payload)) o 0
padded-step align None = length-padded_by align [] ∙ aligned-none align
padded-step align (Some payload) = length-padded_by align payload

pub padded-length : (align : ℕ) (own : List Named) → length (padded_by align (data_of own)) ≡ padded_size align own
padded-length align own = padded-step align (first own (codes "data"))

-- the three names

offset-name : IsName (codes "data-offset")
unfolding Rattle.uimg_texts.specs.Nul.before_nul
offset-name = record { short = omega arith; no_nul = refl }

-- an image of a moved tree
abbrev pub moved_node : List ℕ → ℕ → NodeOf (List ℕ) → NodeOf (List ℕ)
moved_node key at i = record i { own = moved_own key at i.own }

unfoldable pub moved_nodes : ℕ → List ℕ → ℕ → List (NodeOf (List ℕ)) → List (NodeOf (List ℕ))
moved_nodes align key at [] = []
moved_nodes align key at (i ∷ is) = moved_node key at i ∷ moved_nodes align key (at + padded_size align i.own) is

listed-moved : (align : ℕ) (key : List ℕ) (at : ℕ) (t : Nodes) → listed (moved_from align key at t) ≡ moved_nodes align key at (listed t)
unfolding listed moved_from_by moved_nodes
listed-moved align key at no_node = refl
listed-moved align key at (a_node name own below after) =
    ap (λ (l : List (NodeOf (List ℕ))). moved_node key at (record { name = name; own = own; below = below }) ∷ l) (listed-moved align key (at + padded_size align own) after)

-- a node, its children by a function
abbrev pub node_in : (Nodes → Nodes) → NodeOf (List ℕ) → NodeOf (List ℕ)
node_in f n = record n { below = f n.below }

in_first-step : (key : List ℕ) (f : Nodes → Nodes) (name : List ℕ) (own : List Named) (below after : Nodes) (b : Bool) → b ≡ bytes_eq key name
    → find (λ c. bytes_eq key c.name) (listed (in_first key f after)) ≡ option_map (node_in f) (find (λ c. bytes_eq key c.name) (listed after))
    → find (λ c. bytes_eq key c.name) (listed (if b then a_node name own (f below) after else a_node name own below (in_first key f after)))
    ≡ option_map (node_in f) (cond b (Some (record { name = name; own = own; below = below })) (find (λ c. bytes_eq key c.name) (listed after)))
unfolding listed
in_first-step key f name own below after true e h = rw (sym e) refl
in_first-step key f name own below after false e h = rw (sym e) h

pub find-in_first : (key : List ℕ) (f : Nodes → Nodes) (t : Nodes) → find (λ c. bytes_eq key c.name) (listed (in_first key f t)) ≡ option_map (node_in f) (find (λ c. bytes_eq key c.name) (listed t))
unfolding listed in_first
find-in_first key f no_node = refl
find-in_first key f (a_node name own below after) = in_first-step key f name own below after (bytes_eq key name) refl (find-in_first key f after)

below-in : (align : ℕ) (key : List ℕ) (at : ℕ) (o : Option (NodeOf (List ℕ))) → option_map (λ (c : NodeOf (List ℕ)). listed c.below) (option_map (node_in (moved_from align key at)) o)
    ≡ option_map (moved_nodes align key at) (option_map (λ (c : NodeOf (List ℕ)). listed c.below) o)
below-in align key at None = refl
below-in align key at (Some c) = ap (λ (l : List (NodeOf (List ℕ))). let y : Option (List (NodeOf (List ℕ))) = Some l in y) (listed-moved align key at c.below)

-- the images of a moved tree are the images moved
pub images-moved : (align : ℕ) (key : List ℕ) (at : ℕ) (t : Nodes) → images (with_images (moved_from align key at) t) ≡ option_map (moved_nodes align key at) (images t)
images-moved align key at no_node = refl
images-moved align key at (a_node name own below after) =
    ap (λ (o : Option (NodeOf (List ℕ))). option_map (λ (c : NodeOf (List ℕ)). listed c.below) o) (find-in_first (codes "images") (moved_from align key at) below)
    ∙ below-in align key at (find (λ c. bytes_eq (codes "images") c.name) (listed below))

size-name : IsName (codes "data-size")
unfolding Rattle.uimg_texts.specs.Nul.before_nul
size-name = record { short = omega arith; no_nul = refl }

position-name : IsName (codes "data-position")
unfolding Rattle.uimg_texts.specs.Nul.before_nul
position-name = record { short = omega arith; no_nul = refl }

pub offset_is_name : IsName (codes "data-offset")
offset_is_name = offset-name

pub position_is_name : IsName (codes "data-position")
position_is_name = position-name

-- names stay names
named-step : (b : Bool) (key : List ℕ) (at : ℕ) (p : Named) (own moved : List Named) → IsName key → IsName p.name → AllByRecursion (λ p. IsName p.name) own → AllByRecursion (λ p. IsName p.name) moved
    → AllByRecursion (λ p. IsName p.name) (if b then record { name = key; value = word at } ∷ record { name = codes "data-size"; value = word (length p.value) } ∷ own else p ∷ moved)
named-step true key at p own moved k h hs ms = (k, (size-name, hs))
named-step false key at p own moved k h hs ms = (h, ms)

named-moved_own : (key : List ℕ) (at : ℕ) (own : List Named) → IsName key → AllByRecursion (λ p. IsName p.name) own → AllByRecursion (λ p. IsName p.name) (moved_own key at own)
unfolding moved_own_by
named-moved_own key at [] k h = tt
named-moved_own key at (p ∷ own) k h = named-step (bytes_eq (codes "data") p.name) key at p own (moved_own key at own) k h.0 h.1 (named-moved_own key at own k h.1)

named-moved : (align : ℕ) (key : List ℕ) (at : ℕ) (t : Nodes) → IsName key → AreNamed t → AreNamed (moved_from align key at t)
unfolding moved_from_by
named-moved align key at no_node k h = tt
named-moved align key at (a_node name own below after) k h = (h.0, named-moved_own key at own k h.1, h.2, named-moved align key (at + padded_size align own) after k h.3)

named-choice : (b : Bool) (t u : Nodes) → AreNamed t → AreNamed u → AreNamed (if b then t else u)
named-choice true t u h k = h
named-choice false t u h k = k

named-in : (align : ℕ) (first_key key : List ℕ) (at : ℕ) (t : Nodes) → IsName key → AreNamed t → AreNamed (in_first first_key (moved_from align key at) t)
unfolding in_first
named-in align first_key key at no_node k h = tt
named-in align first_key key at (a_node name own below after) k h =
    let here : Nodes = a_node name own (moved_from align key at below) after in
    let there : Nodes = a_node name own below (in_first first_key (moved_from align key at) after) in
    named-choice (bytes_eq first_key name) here there (h.0, h.1, named-moved align key at below k h.2, h.3) (h.0, h.1, h.2, named-in align first_key key at after k h.3)

pub named-images : (align : ℕ) (key : List ℕ) (at : ℕ) (t : Nodes) → IsName key → AreNamed t → AreNamed (with_images (moved_from align key at) t)
named-images align key at no_node k h = tt
named-images align key at (a_node name own below after) k h = (h.0, h.1, named-in align (codes "images") key at below k h.2, h.3)

-- the number of a word
pub number-word : (n : ℕ) → n < 2 ^ 32 → number (word n) ≡ Some n
unfolding number
number-word n fits = ap (λ (k : ℕ). let y : Option ℕ = Some k in y) (from_be_bytes-to_be_bytes_4 n fits)

-- where a property is missing, it isn't the first and is missing after it
none-step : (b : Bool) (p : Named) (o : Option Named) → option_map (λ (q : Named). q.value) (cond b (Some p) o) ≡ None → (b ≡ false) × (option_map (λ (q : Named). q.value) o ≡ None)
none-step true p o h = absurd (cc)
none-step false p o h = (refl, h)

-- What a moved payload leaves: the place, the size, and no other key.
pub record IsMoved (key : List ℕ) (at many : ℕ) (other : List ℕ) (own : List Named) : Type 0 where
  pub place : first own key ≡ Some (word at)
  pub size : first own (codes "data-size") ≡ Some (word many)
  pub none : first own other ≡ None

module _ (key other : List ℕ) (at : ℕ) (key_key : bytes_eq key key ≡ true) (size_key : bytes_eq (codes "data-size") key ≡ false) (other_key : bytes_eq other key ≡ false) (other_size : bytes_eq other (codes "data-size") ≡ false) where
  moved-step : (b : Bool) (p : Named) (own moved : List Named) (message : List ℕ)
      → option_map (λ (q : Named). q.value) (cond b (Some p) (find (λ q. bytes_eq (codes "data") q.name) own)) ≡ Some message
      → first (p ∷ own) key ≡ None → first (p ∷ own) (codes "data-size") ≡ None → first (p ∷ own) other ≡ None
      → (first own (codes "data") ≡ Some message → first own key ≡ None → first own (codes "data-size") ≡ None → first own other ≡ None → IsMoved key at (length message) other moved)
      → IsMoved key at (length message) other (if b then record { name = key; value = word at } ∷ record { name = codes "data-size"; value = word (length p.value) } ∷ own else p ∷ moved)
  moved-step true p own moved message has no_key no_size no_other then_more =
      let is : p.value ≡ message = cc in
      let o = none-step (bytes_eq other p.name) p (find (λ q. bytes_eq other q.name) own) no_other in
      record {
        place = rw key_key refl;
        size = rw size_key (ap (λ (m : List ℕ). let y : Option (List ℕ) = Some (word (length m)) in y) is);
        none = rw (other_key, other_size) o.1;
      }
  moved-step false p own moved message has no_key no_size no_other then_more =
      let k = none-step (bytes_eq key p.name) p (find (λ q. bytes_eq key q.name) own) no_key in
      let s = none-step (bytes_eq (codes "data-size") p.name) p (find (λ q. bytes_eq (codes "data-size") q.name) own) no_size in
      let o = none-step (bytes_eq other p.name) p (find (λ q. bytes_eq other q.name) own) no_other in
      let more = then_more has k.1 s.1 o.1 in
      record {
        place = rw k.0 more.place;
        size = rw s.0 more.size;
        none = rw o.0 more.none;
      }

  pub is_moved : (own : List Named) (message : List ℕ) → first own (codes "data") ≡ Some message → first own key ≡ None → first own (codes "data-size") ≡ None → first own other ≡ None
      → IsMoved key at (length message) other (moved_own key at own)
  unfolding moved_own_by
  is_moved [] message has no_key no_size no_other = absurd (cc)
  is_moved (p ∷ own) message has no_key no_size no_other =
      moved-step (bytes_eq (codes "data") p.name) p own (moved_own key at own) message has no_key no_size no_other (λ h k s o. is_moved own message h k s o)
