-- Look-ups in a tree whose values were changed by a function are the look-ups in the tree, changed so.
use Rattle.std.proofs.Common.{◌≡◌, ℕ, List, [], ◌∷◌, map, Option, Some, None, Bool, true, false, refl, ap, ◌∙◌, codes, cond, find}
use Rattle.std.specs.{List.{filter, AllByRecursion}, Option.{option_map, IfSome}, Str.bytes_eq}
use Rattle.uimg_blob_reading.specs.Roles.{is_hash}
use Rattle.uimg_blob_reading.specs.LookUps.{NodeOf, listed, first, child, images, hashes}
use Rattle.uimg_blob_reading.specs.Plain.{NamedOf, NodesOf, no_node, a_node, with_value, with_values, AllValues}

find-step : {X Y : Type 0} (f : X → Y) (b : Bool) (x : X) (found : Option X) (rest : Option Y) → rest ≡ option_map f found → cond b (Some (f x)) rest ≡ option_map f (cond b (Some x) found)
find-step f true x found rest h = refl
find-step f false x found rest h = h

find-map : {X Y : Type 0} (f : X → Y) (test : Y → Bool) (xs : List X) → find test (map f xs) ≡ option_map f (find (λ x. test (f x)) xs)
find-map f test [] = refl
find-map f test (x ∷ xs) = find-step f (test (f x)) x (find (λ y. test (f y)) xs) (find test (map f xs)) (find-map f test xs)

filter-step : {X Y : Type 0} (f : X → Y) (b : Bool) (x : X) (found : List X) (rest : List Y) → rest ≡ map f found → cond b (f x ∷ rest) rest ≡ map f (cond b (x ∷ found) found)
filter-step f true x found rest h = ap (λ (l : List _). f x ∷ l) h
filter-step f false x found rest h = h

filter-map : {X Y : Type 0} (f : X → Y) (test : Y → Bool) (xs : List X) → filter test (map f xs) ≡ map f (filter (λ x. test (f x)) xs)
filter-map f test [] = refl
filter-map f test (x ∷ xs) = filter-step f (test (f x)) x (filter (λ y. test (f y)) xs) (filter test (map f xs)) (filter-map f test xs)

module _ {V W : Type 0} (f : V → W) where
  -- a node, its values by a function
  abbrev pub node_with : NodeOf V → NodeOf W
  node_with n = record { name = n.name; own = map (with_value f) n.own; below = with_values f n.below }

  value-of : (o : Option (NamedOf V)) → option_map (λ (p : NamedOf W). p.value) (option_map (with_value f) o) ≡ option_map f (option_map (λ (p : NamedOf V). p.value) o)
  value-of None = refl
  value-of (Some p) = refl

  pub first-with : (own : List (NamedOf V)) (key : List ℕ) → first (map (with_value f) own) key ≡ option_map f (first own key)
  first-with own key =
      ap (λ (o : Option (NamedOf W)). option_map (λ (p : NamedOf W). p.value) o) (find-map (with_value f) (λ p. bytes_eq key p.name) own)
      ∙ value-of (find (λ p. bytes_eq key p.name) own)

  pub listed-with : (t : NodesOf V) → listed (with_values f t) ≡ map node_with (listed t)
  unfolding listed with_values
  listed-with no_node = refl
  listed-with (a_node name own below after) = ap (λ (l : List (NodeOf W)). node_with (record { name = name; own = own; below = below }) ∷ l) (listed-with after)

  child-with : (t : NodesOf V) (key : List ℕ) → child (with_values f t) key ≡ option_map node_with (child t key)
  unfolding with_values
  child-with no_node key = refl
  child-with (a_node name own below after) key =
      ap (λ (l : List (NodeOf W)). find (λ c. bytes_eq key c.name) l) (listed-with below)
      ∙ find-map node_with (λ c. bytes_eq key c.name) (listed below)

  below-with : (o : Option (NodeOf V)) → option_map (λ (c : NodeOf W). listed c.below) (option_map node_with o) ≡ option_map (λ (l : List (NodeOf V)). map node_with l) (option_map (λ (c : NodeOf V). listed c.below) o)
  below-with None = refl
  below-with (Some c) = ap (λ (l : List (NodeOf W)). let y : Option (List (NodeOf W)) = Some l in y) (listed-with c.below)

  pub images-with : (t : NodesOf V) → images (with_values f t) ≡ option_map (λ (l : List (NodeOf V)). map node_with l) (images t)
  images-with t =
      ap (λ (o : Option (NodeOf W)). option_map (λ (c : NodeOf W). listed c.below) o) (child-with t (codes "images"))
      ∙ below-with (child t (codes "images"))

  pub hashes-with : (n : NodeOf V) → hashes (node_with n) ≡ map node_with (hashes n)
  hashes-with n =
      ap (λ (l : List (NodeOf W)). filter (λ h. is_hash h.name) l) (listed-with n.below)
      ∙ filter-map node_with (λ h. is_hash h.name) (listed n.below)

-- a fact on each value is one on those that are looked up
module _ {V : Type 0} (P : V → Type 0) where
  abbrev pub NodeHas : NodeOf V → Type 0
  NodeHas n = AllByRecursion (λ p. P p.value) n.own × AllValues P n.below

  listed-has : (t : NodesOf V) → AllValues P t → AllByRecursion NodeHas (listed t)
  unfolding listed
  listed-has no_node h = tt
  listed-has (a_node name own below after) h = ((h.0, h.1), listed-has after h.2)

  found-has : {X : Type 0} (Q : X → Type 0) (b : Bool) (x : X) (o : Option X) → Q x → IfSome o Q → IfSome (cond b (Some x) o) Q
  found-has Q true x o h k = h
  found-has Q false x o h k = k

  find-has : {X : Type 0} (Q : X → Type 0) (test : X → Bool) (xs : List X) → AllByRecursion Q xs → IfSome (find test xs) Q
  find-has Q test [] h = tt
  find-has Q test (x ∷ xs) h = found-has Q (test x) x (find test xs) h.0 (find-has Q test xs h.1)

  value-has : (o : Option (NamedOf V)) → IfSome o (λ p. P p.value) → IfSome (option_map (λ (p : NamedOf V). p.value) o) P
  value-has None h = tt
  value-has (Some p) h = h

  pub first-has : (own : List (NamedOf V)) (key : List ℕ) → AllByRecursion (λ p. P p.value) own → IfSome (first own key) P
  first-has own key h = value-has (find (λ p. bytes_eq key p.name) own) (find-has (λ p. P p.value) (λ p. bytes_eq key p.name) own h)

  below-has : (o : Option (NodeOf V)) → IfSome o NodeHas → IfSome (option_map (λ (c : NodeOf V). listed c.below) o) (AllByRecursion NodeHas)
  below-has None h = tt
  below-has (Some c) h = listed-has c.below h.1

  pub images-has : (t : NodesOf V) → AllValues P t → IfSome (images t) (AllByRecursion NodeHas)
  images-has no_node h = tt
  images-has (a_node name own below after) h =
      below-has (find (λ c. bytes_eq (codes "images") c.name) (listed below)) (find-has NodeHas (λ c. bytes_eq (codes "images") c.name) (listed below) (listed-has below h.1))
