-- What one node is allowed is a share of what all are.
use Rattle.std.proofs.Common.{◌≡◌, ◌≤◌, ◌+◌, ◌*◌, ℕ, List, [], ◌∷◌, length, find, Option, Some, None, Bool, true, false, codes, if◌then◌else◌, refl, ap, sym, ◌∙◌, subst, arith}
use Rattle.std.specs.{List.{sum_by, filter, list_any}, Option.{option_map, option_map_or}, Str.bytes_eq}
use Rattle.std.proofs.lemmas.{List.Sums.sum_by-cons, Slice.Eq.bytes_eq-Decides}
use Rattle.uimg_blob_reading.specs.{Keys.is_text, Roles.is_hash}
use Rattle.uimg_blob_reading.specs.{Plain.{NamedOf, NodesOf, no_node, a_node}, Spots.Spot}
use Rattle.uimg_blob_reading.specs.LookUps.{NodeOf, listed, images, configurations, hashes}
use Rattle.uimg_blob_reading.proofs.PhaseLaws.{some_none, some_some, by_bool, true_false}
use Rattle.uimg_fit_base.specs.Files.{root_own}
use Rattle.uimg_fit_reading.specs.Allowances.{text_size, text_sizes, allowance, node_allowance}
use Rattle.uimg_fit_reading.specs.Rows.{length_of_value}
use Rattle.uimg_texts.specs.declared.naming.Naming.{Naming, TheVariants.{Profile, All}}
use Rattle.uimg_fit_reading.specs.Allowances.{is_text_in}

-- one that is found
found_le : {X : Type 0} (f : X → ℕ) (p : X → Bool) (xs : List X) (x : X) → find p xs ≡ Some x → f x ≤ sum_by f xs
found_le f p [] x is = absurd (some_none (sym is))
found_le {X = X} f p (y ∷ xs) x is = by_bool (p y)
    (λ same.
    let here : y ≡ x = some_some y x (sym (ap (λ (b : Bool). if b then Some y else find p xs) same) ∙ is) in
    omega (arith, sum_by-cons f y xs, ap f here))
    (λ differs.
    let there : find p xs ≡ Some x = sym (ap (λ (b : Bool). if b then Some y else find p xs) differs) ∙ is in
    omega (arith, sum_by-cons f y xs, found_le f p xs x there))

-- two that are found by tests that never hold both
both_le : {X : Type 0} (f : X → ℕ) (p q : X → Bool) → ((z : X) → p z ≡ true → q z ≡ true → ⊥) → (xs : List X) (x y : X) → find p xs ≡ Some x → find q xs ≡ Some y → f x + f y ≤ sum_by f xs
both_le f p q apart [] x y isx isy = absurd (some_none (sym isx))
both_le {X = X} f p q apart (z ∷ xs) x y isx isy = by_bool (p z)
    (λ first. by_bool (q z)
    (λ second. absurd (apart z first second))
    (λ other.
    let here : z ≡ x = some_some z x (sym (ap (λ (b : Bool). if b then Some z else find p xs) first) ∙ isx) in
    let there : find q xs ≡ Some y = sym (ap (λ (b : Bool). if b then Some z else find q xs) other) ∙ isy in
    omega (arith, sum_by-cons f z xs, ap f here, found_le f q xs y there)))
    (λ other. let rest : find p xs ≡ Some x = sym (ap (λ (b : Bool). if b then Some z else find p xs) other) ∙ isx in by_bool (q z)
    (λ second.
    let here : z ≡ y = some_some z y (sym (ap (λ (b : Bool). if b then Some z else find q xs) second) ∙ isy) in
    omega (arith, sum_by-cons f z xs, ap f here, found_le f p xs x rest))
    (λ neither.
    let there : find q xs ≡ Some y = sym (ap (λ (b : Bool). if b then Some z else find q xs) neither) ∙ isy in
    omega (arith, sum_by-cons f z xs, both_le f p q apart xs x y rest there)))

-- those that a test holds of
kept_le : {X : Type 0} (f : X → ℕ) (p : X → Bool) (xs : List X) → sum_by f (filter p xs) ≤ sum_by f xs
kept_le f p [] = omega arith
kept_le f p (x ∷ xs) = by_bool (p x)
    (λ same. omega (arith, ap (λ (b : Bool). sum_by f (if b then x ∷ filter p xs else filter p xs)) same, sum_by-cons f x (filter p xs), sum_by-cons f x xs, kept_le f p xs))
    (λ differs. omega (arith, ap (λ (b : Bool). sum_by f (if b then x ∷ filter p xs else filter p xs)) differs, sum_by-cons f x xs, kept_le f p xs))

-- nodes one by one
pub listed_allowed : (names : Naming) (s : NodesOf Spot) → sum_by (node_allowance names) (listed s) ≡ allowance names s
unfolding listed allowance
listed_allowed names no_node = refl
listed_allowed names (a_node name own below after) =
    let n : NodeOf Spot = record { name = name; own = own; below = below } in
    omega (arith, sum_by-cons (node_allowance names) n (listed after), listed_allowed names after)

-- two keys are not the name of one property
apart-names : (key other : List ℕ) → bytes_eq key other ≡ false → (name : List ℕ) → bytes_eq key name ≡ true → bytes_eq other name ≡ true → ⊥
apart-names key other differ name one two =
    true_false (sym (subst (λ (n : List ℕ). bytes_eq key n ≡ true) (sym ((bytes_eq-Decides other name).0 two)) one) ∙ differ)

below_of : (names : Naming) (name : List ℕ) (own : List (NamedOf Spot)) (below after : NodesOf Spot) → 760 + 4 * text_sizes names own + allowance names below ≤ allowance names (a_node name own below after)
unfolding allowance
below_of names name own below after = omega arith

children_of : (names : Naming) (c : NodeOf Spot) → sum_by (node_allowance names) (listed c.below) + 760 + 4 * text_sizes names c.own ≡ node_allowance names c
children_of names c = omega (arith, listed_allowed names c.below)

-- The node that the images are the children of.
record ImagesIn (below : NodesOf Spot) (found : List (NodeOf Spot)) : Type 0 where
  images : NodeOf Spot
  is : find (λ c. bytes_eq (codes "images") c.name) (listed below) ≡ Some images
  are : found ≡ listed images.below

images_in : (below : NodesOf Spot) (found : List (NodeOf Spot)) (o : Option (NodeOf Spot)) → find (λ c. bytes_eq (codes "images") c.name) (listed below) ≡ o
    → option_map (λ (c : NodeOf Spot). listed c.below) o ≡ Some found → ImagesIn below found
images_in below found None is are = absurd (some_none (sym are))
images_in below found (Some c) is are = record { images = c; is = is; are = sym (some_some (listed c.below) found are) }

-- the root and the images of a tree
pub images_allowed : (names : Naming) (t : NodesOf Spot) (found : List (NodeOf Spot)) → images t ≡ Some found → 760 + 4 * text_sizes names (root_own t) + sum_by (node_allowance names) found ≤ allowance names t
images_allowed names no_node found is = absurd (some_none (sym is))
images_allowed names (a_node name own below after) found is =
    let h = images_in below found (find (λ c. bytes_eq (codes "images") c.name) (listed below)) refl is in
    omega (
      arith,
      below_of names name own below after,
      listed_allowed names below,
      children_of names h.images,
      ap (sum_by (node_allowance names)) h.are,
      found_le (node_allowance names) (λ c. bytes_eq (codes "images") c.name) (listed below) h.images h.is,
    )

-- the root, the images and the configurations
pub both_allowed : (names : Naming) (t : NodesOf Spot) (found : List (NodeOf Spot)) (c : NodeOf Spot) → images t ≡ Some found → configurations t ≡ Some c
    → 760 + 4 * text_sizes names (root_own t) + sum_by (node_allowance names) found + node_allowance names c ≤ allowance names t
both_allowed names no_node found c is other = absurd (some_none (sym is))
both_allowed names (a_node name own below after) found c is other =
    let h = images_in below found (find (λ n. bytes_eq (codes "images") n.name) (listed below)) refl is in
    omega (
      arith,
      below_of names name own below after,
      listed_allowed names below,
      children_of names h.images,
      ap (sum_by (node_allowance names)) h.are,
      both_le (node_allowance names) (λ n. bytes_eq (codes "images") n.name) (λ n. bytes_eq (codes "configurations") n.name)
          (λ n one two. apart-names (codes "images") (codes "configurations") refl n.name one two) (listed below) h.images c h.is other,
    )

-- a node's children, where it is the parent of configurations
pub children_allowed : (names : Naming) (n : NodeOf Spot) → sum_by (node_allowance names) (listed n.below) + (760 + 4 * text_sizes names n.own) ≡ node_allowance names n
children_allowed names n = omega (arith, children_of names n)

-- the hash nodes of an image
pub hashes_allowed : (names : Naming) (image : NodeOf Spot) → sum_by (node_allowance names) (hashes image) + (760 + 4 * text_sizes names image.own) ≤ node_allowance names image
hashes_allowed names image = omega (arith, children_of names image, kept_le (node_allowance names) (λ h. is_hash h.name) (listed image.below))

-- a text of the profile is a text by all names
pub always_text : (names : Naming) (key : List ℕ) → is_text key ≡ true → is_text_in names key ≡ true
always_text Profile key is = is
always_text All key is = ap (λ (b : Bool). if b then true else list_any (bytes_eq key) (codes "firmware" ∷ codes "fpga" ∷ codes "key-name-hint" ∷ codes "padding" ∷ [])) is

named_size : (names : Naming) (key : List ℕ) (p : NamedOf Spot) → is_text_in names key ≡ true → bytes_eq key p.name ≡ true → text_size names p ≡ length p.value.bytes
named_size names key p text same =
    let is : is_text_in names p.name ≡ true = subst (λ (n : List ℕ). is_text_in names n ≡ true) ((bytes_eq-Decides key p.name).0 same) text in
    ap (λ (b : Bool). if b then length p.value.bytes else 0) is

-- a text is one of a node's
pub one_text : (names : Naming) (own : List (NamedOf Spot)) (key : List ℕ) → is_text_in names key ≡ true → length_of_value own key ≤ text_sizes names own
one_text names [] key text = omega arith
one_text names (p ∷ own) key text = by_bool (bytes_eq key p.name)
    (λ same. omega (arith, ap (λ (b : Bool). option_map_or length (option_map (λ (s : Spot). s.bytes) (option_map (λ (n : NamedOf Spot). n.value) (if b then Some p else find (λ n. bytes_eq key n.name) own))) 0) same, named_size names key p text same, sum_by-cons (text_size names) p own))
    (λ differs. omega (arith, ap (λ (b : Bool). option_map_or length (option_map (λ (s : Spot). s.bytes) (option_map (λ (n : NamedOf Spot). n.value) (if b then Some p else find (λ n. bytes_eq key n.name) own))) 0) differs, one_text names own key text, sum_by-cons (text_size names) p own))

-- two texts of different names are two of them
pub two_texts : (names : Naming) (own : List (NamedOf Spot)) (key other : List ℕ) → is_text_in names key ≡ true → is_text_in names other ≡ true → bytes_eq key other ≡ false → length_of_value own key + length_of_value own other ≤ text_sizes names own
two_texts names [] key other text two differ = omega arith
two_texts names (p ∷ own) key other text two differ =
    let size = λ (k : List ℕ) (b : Bool). option_map_or length (option_map (λ (s : Spot). s.bytes) (option_map (λ (n : NamedOf Spot). n.value) (if b then Some p else find (λ n. bytes_eq k n.name) own))) 0 in
    by_bool (bytes_eq key p.name)
    (λ same. by_bool (bytes_eq other p.name)
    (λ also. absurd (apart-names key other differ p.name same also))
    (λ rest. omega (arith, ap (size key) same, ap (size other) rest, named_size names key p text same, one_text names own other two, sum_by-cons (text_size names) p own)))
    (λ rest. by_bool (bytes_eq other p.name)
    (λ also. omega (arith, ap (size key) rest, ap (size other) also, named_size names other p two also, one_text names own key text, sum_by-cons (text_size names) p own))
    (λ neither. omega (arith, ap (size key) rest, ap (size other) neither, two_texts names own key other text two differ, sum_by-cons (text_size names) p own)))
