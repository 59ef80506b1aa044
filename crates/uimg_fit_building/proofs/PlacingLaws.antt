-- Placing over lists is placing of the tree.
use Rattle.std.proofs.Common.{◌≡◌, ℕ, ◌+◌, ◌%◌, ◌/◌, List, [], ◌∷◌, ◌++◌, map, Option, Some, Bool, true, false, if◌then◌else◌, find, unwrap_or, refl, ap, sym, ◌∙◌, codes, arith, append-nil, append_assoc}
use Rattle.std.specs.{Option.option_map, Str.bytes_eq}
use Rattle.uimg_blob_reading.specs.{Plain.{NamedOf, a_node}, LookUps.{NodeOf, listed}}
use Rattle.uimg_blob_writing.specs.{declared.{props.Prop.Prop, tree.Node.Node}, Encoding.word}
use Rattle.uimg_blob_writing.specs.{Content.{Content, Unread, bytes, size_of}, Trees.siblings}
use Rattle.uimg_blob_writing.specs.Properties.{property, content}
use Rattle.uimg_fit_building.specs.{Building.{moved_from_by, moved_own_by}, Behind.entry}
use Rattle.uimg_fit_building.specs.Filling.{in_first}
use Rattle.uimg_fit_building.specs.UnreadTrees.{padded_size_of, unread_own, unread_from}
use Rattle.uimg_fit_building.specs.Placing.{at_first, after_first, cells, is_data, placed_properties, placed_image, placed_images, is_images_node, with_placed, placed_children}
use Rattle.uimg_fit_building.proofs.ImageFillLaws.{listed-siblings}

module _ {X : Type 0} (test : X → Bool) (f : X → List X) (done rest whole : List X) (d : X) where
  first-step : (b : Bool) (more : List X) → test d ≡ b → at_first test f (d ∷ rest) ≡ (if b then f d ++ rest else d ∷ at_first test f rest)
  unfolding at_first
  first-step b more e = ap (λ (c : Bool). if c then f d ++ rest else d ∷ at_first test f rest) e

  -- an element behind the first is copied
  pub behind-first : (xs : List X) → xs ≡ d ∷ rest → done ++ after_first test f true xs ≡ whole → (done ++ d ∷ []) ++ after_first test f true rest ≡ whole
  behind-first xs e h = append_assoc done (d ∷ []) rest ∙ ap (λ (l : List X). done ++ l) (sym e) ∙ h

  -- one before it too
  pub before-first : (xs : List X) → xs ≡ d ∷ rest → test d ≡ false → done ++ after_first test f false xs ≡ whole → (done ++ d ∷ []) ++ after_first test f false rest ≡ whole
  before-first xs e other h =
      append_assoc done (d ∷ []) (at_first test f rest)
      ∙ ap (λ (l : List X). done ++ l) (sym (first-step false rest other))
      ∙ ap (λ (l : List X). done ++ at_first test f l) (sym e) ∙ h

  -- and the first itself by the function
  pub the-first : (xs : List X) → xs ≡ d ∷ rest → test d ≡ true → done ++ after_first test f false xs ≡ whole → (done ++ f d) ++ after_first test f true rest ≡ whole
  the-first xs e here h =
      append_assoc done (f d) rest
      ∙ ap (λ (l : List X). done ++ l) (sym (first-step true rest here))
      ∙ ap (λ (l : List X). done ++ at_first test f l) (sym e) ∙ h

-- the same for a loop: what the element is, what was copied, and whether the first was met
module _ {X : Type 0} (test : X → Bool) (f : X → List X) (done rest whole xs copies : List X) (d copy : X) (moved met : Bool) (e : xs ≡ d ∷ rest) (h : done ++ after_first test f moved xs ≡ whole) where
  pub behind-goes : moved ≡ true → met ≡ moved → copies ≡ done ++ copy ∷ [] → copy ≡ d → copies ++ after_first test f met rest ≡ whole
  behind-goes is_moved same added is =
      ap (λ (l : List X). l ++ after_first test f met rest) (added ∙ ap (λ (x : X). done ++ x ∷ []) is)
      ∙ ap (λ (b : Bool). (done ++ d ∷ []) ++ after_first test f b rest) (same ∙ is_moved)
      ∙ behind-first test f done rest whole d xs e (ap (λ (b : Bool). done ++ after_first test f b xs) (sym is_moved) ∙ h)

  pub before-goes : moved ≡ false → test d ≡ false → met ≡ moved → copies ≡ done ++ copy ∷ [] → copy ≡ d → copies ++ after_first test f met rest ≡ whole
  before-goes not_moved other same added is =
      ap (λ (l : List X). l ++ after_first test f met rest) (added ∙ ap (λ (x : X). done ++ x ∷ []) is)
      ∙ ap (λ (b : Bool). (done ++ d ∷ []) ++ after_first test f b rest) (same ∙ not_moved)
      ∙ before-first test f done rest whole d xs e other (ap (λ (b : Bool). done ++ after_first test f b xs) (sym not_moved) ∙ h)

  pub first-goes : moved ≡ false → test d ≡ true → met ≡ true → copies ≡ done ++ f d → copies ++ after_first test f met rest ≡ whole
  first-goes not_moved here now_met added =
      ap (λ (l : List X). l ++ after_first test f met rest) added
      ∙ ap (λ (b : Bool). (done ++ f d) ++ after_first test f b rest) now_met
      ∙ the-first test f done rest whole d xs e here (ap (λ (b : Bool). done ++ after_first test f b xs) (sym not_moved) ∙ h)

module _ {X : Type 0} (test : X → Bool) (f : X → List X) (done whole : List X) where
  -- behind the last nothing is left
  pub no-more : (b : Bool) (xs : List X) → xs ≡ [] → done ++ after_first test f b xs ≡ whole → done ≡ whole
  unfolding at_first
  no-more true xs e h = sym (append-nil done) ∙ ap (λ (l : List X). done ++ l) (sym e) ∙ h
  no-more false xs e h = sym (append-nil done) ∙ ap (λ (l : List X). done ++ at_first test f l) (sym e) ∙ h

own-step : {A : Type 0} (b : Bool) (key : List ℕ) (at : ℕ) (p : Prop A) (ps more : List (Prop A)) (own : List (NamedOf Content)) → map property more ≡ own
    → map property (if b then cells key at p ++ ps else p ∷ more)
    ≡ (if b then record { name = key; value = bytes (word at) } ∷ record { name = codes "data-size"; value = bytes (word (size_of (content p.value))) } ∷ map property ps else property p ∷ own)
own-step true key at p ps more own h = refl
own-step false key at p ps more own h = ap (λ (l : List (NamedOf Content)). property p ∷ l) h

pub own-placed : {A : Type 0} (key : List ℕ) (at : ℕ) (ps : List (Prop A)) → map property (placed_properties key at ps) ≡ unread_own key at (map property ps)
unfolding at_first moved_own_by
own-placed key at [] = refl
own-placed key at (p ∷ ps) = own-step (is_data p) key at p ps (placed_properties key at ps) (unread_own key at (map property ps)) (own-placed key at ps)

children-step : {A : Type 0} (align : ℕ) (b : Bool) (key : List ℕ) (at : ℕ) (n : Node A) (ns more : List (Node A)) (t : Unread) → siblings more ≡ t
    → siblings (if b then with_placed align key at n ∷ ns else n ∷ more)
    ≡ (if b then a_node n.name n.props (unread_from align key at n.children) (siblings ns) else a_node n.name n.props n.children t)
children-step align true key at n ns more t h = refl
children-step align false key at n ns more t h = ap (λ (u : Unread). a_node n.name n.props n.children u) h

pub children-placed : {A : Type 0} (align : ℕ) (key : List ℕ) (at : ℕ) (ns : List (Node A)) → siblings (placed_children align key at ns) ≡ in_first (codes "images") (unread_from align key at) (siblings ns)
unfolding at_first in_first
children-placed align key at [] = refl
children-placed align key at (n ∷ ns) =
    children-step align (is_images_node n) key at n ns (placed_children align key at ns) (in_first (codes "images") (unread_from align key at) (siblings ns)) (children-placed align key at ns)

pub images-placed : {A : Type 0} (align : ℕ) (key : List ℕ) (at : ℕ) (ns : List (Node A)) → siblings (placed_images align key at ns) ≡ unread_from align key at (siblings ns)
unfolding placed_images moved_from_by
images-placed align key at [] = refl
images-placed align key at (n ∷ ns) = ap (λ (u : Unread). a_node n.name (unread_own key at n.props) n.children u) (images-placed align key (at + padded_size_of align n.props) ns)

-- a place counts by its lowest 32 bits

word-same : (a b : ℕ) → a % 4294967296 ≡ b % 4294967296 → word a ≡ word b
word-same a b e =
    let b3 : a / 16777216 % 256 ≡ b / 16777216 % 256 = omega (arith, e) in
    let b2 : a / 65536 % 256 ≡ b / 65536 % 256 = omega (arith, e) in
    let b1 : a / 256 % 256 ≡ b / 256 % 256 = omega (arith, e) in
    let b0 : a % 256 ≡ b % 256 = omega (arith, e) in
    let build : ℕ → ℕ → ℕ → ℕ → List ℕ = λ w x y z. w ∷ x ∷ y ∷ z ∷ [] in
    ap (λ (w : ℕ). build w (a / 65536 % 256) (a / 256 % 256) (a % 256)) b3
    ∙ ap (λ (x : ℕ). build (b / 16777216 % 256) x (a / 256 % 256) (a % 256)) b2
    ∙ ap (λ (y : ℕ). build (b / 16777216 % 256) (b / 65536 % 256) y (a % 256)) b1
    ∙ ap (λ (z : ℕ). build (b / 16777216 % 256) (b / 65536 % 256) (b / 256 % 256) z) b0

pub word-low : (n : ℕ) → word (n % 4294967296) ≡ word n
word-low n = word-same (n % 4294967296) n (omega arith)

own-step-same : (c : Bool) (key : List ℕ) (a b : ℕ) (p : NamedOf Content) (own more others : List (NamedOf Content)) → word a ≡ word b → more ≡ others
    → (if c then record { name = key; value = bytes (word a) } ∷ record { name = codes "data-size"; value = bytes (word (size_of p.value)) } ∷ own else p ∷ more)
    ≡ (if c then record { name = key; value = bytes (word b) } ∷ record { name = codes "data-size"; value = bytes (word (size_of p.value)) } ∷ own else p ∷ others)
own-step-same true key a b p own more others e h =
    ap (λ (w : List ℕ). let l : List (NamedOf Content) = record { name = key; value = bytes w } ∷ record { name = codes "data-size"; value = bytes (word (size_of p.value)) } ∷ own in l) e
own-step-same false key a b p own more others e h = ap (λ (l : List (NamedOf Content)). p ∷ l) h

own-same : (key : List ℕ) (a b : ℕ) (own : List (NamedOf Content)) → word a ≡ word b → unread_own key a own ≡ unread_own key b own
unfolding moved_own_by
own-same key a b [] e = refl
own-same key a b (p ∷ own) e = own-step-same (bytes_eq (codes "data") p.name) key a b p own (unread_own key a own) (unread_own key b own) e (own-same key a b own e)

pub images-same : {A : Type 0} (align : ℕ) (key : List ℕ) (a b : ℕ) (ns : List (Node A)) → a % 4294967296 ≡ b % 4294967296 → placed_images align key a ns ≡ placed_images align key b ns
unfolding placed_images
images-same align key a b [] e = refl
images-same {A = A} align key a b (n ∷ ns) e =
    ap (λ (own : List (NamedOf Content)). let l : List (Node A) = record n { props = own } ∷ placed_images align key (a + padded_size_of align n.props) ns in l) (own-same key a b n.props (word-same a b e))
    ∙ ap (λ (l : List (Node A)). placed_image key b n ∷ l) (images-same align key (a + padded_size_of align n.props) (b + padded_size_of align n.props) ns (omega (arith, e)))

module _ {A : Type 0} (align : ℕ) (key : List ℕ) (at next : ℕ) (done whole rest : List (Node A)) (d : Node A) where
  -- one image more
  pub image-goes : (ns : List (Node A)) → ns ≡ d ∷ rest → next % 4294967296 ≡ (at + padded_size_of align d.props) % 4294967296 → done ++ placed_images align key at ns ≡ whole → (done ++ placed_image key at d ∷ []) ++ placed_images align key next rest ≡ whole
  unfolding placed_images
  image-goes ns e same h =
      append_assoc done (placed_image key at d ∷ []) (placed_images align key next rest)
      ∙ ap (λ (l : List (Node A)). done ++ (placed_image key at d ∷ l)) (images-same align key next (at + padded_size_of align d.props) rest same)
      ∙ ap (λ (l : List (Node A)). done ++ placed_images align key at l) (sym e) ∙ h

pub images-end : {A : Type 0} (align : ℕ) (key : List ℕ) (at : ℕ) (done whole ns : List (Node A)) → ns ≡ [] → done ++ placed_images align key at ns ≡ whole → done ≡ whole
unfolding placed_images
images-end {A = A} align key at done whole ns e h = sym (append-nil done) ∙ ap (λ (l : List (Node A)). done ++ placed_images align key at l) (sym e) ∙ h

-- the images of a tree, by its root's children

abbrev sought : NodeOf Content → Bool
sought c = bytes_eq (codes "images") c.name

abbrev images_from : Option (NodeOf Content) → List (NodeOf Content)
images_from o = unwrap_or (option_map (λ (c : NodeOf Content). listed c.below) o) []

module _ {A : Type 0} (items : List (Node A)) (children : Unread) (same : siblings items ≡ children) where
  by-items : images_from (find sought (map entry items)) ≡ images_from (find sought (listed children))
  by-items = ap (λ (l : List (NodeOf Content)). images_from (find sought l)) (sym (listed-siblings items) ∙ ap (λ (t : Unread). listed t) same)

  pub images-found : (d : Node A) (rest found : List (Node A)) → bytes_eq (codes "images") d.name ≡ true → find sought (map entry (d ∷ rest)) ≡ find sought (map entry items) → siblings found ≡ d.children
      → map entry found ≡ images_from (find sought (listed children))
  images-found d rest found here from is =
      let first_is : find sought (map entry (d ∷ rest)) ≡ Some (entry d) = rw here refl in
      sym (listed-siblings found) ∙ ap (λ (t : Unread). listed t) is
      ∙ ap images_from (sym first_is) ∙ ap images_from from ∙ by-items

  pub images-missing : (xs : List (Node A)) → xs ≡ [] → find sought (map entry xs) ≡ find sought (map entry items) → (let none : List (NodeOf Content) = [] in none) ≡ images_from (find sought (listed children))
  images-missing xs e from = ap (λ (l : List (Node A)). images_from (find sought (map entry l))) (sym e) ∙ ap images_from from ∙ by-items
