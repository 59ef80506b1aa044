-- From a node to its children and siblings, by the rows of a tree: for loops over an indexed blob.
use Rattle.std.proofs.Common.{◌≡◌, ◌+◌, ℕ, List, [], ◌∷◌, ◌++◌, length, map, find, Option, Some, None, Bool, true, false, ◌||◌, cond, if◌then◌else◌, codes, refl, ap, sym, ◌∙◌, subst, append_assoc, arith}
use Rattle.std.{specs.{List.slice_get, Str.bytes_eq}, proofs.lemmas.List.length-append}
use Rattle.std.proofs.lemmas.Slice.Eq.{bytes_eq-Decides}
use Rattle.uimg_blob_reading.specs.{Tokens.Property, Grammar.{Siblings, none, node}, Standing.Stand}
use Rattle.uimg_blob_reading.specs.{Spots.{Spot, spot_of, spots}, LookUps.{NodeOf, listed, child}}
use Rattle.uimg_blob_reading.specs.Roles.{Level, top, in_root, role_at, level_in, level_after, is_images, is_configurations}
use Rattle.uimg_blob_reading.specs.Rows.{Row, size, first_of, rows, table, number_named, child_number}
use Rattle.uimg_blob_reading.proofs.PhaseLaws.{some_none, some_some, true_false, by_bool}
use Rattle.uimg_blob_reading.proofs.LookLaws.{length_rows, slice_after}

nothing : (rs : List Row) → rs ++ [] ≡ rs
nothing [] = refl
nothing (r ∷ rs) = ap (λ (l : List Row). r ∷ l) (nothing rs)

-- the tree itself
pub tree_stands : (t : Siblings) → Stand t top None 0 t
tree_stands t = record { before = []; past = []; place = refl; is = sym (nothing (table t)) }

-- the row of the first of some siblings
abbrev pub row_of : Level → Option ℕ → ℕ → ℕ → List ℕ → List Property → Siblings → Siblings → Row
row_of level parent i at name own below after = record {
  at = at;
  name = name;
  own = own;
  role = role_at level name;
  parent = parent;
  first_child = first_of (i + 1) below;
  next_sibling = first_of (i + (1 + size below)) after;
}

pub row_stands : (t : Siblings) (level : Level) (parent : Option ℕ) (i at : ℕ) (name : List ℕ) (own : List Property) (below after : Siblings)
    → Stand t level parent i (node at name own below after) → slice_get (table t) i ≡ Some (row_of level parent i at name own below after)
unfolding rows
row_stands t level parent i at name own below after s =
    let front : length s.before + 0 ≡ i = omega (arith, s.place) in
    let rest : List Row = (row_of level parent i at name own below after
    ∷ (rows (level_in (role_at level name)) (Some i) (i + 1) below ++ rows (level_after level name) parent (i + (1 + size below)) after)) ++ s.past in
    ap (λ (l : List Row). slice_get l i) s.is ∙ ap (slice_get (s.before ++ rest)) (sym front) ∙ slice_after s.before rest 0

-- a node's children
pub below_stand : (t : Siblings) (level : Level) (parent : Option ℕ) (i at : ℕ) (name : List ℕ) (own : List Property) (below after : Siblings)
    → Stand t level parent i (node at name own below after) → Stand t (level_in (role_at level name)) (Some i) (i + 1) below
unfolding rows
below_stand t level parent i at name own below after s =
    let row : Row = row_of level parent i at name own below after in
    let under : List Row = rows (level_in (role_at level name)) (Some i) (i + 1) below in
    let more : List Row = rows (level_after level name) parent (i + (1 + size below)) after in
    record {
      before = s.before ++ row ∷ [];
      past = more ++ s.past;
      place = omega (arith, s.place, length-append s.before (row ∷ []));
      is = s.is ∙ ap (λ (l : List Row). s.before ++ (row ∷ l)) (append_assoc under more s.past)
          ∙ sym (append_assoc s.before (row ∷ []) (under ++ (more ++ s.past)));
    }

-- the nodes after a node
pub after_stand : (t : Siblings) (level : Level) (parent : Option ℕ) (i at : ℕ) (name : List ℕ) (own : List Property) (below after : Siblings)
    → Stand t level parent i (node at name own below after) → Stand t (level_after level name) parent (i + (1 + size below)) after
unfolding rows
after_stand t level parent i at name own below after s =
    let row : Row = row_of level parent i at name own below after in
    let under : List Row = rows (level_in (role_at level name)) (Some i) (i + 1) below in
    let more : List Row = rows (level_after level name) parent (i + (1 + size below)) after in
    record {
      before = s.before ++ (row ∷ under);
      past = s.past;
      place = omega (arith, s.place, length-append s.before (row ∷ under), length_rows (level_in (role_at level name)) (Some i) (i + 1) below);
      is = s.is ∙ ap (λ (l : List Row). s.before ++ (row ∷ l)) (append_assoc under more s.past)
          ∙ sym (append_assoc s.before (row ∷ under) (more ++ s.past));
    }

equal_back : (a b : List ℕ) → bytes_eq a b ≡ bytes_eq b a
equal_back a b = by_bool (bytes_eq a b)
    (λ is. is ∙ sym ((bytes_eq-Decides b a).1 (sym ((bytes_eq-Decides a b).0 is))))
    (λ differs. by_bool (bytes_eq b a)
    (λ is. absurd (true_false (sym ((bytes_eq-Decides a b).1 (sym ((bytes_eq-Decides b a).0 is))) ∙ differs)))
    (λ other. differs ∙ sym other))

-- The root's first child of a name: where it stands, and that it is what is looked up.
pub record IsChild (t : Siblings) (key : List ℕ) (level : Bool → Level) (number : ℕ) (found : Option (NodeOf Spot)) : Type 0 where
  pub at : ℕ
  pub name : List ℕ
  pub own : List Property
  pub below : Siblings
  pub after : Siblings
  pub other : Bool
  pub named : bytes_eq name key ≡ true
  pub stands : Stand t (level other) (Some 0) number (node at name own below after)
  pub is : found ≡ Some (record { name = name; own = map spot_of own; below = spots below })

-- what the level of the root's children is after a child that has not the name
abbrev Passes : List ℕ → (Bool → Level) → Type 0
Passes key level = (other : Bool) (name : List ℕ) → bytes_eq name key ≡ false → (more : Bool) × (level_after (level other) name ≡ level more)

named_child : (t : Siblings) (key : List ℕ) (level : Bool → Level) → Passes key level → (other : Bool) (i j : ℕ) (s : Siblings) → Stand t (level other) (Some 0) i s
    → number_named (λ name. bytes_eq name key) i s ≡ Some j → IsChild t key level j (find (λ c. bytes_eq key c.name) (listed (spots s)))
unfolding number_named listed spots
named_child t key level passes other i j none s is = absurd (some_none (sym is))
named_child t key level passes other i j (node at name own below after) s is = by_bool (bytes_eq name key)
    (λ same.
    let here : i ≡ j = some_some i j (sym (ap (λ (b : Bool). if b then Some i else number_named (λ n. bytes_eq n key) (i + (1 + size below)) after) same) ∙ is) in
    record {
      at = at;
      name = name;
      own = own;
      below = below;
      after = after;
      other = other;
      named = same;
      stands = subst (λ (n : ℕ). Stand t (level other) (Some 0) n (node at name own below after)) here s;
      is = ap (λ (b : Bool). cond b (Some (record { name = name; own = map spot_of own; below = spots below })) (find (λ c. bytes_eq key c.name) (listed (spots after)))) (equal_back key name ∙ same);
    })
    (λ differs.
    let p = passes other name differs in
    let rest = named_child t key level passes p.0 (i + (1 + size below)) j after
    (subst (λ (l : Level). Stand t l (Some 0) (i + (1 + size below)) after) p.1 (after_stand t (level other) (Some 0) i at name own below after s))
    (sym (ap (λ (b : Bool). if b then Some i else number_named (λ n. bytes_eq n key) (i + (1 + size below)) after) differs) ∙ is) in
    record {
      at = rest.at;
      name = rest.name;
      own = rest.own;
      below = rest.below;
      after = rest.after;
      other = rest.other;
      named = rest.named;
      stands = rest.stands;
      is = ap (λ (b : Bool). cond b (Some (record { name = name; own = map spot_of own; below = spots below })) (find (λ c. bytes_eq key c.name) (listed (spots after)))) (equal_back key name ∙ differs) ∙ rest.is;
    })

no_child : (key : List ℕ) (i : ℕ) (s : Siblings) → number_named (λ name. bytes_eq name key) i s ≡ None → find (λ c. bytes_eq key c.name) (listed (spots s)) ≡ None
unfolding number_named listed spots
no_child key i none is = refl
no_child key i (node at name own below after) is = by_bool (bytes_eq name key)
    (λ same. absurd (some_none (sym (ap (λ (b : Bool). if b then Some i else number_named (λ n. bytes_eq n key) (i + (1 + size below)) after) same) ∙ is)))
    (λ differs.
    ap (λ (b : Bool). cond b (Some (record { name = name; own = map spot_of own; below = spots below })) (find (λ c. bytes_eq key c.name) (listed (spots after)))) (equal_back key name ∙ differs)
    ∙ no_child key (i + (1 + size below)) after (sym (ap (λ (b : Bool). if b then Some i else number_named (λ n. bytes_eq n key) (i + (1 + size below)) after) differs) ∙ is))

-- the node `images`: its children are images
pub images_stand : (t : Siblings) (i at : ℕ) (name : List ℕ) (own : List Property) (below after : Siblings) → t ≡ node at name own below after
    → child_number is_images t ≡ Some i → IsChild t (codes "images") (λ other. in_root false other) i (find (λ c. bytes_eq (codes "images") c.name) (listed (spots below)))
images_stand t i at name own below after root is =
    named_child t (codes "images") (λ other. in_root false other)
    (λ other name differs. (other || is_configurations name, ap (λ (b : Bool). in_root (false || b) (other || is_configurations name)) differs))
    false 1 i below
    (below_stand t top None 0 at name own below after (subst (Stand t top None 0) root (tree_stands t)))
    (sym (ap (child_number is_images) root) ∙ is)

-- the node `configurations`
pub configurations_stand : (t : Siblings) (i at : ℕ) (name : List ℕ) (own : List Property) (below after : Siblings) → t ≡ node at name own below after
    → child_number is_configurations t ≡ Some i → IsChild t (codes "configurations") (λ other. in_root other false) i (find (λ c. bytes_eq (codes "configurations") c.name) (listed (spots below)))
configurations_stand t i at name own below after root is =
    named_child t (codes "configurations") (λ other. in_root other false)
    (λ other name differs. (other || is_images name, ap (λ (b : Bool). in_root (other || is_images name) (false || b)) differs))
    false 1 i below
    (below_stand t top None 0 at name own below after (subst (Stand t top None 0) root (tree_stands t)))
    (sym (ap (child_number is_configurations) root) ∙ is)

-- no such node
pub no_images : (at : ℕ) (name : List ℕ) (own : List Property) (below after : Siblings) → child_number is_images (node at name own below after) ≡ None
    → child (spots (node at name own below after)) (codes "images") ≡ None
unfolding spots
no_images at name own below after is = no_child (codes "images") 1 below is

pub no_configurations : (at : ℕ) (name : List ℕ) (own : List Property) (below after : Siblings) → child_number is_configurations (node at name own below after) ≡ None
    → child (spots (node at name own below after)) (codes "configurations") ≡ None
unfolding spots
no_configurations at name own below after is = no_child (codes "configurations") 1 below is
