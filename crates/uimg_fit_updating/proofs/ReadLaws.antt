-- What is read of a node, and of nodes one after another.
use Rattle.std.proofs.Common.{◌≡◌, ◌≢◌, ◌≤◌, ◌+◌, ℕ, suc, List, [], ◌∷◌, ◌++◌, length, map, Option, Some, None, Result, Ok, refl, ap, sym, ◌∙◌, subst, append_assoc, append-nil, arith}
use Rattle.std.proofs.lemmas.List.{map-append}
use Rattle.std.specs.{List.{All, AllByRecursion, slice_get}, Result.IfOk}
use Rattle.std.proofs.Math.Nat.{suc-ne-zero}
use Rattle.uimg_texts.specs.Slices.{slice}
use Rattle.uimg_base.specs.declared.spans.Span.{Span}
use Rattle.uimg_blob_reading.specs.declared.places.PropertyPlace.{PropertyPlace}
use Rattle.uimg_blob_reading.specs.{Tokens.Property, Grammar.{Siblings, none, node}, Blob.tree}
use Rattle.uimg_blob_reading.specs.declared.nodes.Blob.{Blob}
use Rattle.uimg_blob_reading.proofs.StandLaws.{tree_stands}
use Rattle.uimg_blob_reading.specs.{Indexed.{IsIndexed, value_span}, Places.{EndsBy, read_place}}
use Rattle.uimg_blob_reading.specs.{LookUps.{NodeOf, listed}, Plain.{NamedOf, NodesOf, no_node, a_node, with_value, with_values, AllValues}}
use Rattle.uimg_blob_reading.specs.Roles.{Level, top, role_at, level_in, level_after}
use Rattle.uimg_blob_reading.specs.{Rows.{Row, rows, table, size}, Spots.{Spot, spot_of, spots}}
use Rattle.uimg_blob_writing.specs.Content.{Content, Unread, bytes, IsBytes}
use Rattle.uimg_blob_writing.specs.{declared.tree.Node.Node, Trees.{siblings, node_of}}
use Rattle.uimg_fit_base.{specs.Lying.{ValueLies, Lie}, proofs.ReadLaws.tree-lies}
use Rattle.uimg_fit_building.{specs.Behind.entry, proofs.ImageFillLaws.listed-siblings}
use Rattle.uimg_fit_reading.specs.Nodes.{AreFrom}
use Rattle.uimg_fit_reading.proofs.{ImageLaws.entries_size, NodeLaws.{RowLies, all_both, all_get}}
use Rattle.uimg_fit_updating.specs.Reading.{held_property, held, held_node, read_property}

-- spans that end by a limit end by a greater one
pub ends_wider : (a b : ℕ) (xs : List PropertyPlace) → a ≤ b → All (EndsBy a) xs → All (EndsBy b) xs
ends_wider a b xs le h k d below =
    let e = h k d below in
    record { name = omega (arith, e.name, le); value = omega (arith, e.value, le); short = e.short }

-- one more
pub all_more : {X : Type 0} (P : X → Type 0) (xs : List X) (x : X) → AllByRecursion P xs → P x → AllByRecursion P (xs ++ x ∷ [])
all_more P [] x h p = (p, tt)
all_more P (y ∷ xs) x h p = (h.0, all_more P xs x h.1 p)

-- one node more
pub nodes_more : {A : Type 0} (ns : List (Node A)) (n : Node A) → AllValues IsBytes (siblings ns) → AllValues IsBytes (node_of n) → AllValues IsBytes (siblings (ns ++ n ∷ []))
nodes_more [] n h p = p
nodes_more (m ∷ ns) n h p = (h.0, h.1, nodes_more ns n h.2 p)

abbrev rest_of : {X : Type 0} → List X → List X
rest_of [] = []
rest_of (x ∷ xs) = xs

abbrev head_or : {X : Type 0} → X → List X → X
head_or d [] = d
head_or d (x ∷ xs) = x

-- the properties at spans are those of a row, whose values lie there
pub read_held : (file : List ℕ) (xs : List PropertyPlace) (own : List Property) → map (read_place file) xs ≡ map (with_value value_span) (map spot_of own)
    → AllByRecursion (ValueLies file) own → map (read_property file) xs ≡ map held_property (map spot_of own)
read_held file [] [] is lie = refl
read_held file [] (p ∷ own) is lie = absurd (suc-ne-zero _ (sym (ap (λ l. length l) is)))
read_held file (x ∷ xs) [] is lie = absurd (suc-ne-zero _ (ap (λ l. length l) is))
read_held file (x ∷ xs) (p ∷ own) is lie =
    let one : read_place file x ≡ with_value value_span (spot_of p) = ap (head_or (read_place file x)) is in
    let name : slice file x.name.place x.name.length ≡ p.name = ap (λ (n : NamedOf Span). n.name) one in
    let there : x.value ≡ value_span (spot_of p).value = ap (λ (n : NamedOf Span). n.value) one in
    let value : slice file x.value.place x.value.length ≡ p.value = ap (λ (s : Span). slice file s.place s.length) there ∙ lie.0.here in
    let made = λ (n v : List ℕ). let q : NamedOf Content = record { name = n; value = bytes v } in q in
    let same : read_property file x ≡ held_property (spot_of p) =
    ap (λ (n : List ℕ). made n (slice file x.value.place x.value.length)) name ∙ ap (made p.name) value in
    ap (λ (q : NamedOf Content). q ∷ map (read_property file) xs) same
    ∙ ap (λ (l : List (NamedOf Content)). held_property (spot_of p) ∷ l) (read_held file xs own (ap rest_of is) lie.1)

rows_lie : (file : List ℕ) (level : Level) (parent : Option ℕ) (i : ℕ) (s : Siblings) → Lie file s → AllByRecursion (RowLies file) (rows level parent i s)
unfolding rows
rows_lie file level parent i none h = tt
rows_lie file level parent i (node at name own below after) h = (
  record { name = h.0; own = h.1 },
  all_both (RowLies file) (rows (level_in (role_at level name)) (Some i) (i + 1) below) (rows (level_after level name) parent (i + (1 + size below)) after)
      (rows_lie file (level_in (role_at level name)) (Some i) (i + 1) below h.2)
      (rows_lie file (level_after level name) parent (i + (1 + size below)) after h.3),
)

-- the values of a row lie in the file
pub row_lies : (file : List ℕ) (t : Siblings) (number : ℕ) (row : Row) → tree file ≡ Ok t → slice_get (table t) number ≡ Some row → AllByRecursion (ValueLies file) row.own
row_lies file t number row read is =
    let lies : Lie file t = subst (λ (r : Result Siblings (_)). IfOk r (Lie file)) read (tree-lies file) in
    (all_get (RowLies file) (table t) number row (rows_lie file top None 0 t lies) is).own

-- nodes that are those of a file one by one are so together
pub held_all : (u : Unread) (s : NodesOf Spot) → listed u ≡ map held_node (listed s) → u ≡ held s
unfolding listed with_values
held_all no_node no_node is = refl
held_all no_node (a_node name own below after) is = absurd (suc-ne-zero _ (sym (ap (λ l. length l) is)))
held_all (a_node name own below after) no_node is = absurd (suc-ne-zero _ (ap (λ l. length l) is))
held_all (a_node m o b a) (a_node name own below after) is =
    let n : NodeOf Content = record { name = m; own = o; below = b } in
    let one : n ≡ held_node (record { name = name; own = own; below = below }) = ap (head_or n) is in
    let rest : a ≡ held after = held_all a after (ap rest_of is) in
    ap (λ (x : NodeOf Content). a_node x.name x.own x.below a) one ∙ ap (a_node name (map held_property own) (held below)) rest

-- Some nodes were read, and the others stand from a number on.
pub record Gathered {A : Type 0} (t : Siblings) (nodes : List (Node A)) (next : Option ℕ) (all : List (NodeOf Spot)) : Type 0 where
  pub level : Level
  pub left : List (NodeOf Spot)
  pub at : AreFrom t level next left
  pub is : map entry nodes ++ map held_node left ≡ map held_node all

pub none_gathered : {A : Type 0} (t : Siblings) (level : Level) (first : Option ℕ) (all : List (NodeOf Spot)) → AreFrom t level first all → Gathered {A = A} t [] first all
none_gathered t level first all at = record { level = level; left = all; at = at; is = refl }

-- one more
pub one_gathered : {A : Type 0} (t : Siblings) (level : Level) (all : List (NodeOf Spot)) (nodes grown : List (Node A)) (n : Node A) (next later : Option ℕ) (k : Gathered t nodes next all) (x : NodeOf Spot) (more : List (NodeOf Spot))
    → k.left ≡ x ∷ more → entry n ≡ held_node x → grown ≡ nodes ++ n ∷ [] → AreFrom t level later more → Gathered t grown later all
one_gathered t level all nodes grown n next later k x more are told grows at = record {
  level = level;
  left = more;
  at = at;
  is =
      ap (λ (l : List (Node _)). map entry l ++ map held_node more) grows
      ∙ ap (λ (l : List (NodeOf Content)). l ++ map held_node more) (map-append entry nodes (n ∷ []))
      ∙ append_assoc (map entry nodes) (entry n ∷ []) (map held_node more)
      ∙ ap (λ (r : NodeOf Content). map entry nodes ++ r ∷ map held_node more) told
      ∙ ap (λ (l : List (NodeOf Spot)). map entry nodes ++ map held_node l) (sym are)
      ∙ k.is;
}

-- none is left
pub all_gathered : {A : Type 0} (t : Siblings) (nodes : List (Node A)) (next : Option ℕ) (all : List (NodeOf Spot)) (k : Gathered t nodes next all) → k.left ≡ [] → listed (siblings nodes) ≡ map held_node all
all_gathered t nodes next all k ended =
    listed-siblings nodes ∙ sym (append-nil (map entry nodes))
    ∙ ap (λ (l : List (NodeOf Spot)). map entry nodes ++ map held_node l) (sym ended) ∙ k.is

-- the root of a tree that has nodes
pub root_from : (t : Siblings) (blob : Blob) (es : List (List ℕ)) → IsIndexed t blob es → length es ≢ 0 → AreFrom t top (Some 0) (listed (spots t))
root_from none blob es indexed some = absurd (some (entries_size none blob es indexed))
root_from (node at name own below after) blob es indexed some = record {
  parent = None;
  number = 0;
  siblings = node at name own below after;
  stands = tree_stands (node at name own below after);
  is_first = refl;
  are = refl;
}

-- a node from its name, its properties and its children
pub node_is : (x : NodeOf Spot) (name : List ℕ) (own : List (NamedOf Content)) (below : Unread) → name ≡ x.name → own ≡ map held_property x.own → below ≡ held x.below
    → (let n : NodeOf Content = record { name = name; own = own; below = below } in n) ≡ held_node x
node_is x name own below same_name same_own same_below =
    let made = λ (m : List ℕ) (o : List (NamedOf Content)) (b : Unread). let n : NodeOf Content = record { name = m; own = o; below = b } in n in
    ap (λ (m : List ℕ). made m own below) same_name ∙ ap (λ (o : List (NamedOf Content)). made x.name o below) same_own
    ∙ ap (made x.name (map held_property x.own)) same_below
