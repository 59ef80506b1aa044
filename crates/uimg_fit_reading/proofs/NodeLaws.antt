-- The names and values of a node that was read stand in the file where its row says.
use Rattle.std.proofs.Common.{◌≡◌, ◌≢◌, ◌<◌, ◌≤◌, ◌+◌, ℕ, zero, suc, List, [], ◌∷◌, ◌++◌, length, map, Option, Some, None, Ok, Result, Bool, if◌then◌else◌, IsTrue, IfSome, refl, ap, sym, ◌∙◌, subst, arith}
use Rattle.std.specs.{List.{AllByRecursion, slice_get}, Option.option_map, Result.IfOk}
use Rattle.std.{specs.Str.bytes_eq, proofs.Math.Nat.suc-ne-zero}
use Rattle.uimg_texts.specs.Slices.{slice}
use Rattle.uimg_blob_reading.specs.{declared.{nodes.Blob.Blob, keys.Key.Key}, Blob.tree}
use Rattle.uimg_blob_reading.specs.{Tokens.Property, Grammar.{Siblings, none, node}, Keys.name_of}
use Rattle.uimg_blob_reading.specs.Roles.{Level, top, role_at, level_in, level_after}
use Rattle.uimg_blob_reading.specs.{Rows.{Row, rows, table, size}, LookUps.{NodeOf, first}}
use Rattle.uimg_blob_reading.specs.{Spots.{Spot, spot_of, spots}, Plain.NamedOf}
use Rattle.uimg_blob_reading.proofs.PhaseLaws.{some_none, some_some, by_bool}
use Rattle.uimg_blob_reading.proofs.StandLaws.{row_of, row_stands, tree_stands}
use Rattle.uimg_base.specs.declared.spans.Span.{Span}
use Rattle.uimg_blob_reading.specs.Indexed.{IsIndexed, IsRow, name_span, value_span, value_of, keeps}
use Rattle.uimg_fit_base.{specs.Files.{value_bytes, bytes_in, root_own}, proofs.ReadLaws.tree-lies}
use Rattle.uimg_fit_base.specs.Lying.{NameLies, ValueLies, Lie}
use Rattle.uimg_fit_reading.specs.Nodes.{IsRead, IsNode, TellsConfigurations}
use Rattle.uimg_fit_reading.proofs.ImageLaws.{row_within, entries_size}

-- The name and the values of a row stand in the file.
pub record RowLies (file : List ℕ) (row : Row) : Type 0 where
  pub name : NameLies file row.at row.name
  pub own : AllByRecursion (ValueLies file) row.own

-- a fact on the elements of two lists is one on those of both
pub all_both : {X : Type 0} (P : X → Type 0) (xs ys : List X) → AllByRecursion P xs → AllByRecursion P ys → AllByRecursion P (xs ++ ys)
all_both P [] ys a b = b
all_both P (x ∷ xs) ys a b = (a.0, all_both P xs ys a.1 b)

-- and one on an element of a number
pub all_get : {X : Type 0} (P : X → Type 0) (xs : List X) (i : ℕ) (x : X) → AllByRecursion P xs → slice_get xs i ≡ Some x → P x
all_get P [] zero x a is = absurd (some_none (sym is))
all_get P [] (suc i) x a is = absurd (some_none (sym is))
all_get P (y ∷ xs) zero x a is = subst P (some_some y x is) a.0
all_get P (y ∷ xs) (suc i) x a is = all_get P xs i x a.1 is

rows_lie : (file : List ℕ) (level : Level) (parent : Option ℕ) (i : ℕ) (s : Siblings) → Lie file s → AllByRecursion (RowLies file) (rows level parent i s)
unfolding rows
rows_lie file level parent i none h = tt
rows_lie file level parent i (node at name own below after) h = (
  record { name = h.0; own = h.1 },
  all_both (RowLies file) (rows (level_in (role_at level name)) (Some i) (i + 1) below) (rows (level_after level name) parent (i + (1 + size below)) after)
      (rows_lie file (level_in (role_at level name)) (Some i) (i + 1) below h.2)
      (rows_lie file (level_after level name) parent (i + (1 + size below)) after h.3),
)

read_lies : (file : List ℕ) (t : Siblings) → tree file ≡ Ok t → Lie file t
read_lies file t is = subst (λ (r : Result Siblings (_)). IfOk r (Lie file)) is (tree-lies file)

-- What a node's row says.
pub record NodeRow (t : Siblings) (level : Level) (number : ℕ) (found : NodeOf Spot) : Type 0 where
  pub row : Row
  pub is : slice_get (table t) number ≡ Some row
  pub name : row.name ≡ found.name
  pub own : map spot_of row.own ≡ found.own
  pub role : row.role ≡ role_at level found.name

pub node_row : (t : Siblings) (level : Level) (number : ℕ) (found : NodeOf Spot) → IsNode t level number found → NodeRow t level number found
node_row t level number found n = record {
  row = row_of level n.parent number n.at n.name n.own n.below n.after;
  is = row_stands t level n.parent number n.at n.name n.own n.below n.after n.stands;
  name = sym (ap (λ (f : NodeOf Spot). f.name) n.is);
  own = sym (ap (λ (f : NodeOf Spot). f.own) n.is);
  role = sym (ap (λ (f : NodeOf Spot). role_at level f.name) n.is);
}

-- the name at a span is the node's
pub name_stands : (file : List ℕ) (blob : Blob) (es : List (List ℕ)) (t : Siblings) (level : Level) (number : ℕ) (found : NodeOf Spot) (span : Span) → IsRead file blob es t → IsNode t level number found
    → ((row : Row) → IsRow blob es number row → span ≡ name_span row) → (slice file span.place span.length ≡ found.name) × (span.length ≤ 255)
name_stands file blob es t level number found span read n spans =
    let r = node_row t level number found n in
    let there : span ≡ name_span r.row = spans r.row (record { nodes = t; indexed = read.indexed; is = r.is }) in
    let lies : RowLies file r.row = all_get (RowLies file) (table t) number r.row (rows_lie file _ None 0 t (read_lies file t read.is)) r.is in
    (ap (λ (s : Span). slice file s.place s.length) there ∙ lies.name.here ∙ r.name, omega (arith, ap (λ (s : Span). s.length) there, lies.name.short))

-- the values of properties that lie in the file
values_lie : (file key : List ℕ) (own : List Property) → AllByRecursion (ValueLies file) own
    → value_bytes (map spot_of own) key ≡ bytes_in file (option_map value_span (first (map spot_of own) key))
values_lie file key [] h = refl
values_lie file key (p ∷ own) h = by_bool (bytes_eq key p.name)
    (λ same. rw same (ap Some (sym h.0.here)))
    (λ differs. rw differs (values_lie file key own h.1))

-- the span of a value is the node's
pub value_spans : (blob : Blob) (es : List (List ℕ)) (t : Siblings) (level : Level) (number : ℕ) (found : NodeOf Spot) (key : Key) (span : Option Span) → IsIndexed t blob es → IsNode t level number found
    → IsTrue (keeps (role_at level found.name) key) → ((row : Row) → IsRow blob es number row → span ≡ option_map value_span (value_of row key))
    → span ≡ option_map value_span (first found.own (name_of key))
value_spans blob es t level number found key span indexed n keeps_it spans =
    let r = node_row t level number found n in
    let there : span ≡ option_map value_span (value_of r.row key) = spans r.row (record { nodes = t; indexed = indexed; is = r.is }) in
    there
    ∙ ap (λ (b : Bool). option_map value_span (if b then first (map spot_of r.row.own) (name_of key) else None)) (ap (λ role. keeps role key) r.role ∙ keeps_it)
    ∙ ap (λ (own : List (NamedOf Spot)). option_map value_span (first own (name_of key))) r.own

-- and so are its bytes
pub value_stands : (file : List ℕ) (blob : Blob) (es : List (List ℕ)) (t : Siblings) (level : Level) (number : ℕ) (found : NodeOf Spot) (key : Key) (span : Option Span) → IsRead file blob es t → IsNode t level number found
    → span ≡ option_map value_span (first found.own (name_of key)) → value_bytes found.own (name_of key) ≡ bytes_in file span
value_stands file blob es t level number found key span read n is =
    let r = node_row t level number found n in
    let lies : RowLies file r.row = all_get (RowLies file) (table t) number r.row (rows_lie file _ None 0 t (read_lies file t read.is)) r.is in
    ap (λ (own : List (NamedOf Spot)). value_bytes own (name_of key)) (sym r.own) ∙ values_lie file (name_of key) r.row.own lies.own
    ∙ ap (λ (own : List (NamedOf Spot)). bytes_in file (option_map value_span (first own (name_of key)))) r.own ∙ ap (bytes_in file) (sym is)

-- The root of a tree is the node of number 0.
pub record RootNode (t : Siblings) : Type 0 where
  pub found : NodeOf Spot
  pub node : IsNode t top 0 found
  pub own : root_own (spots t) ≡ found.own

-- the root of a tree
pub root_node : (t : Siblings) (blob : Blob) (es : List (List ℕ)) → IsIndexed t blob es → length es ≢ 0 → RootNode t
unfolding spots
root_node none blob es indexed some = absurd (some (entries_size none blob es indexed))
root_node (node at name own below after) blob es indexed some = record {
  found = record { name = name; own = map spot_of own; below = spots below };
  node = record { parent = None; at = at; name = name; own = own; below = below; after = after; stands = tree_stands (node at name own below after); is = refl };
  own = refl;
}

-- a tree with no entries has no root
pub no_root : (t : Siblings) (blob : Blob) (es : List (List ℕ)) → IsIndexed t blob es → length es ≡ 0 → root_own (spots t) ≡ []
unfolding spots
no_root none blob es indexed empty = refl
no_root (node at name own below after) blob es indexed empty = absurd (suc-ne-zero (size below + size after) (omega (arith, entries_size (node at name own below after) blob es indexed, empty)))

-- the node `configurations` has an entry
pub configurations_within : (t : Siblings) (blob : Blob) (es : List (List ℕ)) (o : Option ℕ) → IsIndexed t blob es → TellsConfigurations t o → IfSome o (λ i. i < length es)
configurations_within t blob es None indexed h = tt
configurations_within t blob es (Some i) indexed h =
    let r = node_row t h.level i h.found h.node in
    row_within t blob es i r.row indexed r.is
