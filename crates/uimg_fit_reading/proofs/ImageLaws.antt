-- The images of an indexed tree, by their numbers.
use Rattle.std.proofs.Common.{◌≡◌, ◌<◌, ◌≤◌, ◌+◌, ℕ, zero, suc, List, [], ◌∷◌, length, drop, map, Option, Some, None, Bool, true, false, IsTrue, codes, refl, ap, sym, ◌∙◌, subst, arith}
use Rattle.std.specs.{List.slice_get, Option.option_map, Str.bytes_eq}
use Rattle.std.proofs.{lemmas.Slice.Eq.bytes_eq-Decides, Math.{ListN.length-map, Nat.suc-ne-zero}}
use Rattle.std.proofs.lemmas.List.{length-drop, drop-drop}
use Rattle.std.proofs.lemmas.Option.{slice_get_within, slice_get_past}
use Rattle.uimg_blob_reading.specs.declared.{keys.Key.TheVariants.Default, nodes.Blob.Blob}
use Rattle.uimg_blob_reading.specs.{Grammar.{Siblings, none, node}, Kept.{kept_of, entry_of}}
use Rattle.uimg_blob_reading.specs.{Rows.{Row, first_of, table, size, child_number}, Standing.Stand}
use Rattle.uimg_blob_reading.specs.{Indexed.{IsIndexed, IsRow, keeps}, Spots.{Spot, spot_of, spots}}
use Rattle.uimg_blob_reading.specs.LookUps.{NodeOf, listed, images, configurations}
use Rattle.uimg_blob_reading.proofs.{LookLaws.length_rows, PhaseLaws.{some_none, some_some}}
use Rattle.uimg_blob_reading.proofs.SoFarLaws.{length_kept}
use Rattle.uimg_blob_reading.specs.Roles.{Level, role_at, level_in, level_after, in_root, in_images, in_configurations, is_images, is_configurations}
use Rattle.uimg_blob_reading.proofs.StandLaws.{row_of, row_stands, below_stand, after_stand, images_stand, no_images, configurations_stand, no_configurations}
use Rattle.uimg_fit_reading.specs.Nodes.{HasImages, HasImage, LacksImage, AreFrom, IsNode, HasConfigurations, TellsConfigurations}

-- each node has an entry
pub entries_size : (t : Siblings) (blob : Blob) (es : List (List ℕ)) → IsIndexed t blob es → length es ≡ size t
entries_size t blob es h = ap (λ (l : List (List ℕ)). length l) h.kept ∙ length-map (kept_of t) entry_of ∙ length_kept _ _ _ t

-- a row's number is below the count of entries
pub row_within : (t : Siblings) (blob : Blob) (es : List (List ℕ)) (i : ℕ) (row : Row) → IsIndexed t blob es → slice_get (table t) i ≡ Some row → i < length es
row_within t blob es i row h is =
    let rows : length (table t) ≡ size t = length_rows _ _ _ t in
    omega (arith, slice_get_within (table t) i row is, rows, entries_size t blob es h)

-- The first image is the first child of a row.
pub record Begin (t : Siblings) (number : ℕ) : Type 0 where
  pub row : Row
  pub is : slice_get (table t) number ≡ Some row
  pub has : HasImages t row.first_child

-- the children of the node `images` are images
level_of : (had : Bool) (name : List ℕ) → is_images name ≡ true → level_in (role_at (in_root false had) name) ≡ in_images
level_of had name is = rw is refl

pub begin : (t : Siblings) (i : ℕ) → child_number is_images t ≡ Some i → Begin t i
unfolding spots listed
begin none i is = absurd (some_none (sym is))
begin (node at name own below after) i is =
    let t = node at name own below after in
    let c = images_stand t i at name own below after refl is in
    let inner = below_stand t (in_root false c.other) (Some 0) i c.at c.name c.own c.below c.after c.stands in
    record {
      row = row_of (in_root false c.other) (Some 0) i c.at c.name c.own c.below c.after;
      is = row_stands t (in_root false c.other) (Some 0) i c.at c.name c.own c.below c.after c.stands;
      has = record {
        found = listed (spots c.below);
        is = ap (option_map (λ (n : NodeOf Spot). listed n.below)) c.is;
        from = record {
          parent = Some i;
          number = i + 1;
          siblings = c.below;
          stands = subst (λ (l : Level). Stand t l (Some i) (i + 1) c.below) (level_of c.other c.name c.named) inner;
          is_first = refl;
          are = refl;
        };
      };
    }

-- a tree without the node `images`
pub lacks_images : (t : Siblings) → child_number is_images t ≡ None → images (spots t) ≡ None
unfolding spots
lacks_images none is = refl
lacks_images (node at name own below after) is = ap (option_map (λ (n : NodeOf Spot). listed n.below)) (no_images at name own below after is)

-- The images of a tree from the one of a position on.
pub record LeftImages (t : Siblings) (position : ℕ) (next : Option ℕ) : Type 0 where
  pub found : List (NodeOf Spot)
  pub is : images (spots t) ≡ Some found
  pub from : AreFrom t in_images next (drop position found)

-- the node that some nodes begin with, its row, and the nodes after it
pub record Front (t : Siblings) (level : Level) (number : ℕ) (found : List (NodeOf Spot)) : Type 0 where
  pub image : NodeOf Spot
  pub more : List (NodeOf Spot)
  pub are : found ≡ image ∷ more
  pub node : IsNode t level number image
  pub row : Row
  pub is : slice_get (table t) number ≡ Some row
  pub from : AreFrom t (level_after level image.name) row.next_sibling more

front-of : (t : Siblings) (level : Level) (parent : Option ℕ) (i j : ℕ) (s : Siblings) (found : List (NodeOf Spot)) → Stand t level parent j s → Some i ≡ first_of j s → found ≡ listed (spots s) → Front t level i found
unfolding spots listed
front-of t level parent i j none found stands first are = absurd (some_none first)
front-of t level parent i j (node at name own below after) found stands first are =
    let here : j ≡ i = sym (some_some i j first) in
    let there = subst (λ (n : ℕ). Stand t level parent n (node at name own below after)) here stands in
    record {
      image = record { name = name; own = map spot_of own; below = spots below };
      more = listed (spots after);
      are = are;
      node = record { parent = parent; at = at; name = name; own = own; below = below; after = after; stands = there; is = refl };
      row = row_of level parent i at name own below after;
      is = row_stands t level parent i at name own below after there;
      from = record {
        parent = parent;
        number = i + (1 + size below);
        siblings = after;
        stands = after_stand t level parent i at name own below after there;
        is_first = refl;
        are = refl;
      };
    }

pub front : (t : Siblings) (level : Level) (i : ℕ) (found : List (NodeOf Spot)) → AreFrom t level (Some i) found → Front t level i found
front t level i found a = front-of t level a.parent i a.number a.siblings found a.stands a.is_first a.are

-- no node is left
none-of : (j : ℕ) (s : Siblings) → None ≡ first_of j s → listed (spots s) ≡ []
unfolding spots listed
none-of j none first = refl
none-of j (node at name own below after) first = absurd (some_none (sym first))

pub none_left : (t : Siblings) (level : Level) (found : List (NodeOf Spot)) → AreFrom t level None found → found ≡ []
none_left t level found a = a.are ∙ none-of a.number a.siblings a.is_first

-- the element that a list has behind its first k
get-drop : {X : Type 0} (xs : List X) (k : ℕ) (x : X) (more : List X) → drop k xs ≡ x ∷ more → slice_get xs k ≡ Some x
get-drop [] zero x more is = absurd (suc-ne-zero _ (sym (ap (λ l. length l) is)))
get-drop [] (suc k) x more is = absurd (suc-ne-zero _ (sym (ap (λ l. length l) is)))
get-drop (y ∷ xs) zero x more is = ap (λ l. slice_get l 0) is
get-drop (y ∷ xs) (suc k) x more is = get-drop xs k x more is

-- one image is passed
pub next_left : (t : Siblings) (blob : Blob) (es : List (List ℕ)) (i k : ℕ) (next : Option ℕ) → IsIndexed t blob es → LeftImages t k (Some i)
    → ((row : Row) → IsRow blob es i row → next ≡ row.next_sibling) → LeftImages t (k + 1) next
next_left t blob es i k next h left sibling =
    let f = front t in_images i (drop k left.found) left.from in
    let same : next ≡ f.row.next_sibling = sibling f.row (record { nodes = t; indexed = h; is = f.is }) in
    let passed : f.more ≡ drop (k + 1) left.found = sym (ap (drop 1) f.are) ∙ drop-drop 1 k left.found in
    record {
      found = left.found;
      is = left.is;
      from = subst (λ (l : List (NodeOf Spot)). AreFrom t in_images next l) passed
          (subst (λ (o : Option ℕ). AreFrom t in_images o f.more) (sym same) f.from);
    }

-- the image that is next stands at its position
pub image_next : (t : Siblings) (i k : ℕ) → LeftImages t k (Some i) → HasImage t k i
image_next t i k left =
    let f = front t in_images i (drop k left.found) left.from in
    record { found = left.found; image = f.image; is = left.is; has = get-drop left.found k f.image f.more f.are; node = f.node }

-- where none is next there is none at a later position
pub none_next : (t : Siblings) (k position : ℕ) → k ≤ position → LeftImages t k None → LacksImage t position
none_next t k position later left =
    let all : length (drop k left.found) ≡ 0 = ap (λ (l : List (NodeOf Spot)). length l) (none_left t in_images (drop k left.found) left.from) in
    record { found = left.found; is = left.is; lacks = slice_get_past left.found position (omega (arith, all, length-drop k left.found, later)) }

-- Such a node keeps a default, and its children are configurations.
abbrev IsParent : Bool → List ℕ → Type 0
IsParent other name = IsTrue (keeps (role_at (in_root other false) name) Default) × (level_in (role_at (in_root other false) name) ≡ in_configurations)

is_parent : (other : Bool) (name : List ℕ) → bytes_eq name (codes "configurations") ≡ true → IsParent other name
is_parent other name is = subst (IsParent other) (sym ((bytes_eq-Decides name (codes "configurations")).0 is)) (refl, refl)

-- the node `configurations` and what it is
pub configurations_are : (t : Siblings) (i : ℕ) → child_number is_configurations t ≡ Some i → HasConfigurations t i
unfolding spots
configurations_are none i is = absurd (some_none (sym is))
configurations_are (node at name own below after) i is =
    let t = node at name own below after in
    let c = configurations_stand t i at name own below after refl is in
    record {
      found = record { name = c.name; own = map spot_of c.own; below = spots c.below };
      is = c.is;
      level = in_root c.other false;
      node = record { parent = Some 0; at = c.at; name = c.name; own = c.own; below = c.below; after = c.after; stands = c.stands; is = refl };
      keeps = (is_parent c.other c.name c.named).0;
      children = (is_parent c.other c.name c.named).1;
    }

-- a tree without that node
pub lacks_configurations : (t : Siblings) → child_number is_configurations t ≡ None → configurations (spots t) ≡ None
unfolding spots
lacks_configurations none is = refl
lacks_configurations (node at name own below after) is = no_configurations at name own below after is

-- what is said of the node `configurations`, by its number
pub tells_configurations : (t : Siblings) (o : Option ℕ) → o ≡ child_number is_configurations t → TellsConfigurations t o
tells_configurations t None is = lacks_configurations t (sym is)
tells_configurations t (Some i) is = configurations_are t i (sym is)

-- a node's children
pub children_of : (t : Siblings) (blob : Blob) (es : List (List ℕ)) (level : Level) (i : ℕ) (first : Option ℕ) (found : NodeOf Spot) → IsIndexed t blob es → IsNode t level i found
    → ((row : Row) → IsRow blob es i row → first ≡ row.first_child) → AreFrom t (level_in (role_at level found.name)) first (listed found.below)
children_of t blob es level i first found indexed n child =
    let row : Row = row_of level n.parent i n.at n.name n.own n.below n.after in
    let is = row_stands t level n.parent i n.at n.name n.own n.below n.after n.stands in
    let same : first ≡ row.first_child = child row (record { nodes = t; indexed = indexed; is = is }) in
    record {
      parent = Some i;
      number = i + 1;
      siblings = n.below;
      stands = subst (λ (f : NodeOf Spot). Stand t (level_in (role_at level f.name)) (Some i) (i + 1) n.below) (sym n.is) (below_stand t level n.parent i n.at n.name n.own n.below n.after n.stands);
      is_first = same;
      are = ap (λ (f : NodeOf Spot). listed f.below) n.is;
    }
