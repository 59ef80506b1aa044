-- What each token changes of the nodes so far.
use Rattle.std.proofs.Common.{◌≡◌, ◌+◌, ℕ, List, [], ◌∷◌, ◌++◌, length, Option, Some, None, refl, ap, sym, ◌∙◌, append_assoc, arith}
use Rattle.std.proofs.lemmas.List.{length-append}
use Rattle.uimg_blob_reading.specs.{Tokens.Property, Walk.{Open, opened, join, close, as_node}}
use Rattle.uimg_blob_reading.specs.{Grammar.{Siblings, none, node}, Kept.{Kept, kept, kept_of}}
use Rattle.uimg_blob_reading.specs.{Roles.{Level, top, role_at, level_in, level_after}, Rows.size}
use Rattle.uimg_blob_reading.specs.SoFar.{level_past, next_level, next_number, open_row, so_far}

-- one row, at a place, is changed
pub record Seam (i : ℕ) (change : Kept → Kept) (old new : List Kept) : Type 0 where
  pub before : List Kept
  pub row : Kept
  pub after : List Kept
  pub place : length before ≡ i
  pub old_is : old ≡ before ++ row ∷ after
  pub new_is : new ≡ before ++ change row ∷ after

pub size_join : (a b : Siblings) → size (join a b) ≡ size a + size b
size_join none b = omega arith
size_join (node at name own below after) b = omega (arith, size_join after b)

pub length_kept : (level : Level) (parent : Option ℕ) (i : ℕ) (t : Siblings) → length (kept level parent i t) ≡ size t
unfolding kept
length_kept level parent i none = refl
length_kept level parent i (node at name own below after) =
    let role = role_at level name in
    omega (
      arith,
      length-append (kept (level_in role) (Some i) (i + 1) below) (kept (level_after level name) parent (i + (1 + size below)) after),
      length_kept (level_in role) (Some i) (i + 1) below,
      length_kept (level_after level name) parent (i + (1 + size below)) after,
    )

pub length_so_far : (ls : List Open) → length (so_far ls) ≡ next_number ls
unfolding so_far next_number
length_so_far [] = refl
length_so_far (opened at name own below ∷ ls) =
    let under = kept (level_in (role_at (next_level ls) name)) (Some (next_number ls)) (next_number ls + 1) below in
    omega (
      arith,
      length-append (so_far ls) (open_row ls at name own ∷ under),
      length_so_far ls,
      length_kept (level_in (role_at (next_level ls) name)) (Some (next_number ls)) (next_number ls + 1) below,
    )

rows_none : (a : List Kept) → a ++ [] ≡ a
rows_none [] = refl
rows_none (x ∷ xs) = ap (λ (l : List Kept). x ∷ l) (rows_none xs)

-- siblings one after another
pub kept_join : (level : Level) (parent : Option ℕ) (i j : ℕ) (a b : Siblings) → j ≡ i + size a
    → kept level parent i (join a b) ≡ kept level parent i a ++ kept (level_past level a) parent j b
unfolding kept level_past
kept_join level parent i j none b e = ap (λ (k : ℕ). kept level parent k b) (omega (arith, e))
kept_join level parent i j (node at name own below after) b e =
    rw (kept_join (level_after level name) parent (i + (1 + size below)) j after b (omega (arith, e)), append_assoc) refl

-- one node alone
pub kept_one : (level : Level) (parent : Option ℕ) (i at : ℕ) (name : List ℕ) (own : List Property) (below : Siblings)
    → kept level parent i (node at name own below none)
    ≡ record { at = at; name = name; own = own; role = role_at level name; parent = parent; end = i + (1 + size below) }
    ∷ kept (level_in (role_at level name)) (Some i) (i + 1) below
unfolding kept
kept_one level parent i at name own below =
    ap (λ (l : List Kept). record { at = at; name = name; own = own; role = role_at level name; parent = parent; end = i + (1 + size below) } ∷ l) (rows_none _)

-- a node that begins is the last
pub begin_row : (ls : List Open) (at : ℕ) (name : List ℕ) → so_far (opened at name [] none ∷ ls) ≡ so_far ls ++ open_row ls at name [] ∷ []
unfolding so_far kept
begin_row ls at name = refl

-- a property of the innermost node, which has no child yet
pub property_row : (ls : List Open) (at : ℕ) (name : List ℕ) (own : List Property) (p : Property)
    → Seam (next_number ls) (λ k. record k { own = k.own ++ p ∷ [] }) (so_far (opened at name own none ∷ ls)) (so_far (opened at name (own ++ p ∷ []) none ∷ ls))
unfolding so_far kept
property_row ls at name own p = grind (arith, length_so_far)

-- the innermost node ends
pub end_row : (at : ℕ) (name : List ℕ) (own : List Property) (below : Siblings) (parent_at : ℕ) (parent_name : List ℕ) (parent_own : List Property) (parent_below : Siblings) (ls : List Open)
    → Seam (next_number (opened parent_at parent_name parent_own parent_below ∷ ls))
    (λ k. record k { end = next_number (opened at name own below ∷ opened parent_at parent_name parent_own parent_below ∷ ls) })
    (so_far (opened at name own below ∷ opened parent_at parent_name parent_own parent_below ∷ ls))
    (so_far (close (opened at name own below) (opened parent_at parent_name parent_own parent_below) ∷ ls))
unfolding so_far next_level next_number
end_row at name own below parent_at parent_name parent_own parent_below ls =
    let level : Level = level_in (role_at (next_level ls) parent_name) in
    let n : ℕ = next_number ls in
    let i : ℕ = n + (1 + size parent_below) in
    let past : Level = level_past level parent_below in
    let outer : List Kept = so_far ls ++ (open_row ls parent_at parent_name parent_own ∷ kept level (Some n) (n + 1) parent_below) in
    let under : List Kept = kept (level_in (role_at past name)) (Some i) (i + 1) below in
    let row : Kept = record { at = at; name = name; own = own; role = role_at past name; parent = Some n; end = 0 } in
    record {
      before = outer;
      row = row;
      after = under;
      place = length_so_far (opened parent_at parent_name parent_own parent_below ∷ ls);
      old_is = refl;
      new_is =
          ap (λ (l : List Kept). so_far ls ++ (open_row ls parent_at parent_name parent_own ∷ l))
          (kept_join level (Some n) (n + 1) i parent_below (node at name own below none) (omega arith)
          ∙ ap (λ (l : List Kept). kept level (Some n) (n + 1) parent_below ++ l) (kept_one past (Some n) i at name own below))
          ∙ sym (append_assoc (so_far ls) (open_row ls parent_at parent_name parent_own ∷ kept level (Some n) (n + 1) parent_below) (record row { end = i + (1 + size below) } ∷ under));
    }

-- the root ends
pub root_row : (at : ℕ) (name : List ℕ) (own : List Property) (below : Siblings)
    → Seam 0 (λ k. record k { end = next_number (opened at name own below ∷ []) }) (so_far (opened at name own below ∷ [])) (kept_of (as_node (opened at name own below)))
unfolding so_far next_level next_number
root_row at name own below = record {
  before = [];
  row = open_row [] at name own;
  after = kept (level_in (role_at top name)) (Some 0) 1 below;
  place = refl;
  old_is = refl;
  new_is = kept_one top None 0 at name own below;
}
