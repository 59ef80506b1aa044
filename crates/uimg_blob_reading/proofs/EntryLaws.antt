-- A change of a row is a store of its entry.
use Rattle.std.proofs.Common.{◌≡◌, ◌+◌, ℕ, suc, List, [], ◌∷◌, ◌++◌, length, map, Option, Some, refl, ap, sym, ◌∙◌, set, get_or, arith}
use Rattle.std.{specs.List.slice_get, proofs.lemmas.{List.map-append, Option.get_or_from_slice_get}}
use Rattle.std.proofs.Math.Seq.{set-append_seam, get_or-append_seam}
use Rattle.uimg_blob_reading.specs.{declared.roles.Role.Role, Entering.{begun_entry, ended_entries}}
use Rattle.uimg_blob_reading.specs.{Grammar.none, Kept.{Kept, entry_of, entries, value_words}}
use Rattle.uimg_blob_reading.specs.{Roles.{role_at, keys_of}, Walk.{Open, opened, close, as_node}}
use Rattle.uimg_blob_reading.specs.SoFar.{next_number, innermost, next_level, so_far, entries_so_far}
use Rattle.uimg_blob_reading.proofs.SoFarLaws.{Seam, begin_row, end_row, root_row, length_so_far}

-- a node without properties has no values
no_values : (role : Role) → value_words (keys_of role) [] ≡ 0 ∷ 0 ∷ 0 ∷ 0 ∷ 0 ∷ 0 ∷ 0 ∷ 0 ∷ 0 ∷ 0 ∷ 0 ∷ []
no_values role = grind arith

pub length_entries : (l : List Kept) → length (map entry_of l) ≡ length l
length_entries [] = refl
length_entries (x ∷ xs) = ap suc (length_entries xs)

mapped : (b : List Kept) (k : Kept) (a : List Kept) → map entry_of (b ++ k ∷ a) ≡ map entry_of b ++ entry_of k ∷ map entry_of a
mapped b k a = map-append entry_of b (k ∷ a)

pub seam_put : (i : ℕ) (change : Kept → Kept) (old new : List Kept) (es : List (List ℕ)) (e changed : List ℕ) (s : Seam i change old new) → es ≡ map entry_of old
    → slice_get es i ≡ Some e → (e ≡ entry_of s.row → changed ≡ entry_of (change s.row)) → set es i changed ≡ map entry_of new
seam_put i change old new es e changed s all read edit =
    let l : length (map entry_of s.before) ≡ i = length_entries s.before ∙ s.place in
    let parts : es ≡ map entry_of s.before ++ entry_of s.row ∷ map entry_of s.after = all ∙ ap (map entry_of) s.old_is ∙ mapped s.before s.row s.after in
    let is : e ≡ entry_of s.row = sym (get_or_from_slice_get es i e [] read) ∙ ap (λ (x : List (List ℕ)). get_or x i []) parts
    ∙ ap (λ (k : ℕ). get_or (map entry_of s.before ++ entry_of s.row ∷ map entry_of s.after) k []) (sym l)
    ∙ get_or-append_seam (map entry_of s.before) (entry_of s.row) (map entry_of s.after) [] in
    ap (λ (x : List (List ℕ)). set x i changed) parts
    ∙ ap (λ (k : ℕ). set (map entry_of s.before ++ entry_of s.row ∷ map entry_of s.after) k changed) (sym l)
    ∙ set-append_seam (map entry_of s.before) (entry_of s.row) (map entry_of s.after) changed
    ∙ ap (λ (x : List ℕ). map entry_of s.before ++ x ∷ map entry_of s.after) (edit is)
    ∙ sym (mapped s.before (change s.row) s.after) ∙ ap (map entry_of) (sym s.new_is)

pub seam_set : (i : ℕ) (change : Kept → Kept) (old new : List Kept) (es : List (List ℕ)) (e changed : List ℕ) → Seam i change old new → es ≡ map entry_of old
    → slice_get es i ≡ Some e → ((k : Kept) → e ≡ entry_of k → changed ≡ entry_of (change k)) → set es i changed ≡ map entry_of new
seam_set i change old new es e changed s all read edit = seam_put i change old new es e changed s all read (edit s.row)

-- the entry of a node that begins
pub entered : (ls : List Open) (at : ℕ) (name : List ℕ) (parent : Option ℕ) (role : Role) (es more : List (List ℕ))
    → es ≡ entries_so_far ls → parent ≡ innermost ls → role ≡ role_at (next_level ls) name
    → more ≡ es ++ begun_entry at (length name) parent role ∷ [] → more ≡ entries_so_far (opened at name [] none ∷ ls)
entered ls at name parent role es more old outer is added =
    grind (arith, begin_row, mapped, no_values)

-- the entry of a node that ends inside its parent
pub left_inner : (o parent : Open) (ls : List Open) (number : ℕ) (es : List (List ℕ)) (e : List ℕ)
    → es ≡ entries_so_far (o ∷ parent ∷ ls) → number ≡ next_number (parent ∷ ls) → slice_get es number ≡ Some e
    → ended_entries number es ≡ entries_so_far (close o parent ∷ ls)
left_inner (opened at name own below) (opened parent_at parent_name parent_own parent_below) ls number es e old is read =
    let n : ℕ = length es in
    let stack : List Open = opened at name own below ∷ opened parent_at parent_name parent_own parent_below ∷ ls in
    let all : n ≡ next_number stack = ap length old ∙ length_entries (so_far stack) ∙ length_so_far stack in
    ap (λ (x : List ℕ). set es number (set x 2 n)) (get_or_from_slice_get es number e [] read)
    ∙ ap (λ (i : ℕ). set es i (set e 2 n)) is
    ∙ seam_set (next_number (opened parent_at parent_name parent_own parent_below ∷ ls)) _ _ _ es e (set e 2 n)
    (end_row at name own below parent_at parent_name parent_own parent_below ls) old (ap (λ (i : ℕ). slice_get es i) (sym is) ∙ read)
    (λ k entry. ap (λ (x : List ℕ). set x 2 n) entry ∙ ap (λ (i : ℕ). set (entry_of k) 2 i) all)

-- the entry of the root when it ends
pub left_root : (o : Open) (number : ℕ) (es : List (List ℕ)) (e : List ℕ)
    → es ≡ entries_so_far (o ∷ []) → number ≡ 0 → slice_get es number ≡ Some e → ended_entries number es ≡ entries (as_node o)
left_root (opened at name own below) number es e old is read =
    let n : ℕ = length es in
    let stack : List Open = opened at name own below ∷ [] in
    let all : n ≡ next_number stack = ap length old ∙ length_entries (so_far stack) ∙ length_so_far stack in
    ap (λ (x : List ℕ). set es number (set x 2 n)) (get_or_from_slice_get es number e [] read)
    ∙ ap (λ (i : ℕ). set es i (set e 2 n)) is
    ∙ seam_set 0 _ _ _ es e (set e 2 n) (root_row at name own below) old (ap (λ (i : ℕ). slice_get es i) (sym is) ∙ read)
    (λ k entry. ap (λ (x : List ℕ). set x 2 n) entry ∙ ap (λ (i : ℕ). set (entry_of k) 2 i) all)
