-- Whether a configuration names an image, and which nodes are listed.
use Rattle.std.proofs.Common.{◌≡◌, ℕ, suc, ◌+◌, ◌<◌, ◌≤◌, List, ◌∷◌, ◌++◌, length, map, drop, Option, Some, None, Result, IfOk, Bool, slice_get, refl, ap, sym, subst, ◌∙◌, append_assoc, append-nil, arith}
use Rattle.std.specs.Prelude.{nat_lt}
use Rattle.std.proofs.lemmas.List.{length-map}
use Rattle.std.{specs.List.All, proofs.lemmas.List.Elements.All-weaker}
use Rattle.uimg_blob_reading.specs.Places.{EndsBy}
use Rattle.uimg_base.specs.{declared.spans.Span.Span}
use Rattle.uimg_blob_reading.specs.declared.{nodes.Blob.Blob, places.PropertyPlace.PropertyPlace, roles.Role.Role}
use Rattle.uimg_blob_reading.specs.declared.roles.Role.TheVariants as role
use Rattle.uimg_blob_reading.specs.{Grammar.Siblings, Rows.{Row, table}, Roles.top, Kept.{kept_of, entry_of}}
use Rattle.uimg_blob_reading.specs.{Indexed.{IsIndexed}, Places.read_place, Plain.NamedOf}
use Rattle.uimg_blob_reading.proofs.{LookLaws.length_rows, SoFarLaws.length_kept}
use Rattle.uimg_signing.specs.declared.faults.SigningFault.{SigningFault}
use Rattle.uimg_signing.specs.Naming.{count_at, times}
use Rattle.uimg_signing.specs.Listing.{name_in, image_times, row_times, parent_times, listed_as, listed_times, mark_if, mark_of, marks_from}
use Rattle.uimg_signing.proofs.LookLaws.{drop_at, drop_end}

-- what a loop takes where there is no place
abbrev pub no_place : PropertyPlace
no_place = record { name = record { place = 0; length = 0 }; value = record { place = 0; length = 0 } }

times_first : (file wanted : List ℕ) (p : PropertyPlace) (ps xs : List PropertyPlace) → xs ≡ p ∷ ps
    → times file wanted (map (read_place file) xs) ≡ count_at file wanted p + times file wanted (map (read_place file) ps)
unfolding times
times_first file wanted p ps xs is = ap (λ (l : List PropertyPlace). times file wanted (map (read_place file) l)) is

-- one place more
pub times_more : (file wanted : List ℕ) (p : PropertyPlace) (xs : List PropertyPlace) (i found more all : ℕ) → drop i xs ≡ p ∷ drop (suc i) xs → more ≡ count_at file wanted p
    → found + times file wanted (map (read_place file) (drop i xs)) ≡ all → found + more + times file wanted (map (read_place file) (drop (i + 1) xs)) ≡ all
times_more file wanted p xs i found more all is counted left =
    let next : i + 1 ≡ suc i = omega arith in
    omega (arith, left, counted, times_first file wanted p (drop (suc i) xs) (drop i xs) is, ap (λ (k : ℕ). times file wanted (map (read_place file) (drop k xs))) next)

pub times_end : (file wanted : List ℕ) (xs : List PropertyPlace) (i found all : ℕ) → length xs ≤ i → found + times file wanted (map (read_place file) (drop i xs)) ≡ all → found ≡ all
unfolding times
times_end file wanted xs i found all past left = omega (arith, left, ap (λ (l : List PropertyPlace). times file wanted (map (read_place file) l)) (drop_end xs i past))

-- a table has as many rows as entries
pub rows_count : (t : Siblings) (blob : Blob) (es : List (List ℕ)) → IsIndexed t blob es → length (table t) ≡ length es
rows_count t blob es h = length_rows top None 0 t ∙ sym (length_kept top None 0 t) ∙ sym (length-map (kept_of t) entry_of) ∙ ap length (sym h.kept)

-- the row of a node
pub row_of : (t : Siblings) (blob : Blob) (es : List (List ℕ)) (n : ℕ) → IsIndexed t blob es → n < length es → (row : Row) × (slice_get (table t) n ≡ Some row) × (drop n (table t) ≡ row ∷ drop (suc n) (table t))
row_of t blob es n h within = drop_at (table t) n (omega (arith, rows_count t blob es h, within))

-- an answer that is as another
pub told_as : {X : Type 0} (r : Result X SigningFault) (a b : X) → a ≡ b → IfOk r (λ it. it ≡ a) → IfOk r (λ it. it ≡ b)
told_as {X} r a b same told = subst (λ (x : X). IfOk r (λ it. it ≡ x)) same told

pub not_image : (file : List ℕ) (own : List (NamedOf Span)) (name : List ℕ) (r : Role) → (r ≡ role.Image → ⊥) → 0 ≡ image_times file own r name
not_image file own name role.Root h = refl
not_image file own name role.Images h = refl
not_image file own name role.Image h = absurd (h refl)
not_image file own name role.Hash h = refl
not_image file own name role.Signature h = refl
not_image file own name role.Configurations h = refl
not_image file own name role.Configuration h = refl
not_image file own name role.Other h = refl

-- the parent is an image
pub around_image : (file : List ℕ) (own : List (NamedOf Span)) (rows : List Row) (o : Option ℕ) (parent : ℕ) (row : Row) → o ≡ Some parent → slice_get rows parent ≡ Some row → row.role ≡ role.Image
    → times file (name_in file row) own ≡ parent_times file own rows o
around_image file own rows o parent row is at its = sym (ap (parent_times file own rows) is ∙ ap (row_times file own) at ∙ ap (λ (r : Role). image_times file own r (name_in file row)) its)

-- the parent is none
pub around_other : (file : List ℕ) (own : List (NamedOf Span)) (rows : List Row) (o : Option ℕ) (parent : ℕ) (row : Row) → o ≡ Some parent → slice_get rows parent ≡ Some row → (row.role ≡ role.Image → ⊥)
    → 0 ≡ parent_times file own rows o
around_other file own rows o parent row is at its = not_image file own (name_in file row) row.role its ∙ sym (ap (parent_times file own rows) is ∙ ap (row_times file own) at)

pub around_none : (file : List ℕ) (own : List (NamedOf Span)) (rows : List Row) (o : Option ℕ) → o ≡ None → 0 ≡ parent_times file own rows o
around_none file own rows o is = sym (ap (parent_times file own rows) is)

-- the role tells
pub by_role : (r s : Role) (number : Bool) (named : ℕ) (cipher : Bool) (around : ℕ) → r ≡ s → listed_as r number named cipher around ≡ listed_as s number named cipher around
by_role r s number named cipher around same = ap (λ (x : Role). listed_as x number named cipher around) same

pub by_cipher : (number : Bool) (named : ℕ) (x y : Bool) (around : ℕ) → x ≡ y → listed_as role.Other number named x around ≡ listed_as role.Other number named y around
by_cipher number named x y around same = ap (λ (b : Bool). listed_as role.Other number named b around) same

-- none of the other roles is listed
pub not_listed : (r : Role) (number : Bool) (named : ℕ) (cipher : Bool) (around : ℕ) → (r ≡ role.Root → ⊥) → (r ≡ role.Configuration → ⊥) → (r ≡ role.Image → ⊥) → (r ≡ role.Hash → ⊥) → (r ≡ role.Other → ⊥)
    → 0 ≡ listed_as r number named cipher around
not_listed role.Root number named cipher around a b c d e = absurd (a refl)
not_listed role.Images number named cipher around a b c d e = refl
not_listed role.Image number named cipher around a b c d e = absurd (c refl)
not_listed role.Hash number named cipher around a b c d e = absurd (d refl)
not_listed role.Signature number named cipher around a b c d e = refl
not_listed role.Configurations number named cipher around a b c d e = refl
not_listed role.Configuration number named cipher around a b c d e = absurd (b refl)
not_listed role.Other number named cipher around a b c d e = absurd (e refl)

-- the next node
pub marks_more : (file : List ℕ) (own : List (NamedOf Span)) (rows : List Row) (configuration i : ℕ) (row : Row) (old new all : List ℕ) → drop i rows ≡ row ∷ drop (suc i) rows
    → new ≡ old ++ mark_of file own rows configuration i row → old ++ marks_from file own rows configuration i (drop i rows) ≡ all → new ++ marks_from file own rows configuration (i + 1) (drop (i + 1) rows) ≡ all
unfolding marks_from
marks_more file own rows configuration i row old new all is added left =
    let next : i + 1 ≡ suc i = omega arith in
    let rest = marks_from file own rows configuration (i + 1) (drop (suc i) rows) in
    ap (λ (k : ℕ). new ++ marks_from file own rows configuration (i + 1) (drop k rows)) next
    ∙ ap (λ (l : List ℕ). l ++ rest) added ∙ append_assoc old (mark_of file own rows configuration i row) rest
    ∙ ap (λ (l : List Row). old ++ marks_from file own rows configuration i l) (sym is) ∙ left

pub marks_end : (file : List ℕ) (own : List (NamedOf Span)) (rows : List Row) (configuration i : ℕ) (old all : List ℕ) → length rows ≤ i
    → old ++ marks_from file own rows configuration i (drop i rows) ≡ all → old ≡ all
unfolding marks_from
marks_end file own rows configuration i old all past left =
    sym (append-nil old) ∙ sym (ap (λ (l : List Row). old ++ marks_from file own rows configuration i l) (drop_end rows i past)) ∙ left

-- a node's offset was added if it is listed
pub marked : (file : List ℕ) (own : List (NamedOf Span)) (rows : List Row) (configuration i : ℕ) (row : Row) (old new : List ℕ) (times at : ℕ) → new ≡ old ++ mark_if (nat_lt 0 times) at → at ≡ row.at → times ≡ listed_times file own rows configuration i row
    → new ≡ old ++ mark_of file own rows configuration i row
marked file own rows configuration i row old new times at is place listed =
    is ∙ ap (λ (n : ℕ). old ++ mark_if (nat_lt 0 times) n) place ∙ ap (λ (n : ℕ). old ++ mark_if (nat_lt 0 n) row.at) listed

-- spans that end earlier
pub ends_in : (a b : ℕ) (xs : List PropertyPlace) → a ≤ b → All (EndsBy a) xs → All (EndsBy b) xs
ends_in a b xs le all = All-weaker (EndsBy a) (EndsBy b) (λ x e. record { name = omega (arith, e.name, le); value = omega (arith, e.value, le); short = e.short }) xs all
