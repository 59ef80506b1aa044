-- The first property of a name.
use Rattle.std.proofs.Common.{◌≡◌, ℕ, suc, ◌+◌, ◌≤◌, List, ◌∷◌, length, map, drop, Option, Some, None, Bool, true, false, bytes_eq, refl, ap, sym, ◌∙◌, if◌then◌else◌, arith}
use Rattle.uimg_base.specs.declared.spans.Span.{Span}
use Rattle.uimg_blob_reading.specs.declared.places.PropertyPlace.{PropertyPlace}
use Rattle.uimg_blob_reading.specs.{LookUps.first, Places.read_place}
use Rattle.uimg_signing.proofs.LookLaws.{drop_end}

-- the first of some spans
abbrev pub first_at : List ℕ → List ℕ → List PropertyPlace → Option Span
first_at file wanted xs = first (map (read_place file) xs) wanted

by_test : (file wanted : List ℕ) (p : PropertyPlace) (ps : List PropertyPlace) (it : Bool) → bytes_eq wanted (read_place file p).name ≡ it
    → first_at file wanted (p ∷ ps) ≡ (if bytes_eq wanted (read_place file p).name then Some p.value else first_at file wanted ps)
by_test file wanted p ps true is = rw is refl
by_test file wanted p ps false is = rw is refl

one_first : (file wanted : List ℕ) (p : PropertyPlace) (ps : List PropertyPlace) (it : Bool) → bytes_eq wanted (read_place file p).name ≡ it
    → first_at file wanted (p ∷ ps) ≡ (if it then Some p.value else first_at file wanted ps)
one_first file wanted p ps it is = by_test file wanted p ps (bytes_eq wanted (read_place file p).name) refl ∙ ap (λ (b : Bool). (let o : Option Span = if b then Some p.value else first_at file wanted ps in o)) is

pub first_found : (file wanted : List ℕ) (p : PropertyPlace) (xs : List PropertyPlace) (i : ℕ) (all : Option Span) → drop i xs ≡ p ∷ drop (suc i) xs → true ≡ bytes_eq wanted (read_place file p).name
    → first_at file wanted (drop i xs) ≡ all → Some p.value ≡ all
first_found file wanted p xs i all is named left =
    sym (one_first file wanted p (drop (suc i) xs) true (sym named)) ∙ sym (ap (first_at file wanted) is) ∙ left

pub first_more : (file wanted : List ℕ) (p : PropertyPlace) (xs : List PropertyPlace) (i : ℕ) (all : Option Span) → drop i xs ≡ p ∷ drop (suc i) xs → false ≡ bytes_eq wanted (read_place file p).name
    → first_at file wanted (drop i xs) ≡ all → first_at file wanted (drop (i + 1) xs) ≡ all
first_more file wanted p xs i all is named left =
    let next : i + 1 ≡ suc i = omega arith in
    ap (λ (k : ℕ). first_at file wanted (drop k xs)) next
    ∙ sym (one_first file wanted p (drop (suc i) xs) false (sym named)) ∙ sym (ap (first_at file wanted) is) ∙ left

pub first_none : (file wanted : List ℕ) (xs : List PropertyPlace) (i : ℕ) (all : Option Span) → length xs ≤ i → first_at file wanted (drop i xs) ≡ all → None ≡ all
first_none file wanted xs i all past left = sym (ap (first_at file wanted) (drop_end xs i past)) ∙ left
