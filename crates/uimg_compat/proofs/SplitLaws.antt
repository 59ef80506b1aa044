-- The texts of a value, by its first NUL.
use Rattle.std.proofs.Common.{◌≡◌, ◌∙◌, ◌+◌, ◌<◌, ◌==◌, ℕ, zero, suc, Bool, true, false, eqb-true, List, [], ◌∷◌, Option, Some, None, refl, ap, sym, arith, length, take, drop}
use Rattle.std.proofs.Math.Nat.{suc-ne-zero}
use Rattle.std.proofs.lemmas.List.Splits.{slice_split-cons_no}
use Rattle.std.specs.List.{onto_first, slice_split}
use Rattle.uimg_texts.specs.Nul.{before_nul}
use Rattle.uimg_compat.specs.Getopt.{Text}

abbrev split : Text → List Text
split bytes = slice_split (λ byte. byte == 0) bytes

abbrev size : Option Text → ℕ
size None = 0
size (Some text) = suc (length text)

abbrev tail : Option Text → Text
tail None = []
tail (Some []) = []
tail (Some (byte ∷ bytes)) = bytes

abbrev onto : ℕ → Option Text → Option Text
onto b None = None
onto b (Some name) = Some (b ∷ name)

step : (b : ℕ) (bs : Text) → before_nul (suc b ∷ bs) ≡ onto (suc b) (before_nul bs)
unfolding before_nul
step b bs = go (before_nul bs) refl where
  go : (o : Option Text) → before_nul bs ≡ o → before_nul (suc b ∷ bs) ≡ onto (suc b) (before_nul bs)
  go None e = rw e refl
  go (Some name) e = rw e refl

none_of : (b : ℕ) (o : Option Text) → onto b o ≡ None → o ≡ None
none_of b None h = refl
none_of b (Some name) h = absurd (suc-ne-zero (suc (length name)) (ap size h))

no_nul : (b : ℕ) → (suc b == 0) ≡ false
no_nul b = go (suc b == 0) refl where
  go : (is : Bool) → (suc b == 0) ≡ is → (suc b == 0) ≡ false
  go false e = e
  go true e = absurd (suc-ne-zero b (eqb-true (suc b) 0 e))

pub split_all : (bs : Text) → before_nul bs ≡ None → split bs ≡ bs ∷ []
unfolding before_nul
split_all [] h = refl
split_all (zero ∷ bs) h = absurd (suc-ne-zero 0 (ap size h))
split_all (suc b ∷ bs) h = slice_split-cons_no (λ byte. byte == 0) (suc b) bs (no_nul b) ∙ ap (onto_first (suc b)) (split_all bs (none_of (suc b) (before_nul bs) (sym (step b bs) ∙ h)))

some_of : (b : ℕ) (o : Option Text) (name : Text) → onto b o ≡ Some (b ∷ name) → o ≡ Some name
some_of b None name h = absurd (suc-ne-zero (suc (length name)) (ap size (sym h)))
some_of b (Some it) name h = ap (λ o. Some (tail o)) h

pub split_first : (bs : Text) (n : ℕ) → n < length bs → before_nul bs ≡ Some (take n bs) → split bs ≡ take n bs ∷ split (drop (n + 1) bs)
unfolding before_nul
split_first [] n h is = absurd (suc-ne-zero n (omega (arith, h)))
split_first (zero ∷ bs) zero h is = refl
split_first (zero ∷ bs) (suc n) h is = absurd (suc-ne-zero (length (take n bs)) (omega (arith, ap size is)))
split_first (suc b ∷ bs) zero h is = absurd (suc-ne-zero 0 (lone b (before_nul bs) (sym (step b bs) ∙ is)))
  where
    lone : (b : ℕ) (o : Option Text) → onto (suc b) o ≡ Some [] → suc zero ≡ zero
    lone b None h = sym (ap size h)
    lone b (Some name) h = absurd (suc-ne-zero (length name) (omega (arith, ap size h)))
split_first (suc b ∷ bs) (suc n) h is =
    slice_split-cons_no (λ byte. byte == 0) (suc b) bs (no_nul b) ∙ ap (onto_first (suc b)) (split_first bs n (omega (arith, h)) (some_of (suc b) (before_nul bs) (take n bs) (sym (step b bs) ∙ is)))
    ∙ ap (λ m. take (suc n) (suc b ∷ bs) ∷ split (drop m (suc b ∷ bs))) (more n)
  where
    more : (n : ℕ) → suc (n + 1) ≡ suc n + 1
    more n = omega arith
