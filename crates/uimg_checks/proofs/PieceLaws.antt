-- The first piece of a value, and those behind it.
use Rattle.std.proofs.Common.{◌≡◌, ◌+◌, ◌<◌, ℕ, zero, suc, List, [], ◌∷◌, length, drop, Option, Some, None, Bool, true, false, refl, ap, sym, ◌∙◌, arith}
use Rattle.std.specs.Prelude.{if◌then◌else◌}
use Rattle.std.specs.List.{find}
use native.Mathlib.Numerals.{unary_clauses}
use Rattle.uimg_texts.specs.Nul.{before_nul, text}
use Rattle.uimg_fit_reading.specs.Values.{pieces, onto}

text_by : (b : ℕ) (bytes : List ℕ) (found : Option (List ℕ))
    → elim (elim found as (λ _. Option (List ℕ)) [ None ↦ None | Some name ↦ Some (suc b ∷ name) ]) as (λ _. List ℕ) [ None ↦ suc b ∷ bytes | Some name ↦ name ]
    ≡ suc b ∷ elim found as (λ _. List ℕ) [ None ↦ bytes | Some name ↦ name ]
text_by b bytes None = refl
text_by b bytes (Some name) = refl

text_more : (b : ℕ) (bytes : List ℕ) → text (suc b ∷ bytes) ≡ suc b ∷ text bytes
unfolding text before_nul
text_more b bytes = text_by b bytes (before_nul bytes)

text_none : text [] ≡ []
unfolding text before_nul
text_none = refl

text_ended : (bytes : List ℕ) → text (zero ∷ bytes) ≡ []
unfolding text before_nul
text_ended bytes = refl

-- a value that is not empty is its text, and the pieces behind the NUL
pub first_piece : (b : ℕ) (bytes : List ℕ) → pieces (b ∷ bytes) ≡ text (b ∷ bytes) ∷ pieces (drop (length (text (b ∷ bytes)) + 1) (b ∷ bytes))
unfolding pieces
first_piece zero bytes = ap (λ (t : List ℕ). t ∷ pieces (drop (length t + 1) (zero ∷ bytes))) (sym (text_ended bytes))
first_piece (suc b) [] = ap (λ (t : List ℕ). t ∷ pieces (drop (length t + 1) (suc b ∷ []))) (sym (text_more b [] ∙ ap (λ (t : List ℕ). suc b ∷ t) text_none))
first_piece (suc b) (c ∷ more) =
    let longer : pieces (drop (length (text (c ∷ more)) + 1) (c ∷ more)) ≡ pieces (drop (length (suc b ∷ text (c ∷ more)) + 1) (suc b ∷ c ∷ more)) = simp unary_clauses refl in
    ap (onto (suc b)) (first_piece c more)
    ∙ ap (λ (ps : List (List ℕ)). (suc b ∷ text (c ∷ more)) ∷ ps) longer
    ∙ ap (λ (t : List ℕ). t ∷ pieces (drop (length t + 1) (suc b ∷ c ∷ more))) (sym (text_more b (c ∷ more)))

module _ (p : List ℕ → Bool) where
  first_by : (t : List ℕ) (ts : List (List ℕ)) (b : Bool) → p t ≡ b → find p (t ∷ ts) ≡ (if b then Some t else find p ts)
  first_by t ts b is = ap (λ (q : Bool). if q then Some t else find p ts) is

  -- a value whose text passes a test
  pub found_first : (value : List ℕ) → 0 < length value → p (text value) ≡ true → find p (pieces value) ≡ Some (text value)
  found_first [] some is = absurd (omega (arith, some))
  found_first (b ∷ bytes) some is = ap (find p) (first_piece b bytes) ∙ first_by (text (b ∷ bytes)) (pieces (drop (length (text (b ∷ bytes)) + 1) (b ∷ bytes))) true is

  -- .. or does not
  pub found_later : (value : List ℕ) → 0 < length value → p (text value) ≡ false → find p (pieces value) ≡ find p (pieces (drop (length (text value) + 1) value))
  found_later [] some is = absurd (omega (arith, some))
  found_later (b ∷ bytes) some is = ap (find p) (first_piece b bytes) ∙ first_by (text (b ∷ bytes)) (pieces (drop (length (text (b ∷ bytes)) + 1) (b ∷ bytes))) false is

  -- .. or has none
  pub found_none : (value : List ℕ) → length value ≡ 0 → find p (pieces value) ≡ None
  unfolding pieces
  found_none [] none = refl
  found_none (b ∷ bytes) none = absurd (omega (arith, none))
