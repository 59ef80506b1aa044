-- Looking through the texts of a value, and through the rows of a table.
use Rattle.std.proofs.Common.{◌≡◌, ℕ, zero, suc, ◌+◌, ◌-◌, ◌<◌, ◌≤◌, List, [], ◌∷◌, length, drop, Option, Some, None, Bool, true, false, bytes_eq, ◌==◌, slice_get, get_or, if◌then◌else◌, refl, ap, sym, ◌∙◌, arith}
use Rattle.std.proofs.lemmas.List.{length-drop}
use Rattle.std.specs.Int.{from_bool}
use Rattle.uimg_texts.specs.Nul.{before_nul}
use Rattle.uimg_signing.specs.{Texts.{after_text, if_ended, count_from}, Looking.LooksOn}

text_first : (n found : ℕ) (rest wanted text : List ℕ) → before_nul rest ≡ Some text
    → count_from (suc n) found rest wanted ≡ count_from n (found + from_bool (bytes_eq text wanted)) (drop (length text + 1) rest) wanted
unfolding count_from
text_first n found rest wanted text is = ap (λ (o : Option (List ℕ)). after_text o (if_ended rest found) (λ t. count_from n (found + from_bool (bytes_eq t wanted)) (drop (length t + 1) rest) wanted)) is

text_last : (n found : ℕ) (rest wanted : List ℕ) → before_nul rest ≡ None → count_from (suc n) found rest wanted ≡ if_ended rest found
unfolding count_from
text_last n found rest wanted is = ap (λ (o : Option (List ℕ)). after_text o (if_ended rest found) (λ t. count_from n (found + from_bool (bytes_eq t wanted)) (drop (length t + 1) rest) wanted)) is

pub looks_more : (rest wanted text more : List ℕ) (found next all fuel : ℕ) → (l : LooksOn rest wanted found all) → l.fuel ≡ fuel → before_nul rest ≡ Some text → more ≡ drop (length text + 1) rest
    → length text < length rest → next ≡ found + from_bool (bytes_eq text wanted) → LooksOn more wanted next all
looks_more rest wanted text more found next all zero l is text_is more_is within counted = absurd (omega (arith, l.enough, is))
looks_more rest wanted text more found next all (suc n) l is text_is more_is within counted =
    let size : length more ≡ length rest - (length text + 1) = ap length more_is ∙ length-drop (length text + 1) rest in
    record {
      fuel = n;
      enough = omega (arith, l.enough, is, size, within);
      same = ap (λ (m : List ℕ). count_from n next m wanted) more_is ∙ ap (λ (k : ℕ). count_from n k (drop (length text + 1) rest) wanted) counted
          ∙ sym (text_first n found rest wanted text text_is) ∙ ap (λ (m : ℕ). count_from m found rest wanted) (sym is) ∙ l.same;
    }

at_end : (rest : List ℕ) (found : ℕ) (b : Bool) → (length rest == 0) ≡ b → (if b then found else 0) ≡ if_ended rest found
at_end [] found true is = refl
at_end [] found false is = absurd (grind (arith, is))
at_end (x ∷ rest) found true is = absurd (grind (arith, is))
at_end (x ∷ rest) found false is = refl

pub looks_end : (rest wanted : List ℕ) (found all fuel : ℕ) (b : Bool) → (l : LooksOn rest wanted found all) → l.fuel ≡ fuel → before_nul rest ≡ None → (length rest == 0) ≡ b → (if b then found else 0) ≡ all
looks_end rest wanted found all zero b l is text_is ends = absurd (omega (arith, l.enough, is))
looks_end rest wanted found all (suc n) b l is text_is ends = at_end rest found b ends ∙ sym (text_last n found rest wanted text_is) ∙ ap (λ (m : ℕ). count_from m found rest wanted) (sym is) ∙ l.same

pub at_most_one : (b : Bool) → from_bool b ≤ 1
at_most_one true = omega arith
at_most_one false = omega arith

-- each text that is found has bytes of its own
pub few_more : (rest text more : List ℕ) (found next size : ℕ) (b : Bool) → more ≡ drop (length text + 1) rest → length text < length rest → next ≡ found + from_bool b → found + length rest ≤ size → next + length more ≤ size
few_more rest text more found next size b is within counted few =
    let left : length more ≡ length rest - (length text + 1) = ap length is ∙ length-drop (length text + 1) rest in
    omega (arith, few, left, within, counted, at_most_one b)

-- the element of a number, and those after it
pub drop_at : {X : Type 0} (xs : List X) (k : ℕ) → k < length xs → (x : X) × (slice_get xs k ≡ Some x) × (drop k xs ≡ x ∷ drop (suc k) xs)
drop_at [] k h = absurd (omega (arith, h))
drop_at (x ∷ xs) zero h = (x, refl, refl)
drop_at (x ∷ xs) (suc k) h = let r = drop_at xs k (omega (arith, h)) in (r.0, r.1, r.2)

-- the same with a default
pub drop_get : {X : Type 0} (xs : List X) (k : ℕ) (d : X) → k < length xs → drop k xs ≡ get_or xs k d ∷ drop (suc k) xs
drop_get [] k d h = absurd (omega (arith, h))
drop_get (x ∷ xs) zero d h = refl
drop_get (x ∷ xs) (suc k) d h = drop_get xs k d (omega (arith, h))

pub drop_end : {X : Type 0} (xs : List X) (k : ℕ) → length xs ≤ k → drop k xs ≡ []
drop_end [] zero h = refl
drop_end [] (suc k) h = refl
drop_end (x ∷ xs) zero h = absurd (omega (arith, h))
drop_end (x ∷ xs) (suc k) h = drop_end xs k (omega (arith, h))
