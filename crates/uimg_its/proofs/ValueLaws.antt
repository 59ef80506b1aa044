-- Values are read from left to right.
use Rattle.std.proofs.Common.{◌≡◌, ℕ, suc, ◌+◌, ◌<◌, ◌≤◌, List, [], ◌∷◌, ◌++◌, Option, Some, None, length, drop, get_or, refl, sym, ap, ◌∙◌, arith, drop-cons, append_assoc}
use Rattle.std.proofs.lemmas.List.{drop_all, append-nil}
use Rattle.uimg_its.specs.{Options.◌>>=◌, Steps.without_rest, Cells.hex_bytes, Digits.hex_pair}

-- nothing before
pub before_none : {X : Type 0} (front : List X) (r total : Option (List X)) → r ≡ None → without_rest front r ≡ total → total ≡ None
before_none front r total e h = sym h ∙ ap (without_rest front) e

-- all was before
pub before_end : {X : Type 0} (front : List X) (r total : Option (List X)) → r ≡ Some [] → without_rest front r ≡ total → total ≡ Some front
before_end front r total e h = sym h ∙ ap (without_rest front) e ∙ ap Some (append-nil front)

before_cons : (front : List ℕ) (b : ℕ) (r : Option (List ℕ)) → without_rest front (r >>= λ more. Some (b ∷ more)) ≡ without_rest (front ++ b ∷ []) r
before_cons front b None = refl
before_cons front b (Some more) = ap Some (sym (append_assoc front (b ∷ []) more))

hex_two : (a b : ℕ) (rest : List ℕ) → hex_bytes (a ∷ b ∷ rest) ≡ (hex_pair a b >>= λ first. hex_bytes rest >>= λ more. Some (first ∷ more))
unfolding hex_bytes
hex_two a b rest = refl

hex_one : (a : ℕ) → hex_bytes (a ∷ []) ≡ None
unfolding hex_bytes
hex_one a = refl

hex_nil : hex_bytes [] ≡ Some []
unfolding hex_bytes
hex_nil = refl

pub hex_end : (word : List ℕ) (i : ℕ) → length word ≤ i → hex_bytes (drop i word) ≡ Some []
hex_end word i le = ap hex_bytes (drop_all i word le) ∙ hex_nil

pub hex_odd : (word : List ℕ) (i : ℕ) → i < length word → i + 1 ≡ length word → hex_bytes (drop i word) ≡ None
hex_odd word i lt e = ap hex_bytes (drop-cons word i 0 lt ∙ ap (λ (l : List ℕ). get_or word i 0 ∷ l) (drop_all (suc i) word (omega arith))) ∙ hex_one (get_or word i 0)

pub hex_step : (word : List ℕ) (i : ℕ) → i + 1 < length word
    → hex_bytes (drop i word) ≡ (hex_pair (get_or word i 0) (get_or word (i + 1) 0) >>= λ first. hex_bytes (drop (i + 2) word) >>= λ more. Some (first ∷ more))
hex_step word i lt =
    let k : suc i ≡ i + 1 = omega arith in
    let m : suc (suc i) ≡ i + 2 = omega arith in
    ap hex_bytes (drop-cons word i 0 (omega arith) ∙ ap (λ (l : List ℕ). get_or word i 0 ∷ l) (drop-cons word (suc i) 0 (omega arith)))
    ∙ hex_two (get_or word i 0) (get_or word (suc i) 0) (drop (suc (suc i)) word)
    ∙ ap (λ (j : ℕ). hex_pair (get_or word i 0) (get_or word j 0) >>= λ first. hex_bytes (drop (suc (suc i)) word) >>= λ more. Some (first ∷ more)) k
    ∙ ap (λ (j : ℕ). hex_pair (get_or word i 0) (get_or word (i + 1) 0) >>= λ first. hex_bytes (drop j word) >>= λ more. Some (first ∷ more)) m

pub hex_more : (front word : List ℕ) (i b : ℕ) (total : Option (List ℕ)) → i + 1 < length word → Some b ≡ hex_pair (get_or word i 0) (get_or word (i + 1) 0)
    → without_rest front (hex_bytes (drop i word)) ≡ total → without_rest (front ++ b ∷ []) (hex_bytes (drop (i + 2) word)) ≡ total
hex_more front word i b total lt e h =
    sym (before_cons front b (hex_bytes (drop (i + 2) word)))
    ∙ ap (λ (r : Option ℕ). without_rest front (r >>= λ first. hex_bytes (drop (i + 2) word) >>= λ more. Some (first ∷ more))) e
    ∙ ap (without_rest front) (sym (hex_step word i lt)) ∙ h

pub hex_bad : (front word : List ℕ) (i : ℕ) (total : Option (List ℕ)) → i + 1 < length word → None ≡ hex_pair (get_or word i 0) (get_or word (i + 1) 0)
    → without_rest front (hex_bytes (drop i word)) ≡ total → total ≡ None
hex_bad front word i total lt e h =
    sym h ∙ ap (without_rest front) (hex_step word i lt ∙ ap (λ (r : Option ℕ). r >>= λ first. hex_bytes (drop (i + 2) word) >>= λ more. Some (first ∷ more)) (sym e))
