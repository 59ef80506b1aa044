-- Loops that change each element of a list.
use Rattle.std.proofs.Common.{◌≡◌, ℕ, ◌+◌, ◌<◌, ◌≤◌, List, [], ◌∷◌, ◌++◌, append-nil, length, map, take, drop, set, get_or, ap, sym, ◌∙◌, arith}
use Rattle.std.proofs.lemmas.List.{drop_more, take_more, take_more_set, drop-set-lt, drop_all, take_all, map-append}

abbrev rest_of : {X : Type 0} → List X → List X
rest_of [] = []
rest_of (x ∷ xs) = xs

abbrev head_or : {X : Type 0} → X → List X → X
head_or d [] = d
head_or d (x ∷ xs) = x

-- a list that was lent whole
pub written-back : {X : Type 0} (len : ℕ) (new old : List X) → length old ≤ length new → length old ≡ len → length new ≡ len → take len (new ++ drop (length new) old) ≡ new
written-back len new old short long_old long_new =
    ap (λ (l : List _). take len (new ++ l)) (drop_all (length new) old short) ∙ ap (take len) (append-nil new) ∙ take_all len new (omega (arith, long_new))

-- what is left behind an element that was changed
pub rest-more : {X : Type 0} (old now : List X) (i : ℕ) (d n : X) → i < length old → i < length now → drop i now ≡ drop i old → drop (i + 1) (set now i n) ≡ drop (i + 1) old
rest-more old now i d n in_old in_now rest =
    drop-set-lt (i + 1) now i n (omega arith) ∙ ap rest_of (sym (drop_more now i d in_now) ∙ rest ∙ drop_more old i d in_old)

module _ {X Y : Type 0} (v : X → Y) (f : Y → Y) where
  -- So many elements of a list were changed, and the others not.
  pub record ChangedTo (old now : List X) (i : ℕ) : Type 0 where
    pub rest : drop i now ≡ drop i old
    pub done : map v (take i now) ≡ map f (map v (take i old))

  pub same-at : (old now : List X) (i : ℕ) (d : X) → i < length old → i < length now → drop i now ≡ drop i old → get_or now i d ≡ get_or old i d
  same-at old now i d in_old in_now rest =
      ap (head_or d) (sym (drop_more now i d in_now) ∙ rest ∙ drop_more old i d in_old)

  pub changed-more : (old now : List X) (i : ℕ) (d n : X) → i < length old → i < length now → ChangedTo old now i → v n ≡ f (v (get_or old i d)) → ChangedTo old (set now i n) (i + 1)
  changed-more old now i d n in_old in_now c is =
      record {
        rest = rest-more old now i d n in_old in_now c.rest;
        done = ap (map v) (take_more_set now i n in_now) ∙ map-append v (take i now) (n ∷ [])
            ∙ ap (λ (l : List Y). l ++ v n ∷ []) c.done ∙ ap (λ (y : Y). map f (map v (take i old)) ++ y ∷ []) is
            ∙ sym (map-append f (map v (take i old)) (v (get_or old i d) ∷ []))
            ∙ ap (map f) (sym (map-append v (take i old) (get_or old i d ∷ [])))
            ∙ ap (λ (l : List X). map f (map v l)) (sym (take_more old i d in_old));
      }

  pub changed-all : (old now : List X) (i : ℕ) → length old ≤ i → length now ≤ i → ChangedTo old now i → map v now ≡ map f (map v old)
  changed-all old now i all_old all_now c =
      ap (map v) (sym (take_all i now all_now)) ∙ c.done ∙ ap (λ (l : List X). map f (map v l)) (take_all i old all_old)

module _ {X Y : Type 0} (v w : X → Y) where
  -- So many elements of a list are, seen by one function, what those of another are, seen by another.
  abbrev pub AgreeTo : List X → List X → ℕ → Type 0
  AgreeTo old now i = map v (take i now) ≡ map w (take i old)

  pub agree-more : (old now : List X) (i : ℕ) (d n : X) → i < length old → i < length now → AgreeTo old now i → v n ≡ w (get_or old i d) → AgreeTo old (set now i n) (i + 1)
  agree-more old now i d n in_old in_now agree is =
      ap (map v) (take_more_set now i n in_now) ∙ map-append v (take i now) (n ∷ [])
      ∙ ap (λ (l : List Y). l ++ v n ∷ []) agree ∙ ap (λ (y : Y). map w (take i old) ++ y ∷ []) is
      ∙ sym (map-append w (take i old) (get_or old i d ∷ []))
      ∙ ap (map w) (sym (take_more old i d in_old))

  pub agree-all : (old now : List X) (i : ℕ) → length old ≤ i → length now ≤ i → AgreeTo old now i → map v now ≡ map w old
  agree-all old now i all_old all_now agree =
      ap (map v) (sym (take_all i now all_now)) ∙ agree ∙ ap (map w) (take_all i old all_old)
