-- Names that are used once.
use Rattle.std.proofs.Common.{◌≡◌, ℕ, List, [], ◌∷◌, ◌++◌, bytes_eq, Bool, true, false, ◌||◌, not, refl, ap, ap₂, sym, subst, ◌∙◌, true≢false}
use Rattle.std.specs.List.{list_all}
use Rattle.std.proofs.lemmas.Bool.{and_parts}
use Rattle.std.proofs.lemmas.List.Folds.{list_all-append}
use Rattle.uimg_unpacking.specs.Contents.{is_in, differ}
use Rattle.uimg_unpacking.specs.Staged.{with_name, Drops, none_gone, last_gone, last_noted, uses_names}
use Rattle.uimg_unpacking.proofs.ContentLaws.{flipped, not_or}
use Rattle.uimg_unpacking.proofs.Placing.{both, differs, not_eq}

-- Some names and others are used. The names differ from one another and from the others.
pub record UsesNames (is_used : List ℕ → Bool) (names others : List (List ℕ)) : Type 0 where
  pub are_used : list_all is_used names ≡ true
  pub were_used : list_all is_used others ≡ true
  pub unlike : differ names ≡ true
  pub apart : list_all (λ name. not (is_in name others)) names ≡ true

pub names_used : (used : List ℕ → Bool) (names others : List (List ℕ)) → uses_names used names others ≡ true → UsesNames used names others
unfolding uses_names
names_used used names others is =
    let h = and_parts _ _ is in
    let k = and_parts _ _ h.0 in
    let l = and_parts _ _ k.0 in
    record { are_used = l.0; were_used = l.1; unlike = k.1; apart = h.1 }

tell_used : (used : List ℕ → Bool) (names others : List (List ℕ)) → UsesNames used names others → uses_names used names others ≡ true
unfolding uses_names
tell_used used names others has = both _ _ (both _ _ (both _ _ has.are_used has.were_used) has.unlike) has.apart

pub none_used : (used : List ℕ → Bool) → uses_names used [] [] ≡ true
unfolding uses_names
none_used used = refl

front_differs : (left : List (List ℕ)) (name : List ℕ) → differ (left ++ name ∷ []) ≡ true → differ left ≡ true
front_differs [] name unlike = refl
front_differs (one ∷ left) name unlike =
    let h = and_parts (not (is_in one (left ++ name ∷ []))) (differ (left ++ name ∷ [])) unlike in
    both _ _ (fewer left h.0) (front_differs left name h.1)
  where
    rest : (b : Bool) (xs : List (List ℕ)) → (not (is_in one (xs ++ name ∷ [])) ≡ true → not (is_in one xs) ≡ true) → not (b || is_in one (xs ++ name ∷ [])) ≡ true → not (b || is_in one xs) ≡ true
    rest true xs f is = is
    rest false xs f is = f is

    fewer : (xs : List (List ℕ)) → not (is_in one (xs ++ name ∷ [])) ≡ true → not (is_in one xs) ≡ true
    fewer [] is = refl
    fewer (x ∷ xs) is = rest (bytes_eq one x) xs (fewer xs) is

-- names that are used once
all_more : {X : Type 0} (p q : X → Bool) (xs : List X) → ((x : X) → p x ≡ true → q x ≡ true) → list_all p xs ≡ true → list_all q xs ≡ true
all_more p q [] more all = refl
all_more p q (x ∷ xs) more all =
    let h = and_parts (p x) (list_all p xs) all in
    both _ _ (more x h.0) (all_more p q xs more h.1)

uses_more_names : (old new : List ℕ → Bool) (names others : List (List ℕ)) → ((name : List ℕ) → old name ≡ true → new name ≡ true) → UsesNames old names others → UsesNames new names others
uses_more_names old new names others more uses = record {
  are_used = all_more old new names more uses.are_used;
  were_used = all_more old new others more uses.were_used;
  unlike = uses.unlike;
  apart = uses.apart;
}

fresh : (used : List ℕ → Bool) (x name : List ℕ) → used x ≡ true → used name ≡ false → bytes_eq x name ≡ false
fresh used x name is other = differs x name (λ e. true≢false (sym is ∙ ap used e ∙ other))

none_in : (used : List ℕ → Bool) (name : List ℕ) (others : List (List ℕ)) → list_all used others ≡ true → used name ≡ false → not (is_in name others) ≡ true
none_in used name [] all other = refl
none_in used name (x ∷ xs) all other =
    let h = and_parts (used x) (list_all used xs) all in
    ap₂ (λ (a b : Bool). not (a || b)) (flipped x name (fresh used x name h.0 other)) (not_eq (is_in name xs) (none_in used name xs h.1 other))

in_more : (x name : List ℕ) (names : List (List ℕ)) → not (is_in x names) ≡ true → bytes_eq x name ≡ false → not (is_in x (names ++ name ∷ [])) ≡ true
in_more x name [] is other = ap (λ (b : Bool). not (b || false)) other
in_more x name (y ∷ names) is other =
    let h = not_or (bytes_eq x y) (is_in x names) is in
    ap₂ (λ (a b : Bool). not (a || b)) h.0 (not_eq (is_in x (names ++ name ∷ [])) (in_more x name names h.1 other))

differ_more : (used : List ℕ → Bool) (names : List (List ℕ)) (name : List ℕ) → list_all used names ≡ true → used name ≡ false → differ names ≡ true → differ (names ++ name ∷ []) ≡ true
differ_more used [] name all other unlike = refl
differ_more used (x ∷ names) name all other unlike =
    let a = and_parts (used x) (list_all used names) all in
    let d = and_parts (not (is_in x names)) (differ names) unlike in
    both _ _ (in_more x name names d.0 (fresh used x name a.0 other)) (differ_more used names name a.1 other d.1)

one_more : (p : List ℕ → Bool) (names : List (List ℕ)) (name : List ℕ) → list_all p names ≡ true → p name ≡ true → list_all p (names ++ name ∷ []) ≡ true
one_more p names name all is = list_all-append p names (name ∷ []) ∙ both _ _ all (both _ _ is refl)

-- a name that was not used before
uses_next_name : (old new : List ℕ → Bool) (names others : List (List ℕ)) (name : List ℕ) (is_begun : Bool) (now : List (List ℕ)) → ((x : List ℕ) → old x ≡ true → new x ≡ true) → old name ≡ false → new name ≡ true
    → now ≡ with_name is_begun names name → UsesNames old names others → UsesNames new now others
uses_next_name old new names others name true now more other is e uses =
    subst (λ (ns : List (List ℕ)). UsesNames new ns others) (sym e) (record {
      are_used = one_more new names name (all_more old new names more uses.are_used) is;
      were_used = all_more old new others more uses.were_used;
      unlike = differ_more old names name uses.are_used other uses.unlike;
      apart = one_more (λ x. not (is_in x others)) names name uses.apart (none_in old name others uses.were_used other);
    })
uses_next_name old new names others name false now more other is e uses =
    subst (λ (ns : List (List ℕ)). UsesNames new ns others) (sym e) (uses_more_names old new names others more uses)

-- the last name is gone
front_and_last : (p : List ℕ → Bool) (left : List (List ℕ)) (name : List ℕ) → list_all p (left ++ name ∷ []) ≡ true → (list_all p left ≡ true) × (p name ≡ true)
front_and_last p left name all =
    let h = and_parts (list_all p left) (list_all p (name ∷ [])) (sym (list_all-append p left (name ∷ [])) ∙ all) in
    (h.0, (and_parts (p name) true h.1).0)

not_the_last : (x : List ℕ) (xs : List (List ℕ)) (name : List ℕ) → not (is_in x (xs ++ name ∷ [])) ≡ true → bytes_eq x name ≡ false
not_the_last x [] name is = (not_or (bytes_eq x name) false is).0
not_the_last x (y ∷ xs) name is = not_the_last x xs name (not_or (bytes_eq x y) (is_in x (xs ++ name ∷ [])) is).1

apart_more : (left others : List (List ℕ)) (name : List ℕ) → differ (left ++ name ∷ []) ≡ true → list_all (λ x. not (is_in x others)) left ≡ true → list_all (λ x. not (is_in x (others ++ name ∷ []))) left ≡ true
apart_more [] others name unlike all = refl
apart_more (x ∷ left) others name unlike all =
    let d = and_parts (not (is_in x (left ++ name ∷ []))) (differ (left ++ name ∷ [])) unlike in
    let a = and_parts (not (is_in x others)) (list_all (λ y. not (is_in y others)) left) all in
    both _ _ (in_more x name others a.0 (not_the_last x left name d.0)) (apart_more left others name d.1 a.1)

uses_fewer_names : (used : List ℕ → Bool) (names left others now : List (List ℕ)) → Drops names left others now → UsesNames used names others → UsesNames used left now
uses_fewer_names used names left others now (none_gone a b) uses =
    subst (λ (ns : List (List ℕ)). UsesNames used ns now) (sym a) (subst (λ (os : List (List ℕ)). UsesNames used names os) (sym b) uses)
uses_fewer_names used names left others now (last_gone name a b) uses =
    let all = front_and_last used left name (ap (list_all used) (sym a) ∙ uses.are_used) in
    let unlike : differ (left ++ name ∷ []) ≡ true = ap differ (sym a) ∙ uses.unlike in
    let apart = front_and_last (λ x. not (is_in x others)) left name (ap (list_all (λ x. not (is_in x others))) (sym a) ∙ uses.apart) in
    subst (λ (os : List (List ℕ)). UsesNames used left os) (sym b) (record { are_used = all.0; were_used = uses.were_used; unlike = front_differs left name unlike; apart = apart.0 })
uses_fewer_names used names left others now (last_noted name a b) uses =
    let all = front_and_last used left name (ap (list_all used) (sym a) ∙ uses.are_used) in
    let unlike : differ (left ++ name ∷ []) ≡ true = ap differ (sym a) ∙ uses.unlike in
    let apart = front_and_last (λ x. not (is_in x others)) left name (ap (list_all (λ x. not (is_in x others))) (sym a) ∙ uses.apart) in
    subst (λ (os : List (List ℕ)). UsesNames used left os) (sym b) (record {
      are_used = all.0;
      were_used = one_more used others name uses.were_used all.1;
      unlike = front_differs left name unlike;
      apart = apart_more left others name unlike apart.0;
    })

pub uses_next : (old new : List ℕ → Bool) (names others : List (List ℕ)) (name : List ℕ) (is_begun : Bool) (now : List (List ℕ)) → ((x : List ℕ) → old x ≡ true → new x ≡ true) → old name ≡ false → new name ≡ true
    → now ≡ with_name is_begun names name → uses_names old names others ≡ true → uses_names new now others ≡ true
uses_next old new names others name is_begun now more other used is uses =
    tell_used new now others (uses_next_name old new names others name is_begun now more other used is (names_used old names others uses))

pub uses_fewer : (used : List ℕ → Bool) (names left others now : List (List ℕ)) → Drops names left others now → uses_names used names others ≡ true → uses_names used left now ≡ true
uses_fewer used names left others now drops is = tell_used used left now (uses_fewer_names used names left others now drops (names_used used names others is))
