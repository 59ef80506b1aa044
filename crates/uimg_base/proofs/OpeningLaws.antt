-- Names that were opened one after another.
use Rattle.std.proofs.Common.{◌≡◌, ℕ, List, [], ◌∷◌, ◌++◌, refl, sym, ap, ◌∙◌, append_assoc}
use Rattle.std.proofs.lemmas.List.{append-nil, reverse-append}
use Rattle.std.specs.Prelude.{reverse}
use Rattle.uimg_base.specs.{Named.FileMap, Opening.{OpensJust, OpensUpTo, OpensSome}}

-- nothing was opened
pub none_yet : (names : List (List ℕ)) (m : FileMap) → OpensUpTo names names m m
none_yet names m = record { first = []; whole = refl; just = refl }

pub opens_none : (names : List (List ℕ)) (m : FileMap) → OpensSome names m m
opens_none names m = record { left = names; opens = none_yet names m }

-- the first name was opened
pub opens_one : (name : List ℕ) (left : List (List ℕ)) (a b : FileMap) → b.opened ≡ name ∷ a.opened → OpensUpTo (name ∷ left) left a b
opens_one name left a b is = record { first = name ∷ []; whole = refl; just = is }

-- the same with what was opened, at any exit
pub opens_some : (names left : List (List ℕ)) (a b : FileMap) → OpensUpTo names left a b → OpensSome names a b
opens_some names left a b opens = record { left = left; opens = opens }

-- names, and then further ones
pub just_then : (xs ys : List (List ℕ)) (a b c : FileMap) → OpensJust xs a b → OpensJust ys b c → OpensJust (xs ++ ys) a c
just_then xs ys a b c p q =
    q ∙ ap (λ (l : List (List ℕ)). reverse ys ++ l) p
    ∙ sym (append_assoc (reverse ys) (reverse xs) a.opened)
    ∙ sym (ap (λ (l : List (List ℕ)). l ++ a.opened) (reverse-append xs ys))

pub opens_then : (names mid left : List (List ℕ)) (a b c : FileMap) → OpensUpTo names mid a b → OpensUpTo mid left b c → OpensUpTo names left a c
opens_then names mid left a b c p q = record {
  first = p.first ++ q.first;
  whole = p.whole ∙ ap (λ (l : List (List ℕ)). p.first ++ l) q.whole ∙ sym (append_assoc p.first q.first left);
  just = just_then p.first q.first a b c p.just q.just;
}

pub some_then : (names mid : List (List ℕ)) (a b c : FileMap) → OpensUpTo names mid a b → OpensSome mid b c → OpensSome names a c
some_then names mid a b c p q = record { left = q.left; opens = opens_then names mid q.left a b c p q.opens }

-- all names were opened
pub opens_all : (names : List (List ℕ)) (a b : FileMap) → OpensUpTo names [] a b → OpensJust names a b
opens_all names a b p =
    p.just ∙ ap (λ (l : List (List ℕ)). reverse l ++ a.opened) (sym (p.whole ∙ append-nil p.first))

pub opens_just : (names : List (List ℕ)) (a b : FileMap) → OpensJust names a b → OpensUpTo names [] a b
opens_just names a b is = record { first = names; whole = sym (append-nil names); just = is }
