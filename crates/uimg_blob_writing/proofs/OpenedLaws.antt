-- Files that were opened one after another.
use Rattle.std.proofs.Common.{◌≡◌, ℕ, List, [], ◌∷◌, ◌++◌, Bool, true, false, refl, ap, ◌∙◌, append_assoc}
use Rattle.std.specs.Bool.{OnFalse}
use Rattle.uimg_base.specs.{Named.FileMap, Opening.{OpensJust, OpensSome}}
use Rattle.uimg_base.proofs.OpeningLaws.{just_then, some_then, opens_just, opens_none}
use Rattle.uimg_blob_writing.specs.UsingFiles.{OpensEach}

-- what holds at any exit holds if the call did not fail
pub at_any : {P : Type 0} (e : Bool) → P → OnFalse e P
at_any true p = tt
at_any false p = p

on_success : {P Q : Type 0} (e : Bool) → (P → Q) → OnFalse e P → OnFalse e Q
on_success true f p = tt
on_success false f p = f p

-- all names were opened
pub each_of : (e : Bool) (xs : List (List ℕ)) (a b : FileMap) → OpensJust xs a b → OpensEach e xs a b
each_of e xs a b just = record { all = at_any e just; some = record { left = []; opens = opens_just xs a b just } }

-- nothing is to be opened
pub each_none : (e : Bool) (m : FileMap) → OpensEach e [] m m
each_none e m = each_of e [] m m refl

-- one file is
pub each_one : (e : Bool) (name : List ℕ) (a b : FileMap) → b.opened ≡ name ∷ a.opened → OpensEach e (name ∷ []) a b
each_one e name a b is = each_of e (name ∷ []) a b is

-- the first names, and then the others
pub each_then : (e : Bool) (xs ys : List (List ℕ)) (a b c : FileMap) → OpensEach false xs a b → OpensEach e ys b c → OpensEach e (xs ++ ys) a c
each_then e xs ys a b c p q = record {
  all = on_success e (λ just. just_then xs ys a b c p.all just) q.all;
  some = some_then (xs ++ ys) ys a b c (record { first = xs; whole = refl; just = p.all }) q.some;
}

-- a fault in the first names
pub each_stops : (xs ys : List (List ℕ)) (a b : FileMap) → OpensEach true xs a b → OpensEach true (xs ++ ys) a b
each_stops xs ys a b p =
    let s = p.some.opens in
    record {
      all = tt;
      some = record {
        left = p.some.left ++ ys;
        opens = record {
          first = s.first;
          whole = ap (λ (l : List (List ℕ)). l ++ ys) s.whole ∙ append_assoc s.first p.some.left ys;
          just = s.just;
        };
      };
    }

-- a fault before the first file
pub each_unopened : (names : List (List ℕ)) (m : FileMap) → OpensEach true names m m
each_unopened names m = record { all = tt; some = opens_none names m }
