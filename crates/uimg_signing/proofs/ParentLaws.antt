-- Each node's path is its name and its parent's path.
use Rattle.std.proofs.Common.{◌≡◌, ℕ, zero, suc, ◌+◌, List, [], ◌∷◌, ◌++◌, length, drop, Option, Some, None, slice_get, refl, ap, sym, ◌∙◌, append_assoc, append-nil, length-append, arith}
use Rattle.uimg_blob_reading.specs.Grammar.{Siblings, none, node}
use Rattle.uimg_blob_reading.specs.Rows.{Row, size, rows, table}
use Rattle.uimg_blob_reading.specs.{Roles.{Level, top, role_at, level_in, level_after}}
use Rattle.uimg_signing.specs.Paths.{Path, paths, ParentIs, AllStand}

pub length_paths : (above : Path) (t : Siblings) → length (paths above t) ≡ size t
unfolding paths
length_paths above none = refl
length_paths above (node at name own below after) =
    ap suc (length-append (paths (name ∷ above) below) (paths above after)) ∙ omega (arith, length_paths (name ∷ above) below, length_paths above after)

-- the element of a number, by what is behind those before
pub got : {X : Type 0} (xs ys : List X) (i : ℕ) (x : X) → drop i xs ≡ x ∷ ys → slice_get xs i ≡ Some x
got [] ys zero x h = ap (λ l. slice_get l 0) h
got [] ys (suc i) x h = ap (λ l. slice_get l 0) h
got (y ∷ xs) ys zero x h = ap (λ l. slice_get l 0) h
got (y ∷ xs) ys (suc i) x h = got xs ys i x h

-- what is behind the next ones
pub past : {X : Type 0} (all xs ys : List X) (i n : ℕ) → drop i all ≡ xs ++ ys → length xs ≡ n → drop (i + n) all ≡ ys
past all [] ys i n h size = ap (λ (m : ℕ). drop m all) (omega (arith, size)) ∙ h
past [] (x ∷ xs) ys zero n h size = absurd (grind (arith, ap length h))
past [] (x ∷ xs) ys (suc i) n h size = absurd (grind (arith, ap length h))
past (y ∷ all) (x ∷ xs) ys zero zero h size = absurd (omega (arith, size))
past (y ∷ all) (x ∷ xs) ys zero (suc n) h size =
    let same : all ≡ xs ++ ys = ap (drop 1) h in
    let to : 0 + suc n ≡ suc n = omega arith in
    ap (λ (m : ℕ). drop m (y ∷ all)) to ∙ ap (λ (m : ℕ). drop m all) (let z : n ≡ 0 + n = omega arith in z) ∙ past all xs ys 0 n same (omega (arith, size))
past (y ∷ all) (x ∷ xs) ys (suc i) n h size =
    let to : suc i + n ≡ suc (i + n) = omega arith in
    ap (λ (m : ℕ). drop m (y ∷ all)) to ∙ past all (x ∷ xs) ys i n h size

all_stand : (all : List Path) (rs ss : List Row) (ps qs : List Path) → AllStand all rs ps → AllStand all ss qs → AllStand all (rs ++ ss) (ps ++ qs)
all_stand all [] ss [] qs a b = b
all_stand all [] ss (p ∷ ps) qs a b = absurd a
all_stand all (r ∷ rs) ss [] qs a b = absurd a
all_stand all (r ∷ rs) ss (p ∷ ps) qs a b = (a.0, all_stand all rs ss ps qs a.1 b)

stand : (all : List Path) (level : Level) (parent : Option ℕ) (i : ℕ) (above : Path) (t : Siblings) (rest : List Path) → ParentIs all parent above → drop i all ≡ paths above t ++ rest
    → AllStand all (rows level parent i t) (paths above t)
unfolding rows paths
stand all level parent i above none rest its h = tt
stand all level parent i above (node at name own below after) rest its h =
    let ps = paths (name ∷ above) below in
    let qs = paths above after in
    let here : drop i all ≡ (name ∷ above) ∷ (ps ++ (qs ++ rest)) = h ∙ ap (λ (l : List Path). (name ∷ above) ∷ l) (append_assoc ps qs rest) in
    let next : drop (i + 1) all ≡ ps ++ (qs ++ rest) = past all ((name ∷ above) ∷ []) (ps ++ (qs ++ rest)) i 1 here refl in
    let last : drop ((i + 1) + size below) all ≡ qs ++ rest = past all ps (qs ++ rest) (i + 1) (size below) next (length_paths (name ∷ above) below) in
    let to : i + (1 + size below) ≡ (i + 1) + size below = omega arith in (
      record { above = above; is = refl; parent = its },
      all_stand all (rows (level_in (role_at level name)) (Some i) (i + 1) below) (rows (level_after level name) parent (i + (1 + size below)) after) ps qs
          (stand all (level_in (role_at level name)) (Some i) (i + 1) (name ∷ above) below (qs ++ rest) (got all (ps ++ (qs ++ rest)) i (name ∷ above) here) next)
          (stand all (level_after level name) parent (i + (1 + size below)) above after rest its (ap (λ (m : ℕ). drop m all) to ∙ last)),
    )

-- each row stands at its path
pub table_stands : (t : Siblings) → AllStand (paths [] t) (table t) (paths [] t)
table_stands t = stand (paths [] t) top None 0 [] t [] refl (sym (append-nil (paths [] t)))
