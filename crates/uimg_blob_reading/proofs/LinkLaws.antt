-- The links of a tree's nodes: parents stand before, ends after.
use Rattle.std.proofs.Common.{◌≡◌, ◌<◌, ◌≤◌, ◌+◌, ℕ, suc, List, [], ◌∷◌, ◌++◌, Option, Some, None, IfSome, length, subst, arith}
use Rattle.std.specs.Prelude.{⊤}
use Rattle.uimg_blob_reading.specs.{Grammar.{Siblings, none, node}, Kept.{Kept, kept, kept_of}}
use Rattle.uimg_blob_reading.specs.{Rows.size, Roles.{Level, top, role_at, level_in, level_after}}
use Rattle.uimg_blob_reading.proofs.SoFarLaws.{length_kept}

-- The nodes from number i on have their parents before them, and end after themselves, at most at n.
abbrev pub AreLinked : ℕ → ℕ → List Kept → Type 0
AreLinked i n [] = ⊤
AreLinked i n (k ∷ ks) = IfSome k.parent (λ p. p < i) × (i < k.end) × (k.end ≤ n) × AreLinked (i + 1) n ks

joined : (a b : List Kept) (i n : ℕ) → AreLinked i n a → AreLinked (i + length a) n b → AreLinked i n (a ++ b)
joined [] b i n h more = let e : i + 0 ≡ i = omega arith in subst (λ (j : ℕ). AreLinked j n b) e more
joined (k ∷ ks) b i n h more =
    let e : i + suc (length ks) ≡ i + 1 + length ks = omega arith in
    (h.0, h.1, h.2, joined ks b (i + 1) n h.3 (subst (λ (j : ℕ). AreLinked j n b) e more))

below_more : (o : Option ℕ) (i j : ℕ) → i ≤ j → IfSome o (λ p. p < i) → IfSome o (λ p. p < j)
below_more o i j le h = grind arith

pub linked : (level : Level) (parent : Option ℕ) (i n : ℕ) (t : Siblings) → IfSome parent (λ p. p < i) → i + size t ≤ n → AreLinked i n (kept level parent i t)
unfolding kept
linked level parent i n none h le = tt
linked level parent i n (node at name own below after) h le =
    let under = kept (level_in (role_at level name)) (Some i) (i + 1) below in
    let e : i + (1 + size below) ≡ i + 1 + length under = omega (arith, length_kept (level_in (role_at level name)) (Some i) (i + 1) below) in (
      h,
      omega arith,
      omega (arith, le),
      joined under (kept (level_after level name) parent (i + (1 + size below)) after) (i + 1) n
          (linked (level_in (role_at level name)) (Some i) (i + 1) n below (omega arith) (omega (arith, le)))
          (subst (λ (j : ℕ). AreLinked j n (kept (level_after level name) parent (i + (1 + size below)) after)) e
          (linked (level_after level name) parent (i + (1 + size below)) n after (below_more parent i (i + (1 + size below)) (omega arith) h) (omega (arith, le)))),
    )

-- every link of a tree leads to a later node, or past the last
pub tree_linked : (t : Siblings) → AreLinked 0 (length (kept_of t)) (kept_of t)
tree_linked t = linked top None 0 (length (kept_of t)) t tt (omega (arith, length_kept top None 0 t))
