-- Where the digests of some sums stand.
use Rattle.std.proofs.Common.{◌≡◌, ◌≤◌, ◌-◌, ◌<◌, ℕ, zero, suc, List, [], ◌∷◌, ◌++◌, length, map, replicate, get_or, Option, Some, None, ap, sym, ◌∙◌, arith}
use Rattle.std.{specs.List.slice_get, proofs.lemmas.Option.slice_get_within}
use Rattle.uimg_sums.specs.{Algorithms.digest_by, AnySum.padded_digest, declared.algo.Algo.Algo}
use Rattle.uimg_sums.specs.Bundle.{digest_at, padded_digests}
use Rattle.uimg_blob_reading.proofs.PhaseLaws.{some_none, some_some}

-- the digest of an algorithm stands where the algorithm does
slot_at : (f : Option Algo → List ℕ × ℕ) (algos : List Algo) (rest : List (Option Algo)) (i : ℕ) (algo : Algo) (d : List ℕ × ℕ) → slice_get algos i ≡ Some algo
    → get_or (map f (map Some algos ++ rest)) i d ≡ f (Some algo)
slot_at f [] rest i algo d is = absurd (some_none (sym is))
slot_at f (a ∷ algos) rest zero algo d is = ap (λ (b : Algo). f (Some b)) (some_some a algo is)
slot_at f (a ∷ algos) rest (suc i) algo d is = slot_at f algos rest i algo d is

pub padded_at : (digests : List (List ℕ × ℕ)) (algos : List Algo) (message : List ℕ) (i : ℕ) (algo : Algo) (d : List ℕ × ℕ) → digests ≡ padded_digests algos message
    → slice_get algos i ≡ Some algo → get_or digests i d ≡ padded_digest (digest_by algo message)
padded_at digests algos message i algo d all is =
    ap (λ (l : List (List ℕ × ℕ)). get_or l i d) all
    ∙ slot_at (λ slot. padded_digest (digest_at message slot)) algos (replicate (8 - length algos) None) i algo d is

pub not_past : (algos : List Algo) (i : ℕ) (algo : Algo) → slice_get algos i ≡ Some algo → length algos ≤ 8 → i < 8
not_past algos i algo is few = omega (arith, slice_get_within algos i algo is, few)
