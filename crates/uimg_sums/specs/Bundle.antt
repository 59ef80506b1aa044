-- Several sums over the same bytes.
use Rattle.std.specs.Prelude.{◌≡◌, ◌-◌, ℕ, List, [], ◌∷◌, ◌++◌, Bool, true, false, map, length}
use Rattle.std.specs.{Prelude.{replicate, Option, Some, None, IfSome}, List.All, Option.option_map}
use Rattle.uimg_sums.specs.{Algorithms.digest_by, AnySum.{algo_of, SumHolds, padded_digest}}
use Rattle.uimg_sums.specs.declared.{algo.Algo.Algo, any_sum.AnySum.AnySum, bundle.Bundle.Bundle}

-- the algorithms, padded with `None` to eight slots
abbrev pub eight_slots : List Algo → List (Option Algo)
eight_slots algos = map Some algos ++ replicate (8 - length algos) None

-- If the slot has a sum, these bytes may have been fed to it.
abbrev pub SlotHolds : List ℕ → Option AnySum → Type 0
SlotHolds fed slot = IfSome slot (λ sum. SumHolds sum fed)

-- whether the list has a byte
abbrev pub has_bytes : List ℕ → Bool
has_bytes [] = false
has_bytes (b ∷ bytes) = true

-- The sums have these algorithms, in order, and these bytes may have been fed to each.
pub record Holds (bundle : Bundle) (algos : List Algo) (fed : List ℕ) : Type 0 where
  pub order : map (option_map algo_of) bundle.sums ≡ eight_slots algos
  pub count : bundle.count ≡ length algos
  pub has_fed : bundle.has_fed ≡ has_bytes fed
  pub each : All (SlotHolds fed) bundle.sums

-- the digest for a slot's algorithm, or nothing if it has none
abbrev pub digest_at : List ℕ → Option Algo → List ℕ
digest_at fed None = []
digest_at fed (Some algo) = digest_by algo fed

-- the padded digests of the eight slots
abbrev pub padded_digests : List Algo → List ℕ → List (List ℕ × ℕ)
padded_digests algos fed = map (λ slot. padded_digest (digest_at fed slot)) (eight_slots algos)
