-- Sums over the rows of a table, a row at a time.
use Rattle.std.proofs.Common.{◌≡◌, ℕ, suc, ◌+◌, ◌≤◌, List, ◌∷◌, length, drop, ap, arith}
use Rattle.uimg_blob_reading.specs.Rows.{Row}
use Rattle.uimg_signing.specs.Sums.{sum_from}
use Rattle.uimg_signing.proofs.LookLaws.{drop_end}

module _ (f : ℕ → Row → ℕ) (rows : List Row) (i old all : ℕ) (left : old + sum_from f i (drop i rows) ≡ all) where
  first : (row : Row) → drop i rows ≡ row ∷ drop (suc i) rows → sum_from f i (drop i rows) ≡ f i row + sum_from f (i + 1) (drop (suc i) rows)
  unfolding sum_from
  first row is = ap (sum_from f i) is

  pub sum_more : (row : Row) (new : ℕ) → drop i rows ≡ row ∷ drop (suc i) rows → new ≡ old + f i row → new + sum_from f (i + 1) (drop (i + 1) rows) ≡ all
  sum_more row new is added =
      let next : i + 1 ≡ suc i = omega arith in
      omega (arith, left, added, first row is, ap (λ (k : ℕ). sum_from f (i + 1) (drop k rows)) next)

  -- all is no less
  pub sum_least : (row : Row) → drop i rows ≡ row ∷ drop (suc i) rows → old + f i row ≤ all
  sum_least row is = omega (arith, left, first row is)

  pub sum_end : length rows ≤ i → old ≡ all
  unfolding sum_from
  sum_end past = omega (arith, left, ap (sum_from f i) (drop_end rows i past))
