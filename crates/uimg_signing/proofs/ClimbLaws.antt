-- The path of a node, a name at a time.
use Rattle.std.proofs.Common.{◌≡◌, ℕ, zero, suc, ◌+◌, ◌≤◌, List, length, Option, Some, None, slice_get, refl, ap, ◌∙◌}
use Rattle.std.proofs.lemmas.Option.{slice_get_past}
use Rattle.uimg_blob_reading.specs.Rows.{Row}
use Rattle.uimg_signing.specs.PathSizes.{climb_size, step_size}

-- one node more
pub climb_more : (n left : ℕ) (rows : List Row) (number : ℕ) (row : Row) → left ≡ suc n → slice_get rows number ≡ Some row
    → climb_size left rows (Some number) ≡ 1 + length row.name + climb_size n rows row.parent
unfolding climb_size
climb_more n left rows number row is at =
    ap (λ (m : ℕ). climb_size m rows (Some number)) is ∙ ap (λ (o : Option Row). step_size o (climb_size n rows)) at

-- nothing is around the root
pub climb_none : (left : ℕ) (rows : List Row) → climb_size left rows None ≡ 0
unfolding climb_size
climb_none zero rows = refl
climb_none (suc n) rows = refl

-- there is no node of this number
pub climb_past : (left : ℕ) (rows : List Row) (number : ℕ) → length rows ≤ number → climb_size left rows (Some number) ≡ 0
unfolding climb_size
climb_past zero rows number past = refl
climb_past (suc n) rows number past = ap (λ (o : Option Row). step_size o (climb_size n rows)) (slice_get_past rows number past)

-- no node more is climbed
pub climb_end : (rows : List Row) (from : Option ℕ) → climb_size 0 rows from ≡ 0
unfolding climb_size
climb_end rows None = refl
climb_end rows (Some number) = refl
