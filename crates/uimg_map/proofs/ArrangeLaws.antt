-- What the rows of sorted things are for the things as they were given.
use Rattle.std.proofs.Common.{◌≡◌, ◌≤◌, ◌<◌, ℕ, ◌+◌, ◌*◌, List, length, true, false, None, ◌∙◌, ap, sym, subst, arith}
use Rattle.std.specs.List.{list_any, Sorted.{IsPermutation, IsSorted}}
use Rattle.std.proofs.lemmas.List.Sorted.{length_permutation, list_any-IsPermutation}
use Rattle.uimg_map.specs.{declared.{thing.Thing.Thing, row.Row.Row}, Rows.{rows_from, things_in}}
use Rattle.uimg_map.specs.{Order.InOrder, Arranging.Arranges, Cover.{is_in_row, has_free, contains}}
use Rattle.uimg_map.proofs.{RowsLaws.{things_in-rows, length-rows}, OrderLaws.{thing_cmp, in_order}}
use Rattle.uimg_map.proofs.CoverLaws.{covered, free}

module _ (size : ℕ) (given sorted : List Thing) (p : IsPermutation given sorted) (s : IsSorted thing_cmp sorted) (rows : List Row) (are : rows ≡ rows_from size None sorted) where
  things_are : things_in rows ≡ sorted
  things_are = ap things_in are ∙ things_in-rows size None sorted

  count_is : length rows ≤ 2 * length given + 1
  count_is =
      let long = ap (λ (rs : List Row). length rs) are in
      let most = length-rows size None sorted in
      let alike = length_permutation given sorted p in
      omega (arith, long, most, alike)

  none_has : (i : ℕ) → list_any (has_free i) rows ≡ true → (i < size) × (list_any (contains i) given ≡ false)
  none_has i h =
      let f = free size i None sorted (in_order sorted s) (ap (list_any (has_free i)) (sym are) ∙ h) in
      (f.1, list_any-IsPermutation (contains i) given sorted p ∙ f.2)

  pub arranged : Arranges size given rows
  arranged = record {
    same = subst (λ (ts : List Thing). IsPermutation given ts) (sym things_are) p;
    sorted = subst InOrder (sym things_are) (in_order sorted s);
    told = are ∙ ap (rows_from size None) (sym things_are);
    count = count_is;
    covered = λ i h. ap (list_any (is_in_row i)) are ∙ covered size i h None sorted (omega arith);
    free = none_has;
  }
