-- Whether a node is not listed, but its parent is.
use Rattle.std.proofs.Common.{◌≡◌, ℕ, List, Some, None, Bool, true, false, slice_get, if◌then◌else◌, ap, sym, ◌∙◌}
use Rattle.uimg_blob_reading.specs.Rows.{Row}
use Rattle.uimg_signing.specs.{Covering.is_marked, Apart.{row_marked, parent_marked, is_apart}}

module _ (marks : List ℕ) (rows : List Row) (row : Row) where
  pub listed_itself : is_marked marks row.at ≡ true → false ≡ is_apart marks rows row
  listed_itself is = sym (ap (λ (b : Bool). if b then false else parent_marked marks rows row.parent) is)

  by_parent : is_marked marks row.at ≡ false → parent_marked marks rows row.parent ≡ is_apart marks rows row
  by_parent is = sym (ap (λ (b : Bool). if b then false else parent_marked marks rows row.parent) is)

  pub without_parent : is_marked marks row.at ≡ false → row.parent ≡ None → false ≡ is_apart marks rows row
  without_parent is none = sym (ap (parent_marked marks rows) none) ∙ by_parent is

  pub with_parent : is_marked marks row.at ≡ false → (parent : ℕ) (its : Row) → row.parent ≡ Some parent → slice_get rows parent ≡ Some its → is_marked marks its.at ≡ is_apart marks rows row
  with_parent is parent its around at = sym (ap (parent_marked marks rows) around ∙ ap (row_marked marks) at) ∙ by_parent is
