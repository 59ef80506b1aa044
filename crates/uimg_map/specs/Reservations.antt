-- The memory reservation block of a devicetree blob (Devicetree Specification, section 5.3).
use Rattle.std.specs.Prelude.{◌≡◌, ◌≤◌, ◌<◌, ℕ, zero, suc, ◌+◌, ◌-◌, ◌*◌, ◌/◌, List, length}
use Rattle.std.specs.Prelude.{replicate, if◌then◌else◌, Option, Some, None, Bool, true, false}
use Rattle.std.specs.Str.{bytes_eq}
use Rattle.uimg_texts.specs.Slices.{slice}

-- whether an entry ends the list
abbrev pub is_zero_entry : List ℕ → Bool
is_zero_entry entry = bytes_eq entry (replicate 16 0)

-- the first `count` entries of a block do not end it
abbrev pub GoesOn : List ℕ → ℕ → ℕ → Type 0
GoesOn file place count =
    (j : ℕ) → j < count → is_zero_entry (slice file (place + 16 * j) 16) ≡ false

-- a block ends after its first entry of zeros, which comes after `count` others
pub record EndsBehind (file : List ℕ) (place end : ℕ) : Type 0 where
  pub count : ℕ
  pub goes_on : GoesOn file place count
  pub last : is_zero_entry (slice file (place + 16 * count) 16) ≡ true
  pub end_is : end ≡ place + 16 * count + 16
  pub inside : end ≤ length file

-- a block ends here, or none of its entries in the file ends it
abbrev pub EndsBlock : List ℕ → ℕ → Option ℕ → Type 0
EndsBlock file place (Some end) = EndsBehind file place end
EndsBlock file place None = (count : ℕ) → place + 16 * count ≤ length file → GoesOn file place count

-- Where a block ends: after the first entry of zeros, among `count` entries from an offset on.
unfoldable pub end_among : ℕ → List ℕ → ℕ → Option ℕ
end_among zero file at = None
end_among (suc count) file at =
    if is_zero_entry (slice file at 16) then Some (at + 16) else end_among count file (at + 16)

-- The same among all entries that the file has from an offset on.
unfoldable pub block_end : List ℕ → ℕ → Option ℕ
block_end file place = end_among ((length file - place) / 16) file place
