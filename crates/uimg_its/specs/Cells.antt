-- Cells and byte lists (Devicetree Specification, section 6.3).
use Rattle.std.specs.Prelude.{ℕ, List, [], ◌∷◌, Option, Some, None, ◌==◌, ◌||◌, if◌then◌else◌}
use Rattle.std.specs.Int.{w32, to_be_bytes}
use Rattle.uimg_its.specs.declared.lists.Listed.{Listed, TheVariants.{Cells, Bytes}}
use Rattle.uimg_its.specs.{Options.◌>>=◌, Digits.{number_in_base, hex_pair}}

-- A cell's number: 0x or 0X and hexadecimal digits; 0 and octal digits, or none; or decimal digits.
unfoldable pub number_of_cell : List ℕ → Option ℕ
number_of_cell [] = None
number_of_cell (z ∷ []) = number_in_base 10 (z ∷ [])
number_of_cell (z ∷ x ∷ []) =
    if z == 48 then number_in_base 8 (x ∷ []) else number_in_base 10 (z ∷ x ∷ [])
number_of_cell (z ∷ x ∷ d ∷ ds) =
    if z == 48
    then (if x == 120 || x == 88 then number_in_base 16 (d ∷ ds) else number_in_base 8 (x ∷ d ∷ ds))
    else number_in_base 10 (z ∷ x ∷ d ∷ ds)

-- the bytes of a word, two hexadecimal digits each
unfoldable pub hex_bytes : List ℕ → Option (List ℕ)
hex_bytes [] = Some []
hex_bytes (a ∷ []) = None
hex_bytes (a ∷ b ∷ rest) = do
  first ← hex_pair a b
  more ← hex_bytes rest
  Some (first ∷ more)

-- The bytes of a list's name word: a cell's number as four bytes, big-endian, or bytes.
abbrev pub element : Listed → List ℕ → Option (List ℕ)
element Cells n = do
  c ← number_of_cell n
  Some (to_be_bytes w32 c)
element Bytes n = hex_bytes n
