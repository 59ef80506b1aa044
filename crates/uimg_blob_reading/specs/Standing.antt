-- The positions of siblings in the table of their tree.
use Rattle.std.specs.Prelude.{◌≡◌, ℕ, List, ◌++◌, length, Option}
use Rattle.uimg_blob_reading.specs.{Grammar.Siblings, Roles.Level, Rows.{Row, rows, table}}

-- Siblings at a level and under a parent begin at this number: their rows are rows of the tree.
pub record Stand (t : Siblings) (level : Level) (parent : Option ℕ) (number : ℕ) (s : Siblings)
    : Type 0 where
  pub before : List Row
  pub past : List Row
  pub place : length before ≡ number
  pub is : table t ≡ before ++ (rows level parent number s ++ past)
