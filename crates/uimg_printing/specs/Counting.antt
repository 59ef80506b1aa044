-- Counts with a noun.
use Rattle.std.specs.Prelude.{ℕ, ◌==◌, List, ◌++◌, codes, decimal, if◌then◌else◌}

-- a number and its noun, in the singular for 1
unfoldable pub counted : ℕ → List ℕ → List ℕ → List ℕ
counted n one many = decimal n ++ codes " " ++ (if n == 1 then one else many)
