-- Slices of a list of bytes.
use Rattle.std.specs.Prelude.{ℕ, List, take, drop}

-- the n bytes at an offset, or fewer if the list ends before
abbrev pub slice : List ℕ → ℕ → ℕ → List ℕ
slice bytes at n = take n (drop at bytes)
