-- How many bytes were written to a file.
use Rattle.std.specs.Prelude.{ℕ, ◌+◌, ◌-◌, ◌^◌, min, Result, Ok, Err}

-- those before, and those that a write accepts
abbrev pub accepted : {E : Type 0} → ℕ → Result ℕ E → ℕ
accepted size (Ok count) = min (size + count) (2 ^ 64 - 1)
accepted size (Err _) = size
