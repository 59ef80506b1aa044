-- Texts of one line.
use Rattle.std.specs.{Prelude.{ℕ, List, Bool, nat_le}, List.list_all}

-- no byte is below 32, so none ends a line
abbrev pub is_one_line : List ℕ → Bool
is_one_line = list_all (λ byte. nat_le 32 byte)
