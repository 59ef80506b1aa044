-- Characters that are not visible as such: the general categories Cc, Cf, Zl and Zp of Unicode 15
-- (Unicode Standard, section 4.5), the unassigned ones between them, and the backslash.
use Rattle.std.specs.{Prelude.{ℕ, nat_le, ◌&&◌, List, [], ◌∷◌, Bool}, List.list_any}

-- the first and last character of each range
abbrev pub hidden_ranges : List (ℕ × ℕ)
hidden_ranges =
    (0, 0x1f) ∷ (0x5c, 0x5c) ∷ (0x7f, 0x9f) ∷ (0xad, 0xad) ∷ (0x600, 0x605) ∷ (0x61c, 0x61c)
    ∷ (0x6dd, 0x6dd) ∷ (0x70f, 0x70f)
    ∷ (0x890, 0x891) ∷ (0x8e2, 0x8e2) ∷ (0x180e, 0x180e) ∷ (0x200b, 0x200f) ∷ (0x2028, 0x202e)
    ∷ (0x2060, 0x206f)
    ∷ (0xfeff, 0xfeff) ∷ (0xfff9, 0xfffb) ∷ (0x110bd, 0x110bd) ∷ (0x110cd, 0x110cd)
    ∷ (0x13430, 0x1343f)
    ∷ (0x1bca0, 0x1bca3) ∷ (0x1d173, 0x1d17a) ∷ (0xe0001, 0xe007f) ∷ []

-- whether a character is in a range
abbrev pub is_in : ℕ → ℕ × ℕ → Bool
is_in letter range = nat_le range.0 letter && nat_le letter range.1

unfoldable pub is_hidden : ℕ → Bool
is_hidden letter = list_any (is_in letter) hidden_ranges
