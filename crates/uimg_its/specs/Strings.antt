-- Strings and their escapes (Devicetree Specification, section 6.3, with this profile's escapes).
use Rattle.std.specs.Prelude.{ℕ, zero, suc, List, [], ◌∷◌, Option, Some, None, ◌&&◌, nat_le, ◌==◌}
use Rattle.std.specs.{Prelude.if◌then◌else◌, Option.option_map}
use Rattle.uimg_its.specs.{Options.◌>>=◌, Digits.hex_pair}

-- \0, not followed by an octal digit
abbrev pub zero_escape : List ℕ → Option (ℕ × ℕ)
zero_escape [] = Some (0, 1)
zero_escape (b ∷ bs) = if nat_le 48 b && nat_le b 55 then None else Some (0, 1)

-- \x and two hexadecimal digits
abbrev pub hex_escape : List ℕ → Option (ℕ × ℕ)
hex_escape [] = None
hex_escape (h ∷ []) = None
hex_escape (h ∷ l ∷ bs) = do
  b ← hex_pair h l
  Some (b, 3)

-- The byte of an escape, one of \\ \" \n \t \r \0 and \x, and its length after the backslash.
unfoldable pub escape : List ℕ → Option (ℕ × ℕ)
escape [] = None
escape (c ∷ bs) =
    if c == 92 then Some (92, 1)
    else if c == 34 then Some (34, 1)
    else if c == 110 then Some (10, 1)
    else if c == 116 then Some (9, 1)
    else if c == 114 then Some (13, 1)
    else if c == 48 then zero_escape bs
    else if c == 120 then hex_escape bs
    else None

-- The byte that a stands for before the bytes bs, and how many of these it takes: an escape or
-- itself.
unfoldable pub unit : ℕ → List ℕ → Option (ℕ × ℕ)
unit a bs = if a == 92 then escape bs else Some (a, 0)

-- The length of a string after its opening quote, without its first k bytes, the closing quote
-- included. There is none if no quote closes it or an escape is bad.
unfoldable pub string_end : ℕ → List ℕ → Option ℕ
string_end k [] = None
string_end (suc k) (b ∷ bs) = option_map suc (string_end k bs)
string_end zero (b ∷ bs) =
    if b == 34 then Some 1
    else elim (unit b bs) as (λ _. Option ℕ)
    [ None ↦ None | Some u ↦ option_map suc (string_end u.1 bs) ]

-- The bytes of that string, without the first k in the same way.
unfoldable pub string_bytes : ℕ → List ℕ → List ℕ
string_bytes k [] = []
string_bytes (suc k) (b ∷ bs) = string_bytes k bs
string_bytes zero (b ∷ bs) =
    if b == 34 then []
    else elim (unit b bs) as (λ _. List ℕ) [ None ↦ [] | Some u ↦ u.0 ∷ string_bytes u.1 bs ]
