-- CRC-16 as the remainder of a division of polynomials over two elements (ITU-T V.41, section 2).
use Rattle.std.specs.Prelude.{ℕ, ◌+◌, ◌-◌, ◌*◌, ◌/◌, ◌%◌, ◌^◌, List, [], ◌∷◌, ◌++◌, nat_lt, bit_xor}
use Rattle.std.specs.{Prelude.if◌then◌else◌, List.fold}

-- The next bit is brought down: the remainder is shifted left by one, and if it has 17 bits then,
-- x^16 + x^12 + x^5 + 1 is taken from it.
abbrev pub bring_down : ℕ → ℕ → ℕ
bring_down remainder bit =
    if nat_lt (2 * remainder + bit) (2 ^ 16) then 2 * remainder + bit
    else bit_xor (2 * remainder + bit - 2 ^ 16) 0x1021

-- the bits of a byte, the highest first
abbrev pub bits_down : ℕ → List ℕ
bits_down byte =
    byte / 128 ∷ byte / 64 % 2 ∷ byte / 32 % 2 ∷ byte / 16 % 2
    ∷ byte / 8 % 2 ∷ byte / 4 % 2 ∷ byte / 2 % 2 ∷ byte % 2 ∷ []

abbrev pub byte_down : ℕ → ℕ → ℕ
byte_down remainder byte = fold bring_down remainder (bits_down byte)

-- the remainder of a message
abbrev pub remainder_of : List ℕ → ℕ
remainder_of message = fold byte_down 0 message

-- The CRC of a message is the remainder of it and 16 zeros behind it. The register begins as zeros
-- and nothing is inverted, as in U-Boot's crc16-ccitt.
unfoldable pub crc16 : List ℕ → ℕ
crc16 message = remainder_of (message ++ 0 ∷ 0 ∷ [])
