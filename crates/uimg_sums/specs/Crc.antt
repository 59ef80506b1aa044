-- CRC-32 as the remainder of a division of bit lists (ITU-T V.42, section 8.1.1.6.2; RFC 1952,
-- section 8).
use Rattle.std.specs.Prelude.{ℕ, zero, suc, ◌+◌, ◌-◌, ◌*◌, ◌/◌, ◌%◌, List, [], ◌∷◌, ◌++◌, map}
use Rattle.std.specs.Prelude.{length, take, drop, replicate, Bool, true, false, not, ◌==◌}
use Rattle.std.specs.{Prelude.if◌then◌else◌, List.flat_map}

-- the lowest n bits of a number, lowest first
unfoldable pub bits : ℕ → ℕ → List Bool
bits zero x = []
bits (suc n) x = (x % 2 == 1) ∷ bits n (x / 2)

-- the number with these bits, lowest first
unfoldable pub number_of : List Bool → ℕ
number_of [] = 0
number_of (b ∷ bs) = (if b then 1 else 0) + 2 * number_of bs

abbrev pub xor : Bool → Bool → Bool
xor true b = not b
xor false b = b

-- a list of bits whose first bits are XORed with others
unfoldable pub xor_bits : List Bool → List Bool → List Bool
xor_bits [] bs = bs
xor_bits (x ∷ xs) [] = []
xor_bits (x ∷ xs) (b ∷ bs) = xor x b ∷ xor_bits xs bs

-- the lower coefficients of the polynomial
unfoldable pub polynomial : List Bool
polynomial = bits 32 0xEDB88320

-- The bits left after n steps. If the dropped bit was 1, the next 32 are XORed with the polynomial.
unfoldable pub rem_by : ℕ → List Bool → List Bool
rem_by zero bs = bs
rem_by (suc n) [] = []
rem_by (suc n) (true ∷ bs) = rem_by n (xor_bits polynomial bs)
rem_by (suc n) (false ∷ bs) = rem_by n bs

-- the remainder: the last 32 bits
unfoldable pub rem : List Bool → List Bool
rem bs = rem_by (length bs - 32) bs

-- the bits of a message, lowest bit of each byte first, then 32 zeros
unfoldable pub dividend : List ℕ → List Bool
dividend message = flat_map (bits 8) message ++ replicate 32 false

-- the list with its first 32 bits inverted
unfoldable pub invert_prefix : List Bool → List Bool
invert_prefix bs = map not (take 32 bs) ++ drop 32 bs

-- CRC-32 of a message (ISO 3309, ITU-T V.42), as in U-Boot's ih_hcrc and ih_dcrc
unfoldable pub crc : List ℕ → ℕ
crc message = number_of (map not (rem (invert_prefix (dividend message))))
