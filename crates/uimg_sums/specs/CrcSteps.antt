-- The CRC register, by bit steps and byte steps.
use Rattle.std.specs.Prelude.{ℕ, zero, suc, ◌-◌, ◌^◌, ◌/◌, ◌%◌, List, bit_xor, ◌==◌, if◌then◌else◌}
use Rattle.std.specs.List.{fold}

-- the number shifted right by one, and XORed with the polynomial if its lowest bit was 1
abbrev pub bit_step : ℕ → ℕ
bit_step x = if x % 2 == 1 then bit_xor (x / 2) 0xEDB88320 else x / 2

unfoldable pub bit_steps : ℕ → ℕ → ℕ
bit_steps zero x = x
bit_steps (suc n) x = bit_step (bit_steps n x)

abbrev pub byte_step : ℕ → ℕ → ℕ
byte_step x byte = bit_steps 8 (bit_xor x byte)

-- the register after a message
abbrev pub register_of : List ℕ → ℕ
register_of message = fold byte_step (2 ^ 32 - 1) message
