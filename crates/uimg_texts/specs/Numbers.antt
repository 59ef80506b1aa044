-- Big-endian numbers of 32 bits (U-Boot's image.h; Devicetree Specification, section 5.2).
use Rattle.std.specs.{Prelude.{ℕ, ◌+◌, ◌*◌, ◌/◌, List}, Int.{from_be_bytes, w32}}
use Rattle.uimg_texts.specs.Slices.{slice}

-- the big-endian number of the four bytes at an offset
unfoldable pub be32 : List ℕ → ℕ → ℕ
be32 bytes at = from_be_bytes w32 (slice bytes at 4)

-- n rounded up to a multiple of 4
abbrev pub up4 : ℕ → ℕ
up4 n = (n + 3) / 4 * 4
