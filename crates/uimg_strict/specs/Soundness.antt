-- What libfdt asks of a blob besides its tree: `fdt_check_full` the header (Devicetree Specification,
-- section 5.2), and a last entry of the reservation block (section 5.3); `fdt_check_node_offset_` the
-- root at the start of the structure block.
use Rattle.std.specs.Prelude.{ℕ, zero, suc, ◌+◌, ◌-◌, ◌/◌, List, length, nat_lt, not, ◌==◌}
use Rattle.std.specs.Prelude.{◌||◌, ◌&&◌, Bool, false, if◌then◌else◌}
use Rattle.uimg_texts.specs.Numbers.{be32}
use Rattle.uimg_texts.specs.Slices.{slice}

-- whether totalsize, off_dt_struct, off_dt_strings and off_mem_rsvmap are such as libfdt takes: the
-- first is less than the greatest signed number of 32 bits, and no block begins in the header
abbrev pub has_sound_fields : List ℕ → Bool
has_sound_fields header =
    if not (nat_lt (be32 header 4) 0x7fffffff) || (nat_lt (be32 header 8) 40
    || nat_lt (be32 header 12) 40) then false
    else not (nat_lt (be32 header 16) 40) && not (nat_lt (be32 header 4) (be32 header 16))

-- FDT_BEGIN_NODE is the first word of the structure block, inside the blob
abbrev pub begins_with_root : List ℕ → List ℕ → Bool
begins_with_root header file =
    if nat_lt (be32 header 4) (be32 header 8 + 4) then false
    else be32 (slice file (be32 header 8) 4) 0 == 1

-- an entry, of an address and a size, is the last if its size is 0
abbrev pub is_last : List ℕ → Bool
is_last entry = (be32 entry 8 == 0) && (be32 entry 12 == 0)

-- whether one of some entries from an offset on is the last
unfoldable pub ends_among : List ℕ → ℕ → ℕ → Bool
ends_among file at zero = false
ends_among file at (suc n) = is_last (slice file at 16) || ends_among file (at + 16) n

-- whether a file has the whole blob of a header, and a last entry inside it
unfoldable pub is_sound_by : List ℕ → List ℕ → Bool
is_sound_by header file =
    if nat_lt (length file) (be32 header 4) then false
    else if not (has_sound_fields header) then false
    else if not (begins_with_root header file) then false
    else ends_among file (be32 header 16) ((be32 header 4 - be32 header 16) / 16)

-- the same by the header that the file begins with
unfoldable pub is_sound : List ℕ → Bool
is_sound file = if nat_lt (length file) 40 then false else is_sound_by (slice file 0 40) file
