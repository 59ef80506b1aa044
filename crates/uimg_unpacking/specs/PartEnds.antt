-- What is read of a legacy image before its parts, and how its unpacking ends.
use Rattle.std.specs.Prelude.{◌≡◌, ℕ, ◌+◌, ◌*◌, nat_lt, ◌==◌, ◌&&◌, not, List, length, slice_index, take, drop, Bool, true, false, if◌then◌else◌, Option, Some, None, Result, Ok, Err}
use Rattle.std.specs.Char.{is_ascii_digit}
use Rattle.std.specs.List.{list_all}
use Rattle.std.specs.Int.{from_be_bytes, w32}
use Rattle.uimg_sums.specs.declared.algo.Algo.{Algo}
use Rattle.uimg_sums.specs.declared.algo.Algo.TheVariants as algo
use Rattle.uimg_legacy.specs.Checking.{Checks}
use Rattle.uimg_legacy.specs.Unpacking.{HasRightParts, unpack_of}
use Rattle.uimg_legacy.specs.declared.fault.Fault.{Fault, TheVariants.{Legacy, Put}}
use Rattle.uimg_legacy.specs.declared.fault.LegacyFault.TheVariants.{BadDataCrc}
use Rattle.uimg_unpacking.specs.{Ends.IfKept, PartFilling.Requests}
use Rattle.uimg_unpacking.specs.declared.trouble.Trouble.{Trouble}
use Rattle.uimg_unpacking.specs.declared.trouble.Trouble.TheVariants as of
use Rattle.uimg_unpacking.specs.declared.unpacking.Unpacking.{Unpacking}
use Rattle.uimg_unpacking.specs.declared.unpacking.Ended.{Ended}
use Rattle.uimg_unpacking.specs.declared.unpacking.Ended.TheVariants.{Kept, StoppedLegacy, Troubled}

-- a word of several digits begins with a zero
abbrev pub has_leading_zero : List ℕ → Bool
has_leading_zero word = nat_lt 1 (length word) && slice_index word 0 == 48

-- whether a word is a number as in the name of a file
abbrev pub is_number : List ℕ → Bool
is_number word = not (has_leading_zero word) && list_all is_ascii_digit word

-- whether a CRC-32 is as strong as needed
abbrev pub stands_by_crc32 : Option Algo → Bool
stands_by_crc32 None = true
stands_by_crc32 (Some algo.Crc16) = true
stands_by_crc32 (Some algo.Crc32) = true
stands_by_crc32 (Some _) = false

-- The size of a number in the table after the header of 64 bytes; 0 if the file ends before it.
abbrev pub size_at : List ℕ → ℕ → ℕ
size_at file number =
    if nat_lt (length file) (64 + 4 * number + 4) then 0
    else from_be_bytes w32 (take 4 (drop (64 + 4 * number) file))

-- how it ends if an image was checked
abbrev pub end_after : Result Bool Fault → Ended → Ended
end_after (Ok is_right) end = end
end_after (Err fault) end = StoppedLegacy fault

-- It ends so, unless the header or the table of the image is refused.
pub record EndsUnlessRefused (file : List ℕ) (end result : Ended) : Type 0 where
  pub checked : Result Bool Fault
  pub checks : Checks file checked
  pub is : result ≡ end_after checked end

-- whether the checksum of the data is right
abbrev pub is_right : Result Bool Fault → Bool
is_right (Ok right) = right
is_right (Err fault) = false

-- the end by what was unpacked: the parts are kept just if the checksum of the data is right and there is no trouble
abbrev pub end_of_parts : Result Bool Fault → Option Trouble → Ended
end_of_parts (Ok true) (Some trouble) = Troubled trouble
end_of_parts (Ok true) None = Kept
end_of_parts (Ok false) trouble = StoppedLegacy (Legacy BadDataCrc)
end_of_parts (Err Put) (Some trouble) = Troubled trouble
end_of_parts (Err Put) None = Troubled of.Put
end_of_parts (Err fault) trouble = StoppedLegacy fault

-- The parts are kept only if a CRC-32 is as strong as needed, the image has them, all of them if none is
-- requested by the name of its file, and its data's CRC is right.
abbrev pub KeepsRight : Unpacking → List ℕ → Ended → Type 0
KeepsRight asked file end = IfKept end ((stands_by_crc32 asked.need ≡ true) × ((only : Option ℕ)
    × Requests asked.only only × HasRightParts (unpack_of only file)))
