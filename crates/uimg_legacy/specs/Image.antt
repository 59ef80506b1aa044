-- A legacy image: its header, and the data after it.
use Rattle.std.specs.Prelude.{ℕ, ◌+◌, List, length, nat_lt, ◌==◌, if◌then◌else◌, Result, Ok, Err}
use Rattle.std.specs.Prelude.{Bool, true, false}
use Rattle.uimg_base.specs.Results.{◌>>=◌}
use Rattle.uimg_texts.specs.Slices.{slice}
use Rattle.uimg_sums.specs.Crc.{crc}
use Rattle.uimg_legacy.specs.declared.{header.Header.Header, fault.LegacyFault.LegacyFault}
use Rattle.uimg_legacy.specs.declared.fault.LegacyFault.TheVariants.{Truncated, BadDataCrc}
use Rattle.uimg_legacy.specs.Header.{header}

-- a header and its data
pub record Image : Type 0 where
  pub header : Header
  pub payload : List ℕ

-- the data: the `size` bytes after the header, or as many as the image has
abbrev pub payload : List ℕ → Header → List ℕ
payload image h = slice image 64 h.size

-- whether the data's CRC is that in the header, if the image has the data
unfoldable pub has_right_data : List ℕ → Header → Result Bool LegacyFault
has_right_data image h =
    if nat_lt (length image) (64 + h.size) then Err Truncated
    else Ok (crc (payload image h) == h.dcrc)

-- the header and the data, if their CRC is right
abbrev pub with_data : List ℕ → Header → Bool → Result Image LegacyFault
with_data image h true = Ok (record { header = h; payload = payload image h })
with_data image h false = Err BadDataCrc

-- The header and the data of an image, or the first fault: too short, bad magic, bad header CRC,
-- truncated, bad data CRC. Bytes after the data are accepted.
abbrev pub legacy : List ℕ → Result Image LegacyFault
legacy image = do
  h ← header image
  right ← has_right_data image h
  with_data image h right
