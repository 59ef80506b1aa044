-- The header of a legacy image (U-Boot's image.h, `struct legacy_img_hdr`).
use Rattle.std.specs.Prelude.{ℕ, List, ◌∷◌, ◌++◌, length, take, drop, replicate, slice_index}
use Rattle.std.specs.Prelude.{nat_lt, ◌==◌, if◌then◌else◌, Result, Ok, Err, Bool, true, false}
use Rattle.std.specs.Int.{to_be_bytes, w32}
use Rattle.uimg_base.specs.Results.{◌>>=◌}
use Rattle.uimg_texts.specs.{Slices.slice, Numbers.be32}
use Rattle.uimg_sums.specs.Crc.{crc}
use Rattle.uimg_legacy.specs.declared.{header.Header.Header, fault.LegacyFault.LegacyFault}
use Rattle.uimg_legacy.specs.declared.fault.LegacyFault.TheVariants.{TooShort, BadMagic}
use Rattle.uimg_legacy.specs.declared.fault.LegacyFault.TheVariants.{BadHeaderCrc}

-- the magic number
abbrev pub magic : ℕ
magic = 0x27051956

-- the 64 bytes of the header, or the first fault: too short, bad magic
unfoldable pub head : List ℕ → Result (List ℕ) LegacyFault
head image =
    if nat_lt (length image) 64 then Err TooShort
    else if be32 (take 64 image) 0 == magic then Ok (take 64 image) else Err BadMagic

-- the header's bytes with its own CRC field zeroed
abbrev pub without_crc : List ℕ → List ℕ
without_crc bytes = take 4 bytes ++ 0 ∷ 0 ∷ 0 ∷ 0 ∷ drop 8 bytes

-- whether the header's CRC field is the CRC of its bytes with that field zeroed
unfoldable pub has_right_crc : List ℕ → Bool
has_right_crc bytes = be32 bytes 4 == crc (without_crc bytes)

-- the fields at their offsets
abbrev pub fields : List ℕ → Header
fields bytes = record {
  time = be32 bytes 8;
  size = be32 bytes 12;
  load = be32 bytes 16;
  ep = be32 bytes 20;
  dcrc = be32 bytes 24;
  os = slice_index bytes 28;
  arch = slice_index bytes 29;
  kind = slice_index bytes 30;
  comp = slice_index bytes 31;
  name = slice bytes 32 32;
}

-- the fields, if the CRC is right
abbrev pub header_with : List ℕ → Bool → Result Header LegacyFault
header_with bytes true = Ok (fields bytes)
header_with bytes false = Err BadHeaderCrc

-- the header of an image, or the first fault: too short, bad magic, bad header CRC
abbrev pub header : List ℕ → Result Header LegacyFault
header image = do
  bytes ← head image
  header_with bytes (has_right_crc bytes)

-- the 64 bytes of a header with this CRC field
unfoldable pub spelled_with : ℕ → Header → List ℕ
spelled_with sum h =
    to_be_bytes w32 magic ++ to_be_bytes w32 sum ++ to_be_bytes w32 h.time ++ to_be_bytes w32 h.size
    ++ to_be_bytes w32 h.load ++ to_be_bytes w32 h.ep ++ to_be_bytes w32 h.dcrc
    ++ h.os ∷ h.arch ∷ h.kind ∷ h.comp ∷ h.name

-- the 64 bytes of a header with its CRC
abbrev pub spelled : Header → List ℕ
spelled h = spelled_with (crc (spelled_with 0 h)) h

-- a name, cut or padded with zeros to 32 bytes
abbrev pub padded_name : List ℕ → List ℕ
padded_name name = take 32 (name ++ replicate 32 0)
