-- The report on an image's checksums.
use Rattle.std.specs.Prelude.{ℕ, List, codes, Result, Bool, true, false}
use Rattle.uimg_base.specs.Outcome.{Outcome, done, not_right, told, after, unless_refused, line}
use Rattle.uimg_legacy.specs.{declared.fault.LegacyFault.LegacyFault, Image.has_right_data}
use Rattle.uimg_legacy.specs.Header.{head, has_right_crc, fields}

-- the line on the data's CRC
abbrev pub data_line : Bool → Outcome LegacyFault
data_line true = told (line (codes "data crc32 ok")) done
data_line false = told (line (codes "data crc32 bad")) not_right

-- the same, or the fault of truncated data
abbrev pub data_report : Result Bool LegacyFault → Outcome LegacyFault
data_report found = unless_refused found data_line

-- the line on the header's CRC, and if that is right the report on the data
abbrev pub header_report : Bool → Result Bool LegacyFault → Outcome LegacyFault
header_report true found = after (line (codes "header crc32 ok")) (data_report found)
header_report false found = told (line (codes "header crc32 bad")) not_right

-- the report on an image; one that is too short or has another magic number has no line
abbrev pub verify_of : List ℕ → Outcome LegacyFault
verify_of image =
    unless_refused (head image)
    (λ bytes. header_report (has_right_crc bytes) (has_right_data image (fields bytes)))
