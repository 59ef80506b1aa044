-- The most bytes that a command requests.
use Rattle.std.specs.Prelude.{ℕ, ◌+◌, ◌*◌, List, length, nat_lt, if◌then◌else◌, Result, Ok, Err}
use Rattle.std.specs.Prelude.{Bool, true, false}
use Rattle.uimg_legacy.specs.declared.{header.Header.Header, fault.LegacyFault.LegacyFault}
use Rattle.uimg_legacy.specs.{Header.header, Image.{Image, payload, legacy}, Extraction.extract_of}
use Rattle.uimg_legacy.specs.Parts.{has_parts, sizes}

-- The most bytes requested beside payloads, with `count` sizes: the `64 + 16 * (count + 1)` of
-- metadata, less the four that the caller may have read to choose the format.
abbrev pub own_meta : ℕ → ℕ
own_meta count = 60 + 16 * (count + 1)

-- how many bytes of data are read: none if the data are truncated
unfoldable pub data_read : List ℕ → Header → ℕ
data_read image h = if nat_lt (length image) (64 + h.size) then 0 else h.size

-- the same, or 0 for a refused header
abbrev pub data_read_from : List ℕ → Result Header LegacyFault → ℕ
data_read_from image (Ok h) = data_read image h
data_read_from image (Err fault) = 0

-- the data's length, or 0 if the header is refused or the data are truncated
abbrev pub data_length : List ℕ → ℕ
data_length image = data_read_from image (header image)

-- the header and the data
abbrev pub image_read : List ℕ → ℕ
image_read image = 64 + data_length image

-- how many sizes are read: those before the zero word, or all whole words if none is zero
abbrev pub sizes_read_with : Bool → List ℕ → ℕ
sizes_read_with true payload = length (sizes payload)
sizes_read_with false payload = 0

-- the most bytes requested of the table of sizes, once the header is known
abbrev pub table_work : Header → List ℕ → ℕ
table_work h image = 12 * (sizes_read_with (has_parts h.kind) (payload image h) + 1)

-- how many sizes are read of an image, or 0 if it is refused
abbrev pub sizes_read_from : Result Image LegacyFault → ℕ
sizes_read_from (Ok image) = sizes_read_with (has_parts image.header.kind) image.payload
sizes_read_from (Err fault) = 0

-- how many sizes a listing and an extraction read
abbrev pub sizes_read : List ℕ → ℕ
sizes_read image = sizes_read_from (legacy image)

-- the most bytes that a report requests
abbrev pub verify_work : List ℕ → ℕ
verify_work image = own_meta 0 + data_length image

-- how many sizes a check reads: of an image whose header is refused none
abbrev pub sizes_checked : List ℕ → Result Header LegacyFault → ℕ
sizes_checked image (Ok h) = sizes_read_with (has_parts h.kind) (payload image h)
sizes_checked image (Err fault) = 0

-- the most bytes that a check requests
abbrev pub check_work : List ℕ → ℕ
check_work image = own_meta (sizes_checked image (header image)) + data_length image

-- the most bytes that a listing requests
abbrev pub list_work : List ℕ → ℕ
list_work image = own_meta (sizes_read image) + data_length image

-- the most bytes that an extraction requests: those of a listing, and the part that is written
abbrev pub extract_work : List ℕ → ℕ → ℕ
extract_work image position = list_work image + length (extract_of image position).text
