-- The lines of unpacked payloads and parts.
use Rattle.std.specs.Prelude.{ℕ, List, [], ◌++◌, take, codes, decimal, true, if◌then◌else◌, Option}
use Rattle.std.specs.Prelude.{Some, None}
use Rattle.std.specs.Int.{to_be_bytes, w32}
use Rattle.std.specs.List.{flat_map}
use Rattle.std.specs.Str.{bytes_eq}
use Rattle.uimg_sums.specs.Algorithms.{algo_name, digest_size}
use Rattle.uimg_fit_base.specs.Report.{word_text}
use Rattle.uimg_fit_checking.specs.Unpacking.{as_bytes}
use Rattle.uimg_fit_checking.specs.declared.unpacking.taker.Refusal.{Refusal}
use Rattle.uimg_fit_checking.specs.declared.unpacking.taker.Refusal.TheVariants.{Wrong, Weak}
use Rattle.uimg_fit_checking.specs.declared.unpacking.taker.Vouched.{Vouched}
use Rattle.uimg_printing.specs.Counting.{counted}
use Rattle.uimg_printing.specs.Printing.{digits_of, printed}
use Rattle.uimg_unpacking.specs.declared.lines.Line.{Line}
use Rattle.uimg_unpacking.specs.declared.lines.Line.TheVariants.{Kept, Refused, Overlapping, Part}

abbrev pub bytes_text : ℕ → List ℕ
bytes_text n = counted n (codes "byte") (codes "bytes")

-- the name of a file, if it differs from that of the image
unfoldable pub as_text : List ℕ → List ℕ → List ℕ
as_text name file = if bytes_eq name file then [] else codes " as " ++ file

-- the strongest algorithm that vouches for a payload, and the digest by it
abbrev pub vouched_text : Option Vouched → List ℕ
vouched_text None = codes ", unhashed"
vouched_text (Some v) =
    codes ", " ++ algo_name v.algo ++ codes " "
    ++ flat_map digits_of (take (digest_size v.algo) v.digest)

-- the bytes of a checksum, big-endian
unfoldable pub crc_bytes : ℕ → List ℕ
crc_bytes dcrc = to_be_bytes w32 dcrc

-- the lines of a kept payload, of a refused one, and of a part
abbrev pub kept_line : List ℕ → List ℕ → ℕ → Option Vouched → List ℕ
kept_line name file size vouched =
    printed true name ++ codes ": " ++ bytes_text size ++ as_text name file ++ vouched_text vouched

abbrev pub refusal_text : List ℕ → Refusal → List ℕ
refusal_text name (Wrong hash word) =
    printed true name ++ codes ": " ++ word_text word ++ codes " " ++ printed true (as_bytes hash)
refusal_text name Weak = printed true name ++ codes ": weak"

abbrev pub crc_text : ℕ → List ℕ
crc_text dcrc = codes ", data crc32 " ++ flat_map digits_of (crc_bytes dcrc)

abbrev pub unpacked_line : ℕ → ℕ → ℕ → List ℕ
unpacked_line number size dcrc =
    codes "image-" ++ decimal number ++ codes ": " ++ bytes_text size ++ crc_text dcrc

abbrev pub line_of : Line → List ℕ
line_of (Kept name file size vouched) = kept_line (as_bytes name.now) file.now size vouched
line_of (Refused name refusal) = refusal_text (as_bytes name.now) refusal
line_of (Overlapping name) = printed true (as_bytes name.now) ++ codes ": overlapping"
line_of (Part number size dcrc) = unpacked_line number size dcrc
