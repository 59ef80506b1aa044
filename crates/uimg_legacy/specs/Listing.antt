-- The listing of a legacy image.
use Rattle.std.specs.Prelude.{ℕ, zero, suc, List, [], ◌++◌, length, take, replicate, slice_index}
use Rattle.std.specs.{Prelude.{codes, decimal, Bool, true, false}, Int.{to_be_bytes, w32}}
use Rattle.hex.specs.Hex.{encode_lower}
use Rattle.uimg_base.specs.Outcome.{Outcome, done, refused, told, after, unless_refused, line}
use Rattle.uimg_texts.specs.{Nul.text, Sizes.size_text, Times.time_text}
use Rattle.uimg_texts.specs.declared.field.Field.TheVariants.{Architecture, System, Kind}
use Rattle.uimg_texts.specs.declared.{field.Field.TheVariants.Compression, naming.Naming.Naming}
use Rattle.uimg_texts.specs.Naming.{code_text}
use Rattle.uimg_legacy.specs.declared.{header.Header.Header, fault.LegacyFault.LegacyFault}
use Rattle.uimg_legacy.specs.{declared.fault.LegacyFault.TheVariants.PartOutside, Image.legacy}
use Rattle.uimg_legacy.specs.Parts.{has_parts, sizes, part_sizes, is_outside}

-- a label, padded with blanks to 14 bytes, then a value
abbrev pub labelled : List ℕ → List ℕ → List ℕ
labelled label value = line (take 14 (label ++ replicate 14 32) ++ value)

-- the architecture, the operating system, the image type, and the compression in parentheses
abbrev pub type_text : (arch os kind comp : List ℕ) → List ℕ
type_text arch os kind comp =
    arch ++ codes " " ++ os ++ codes " " ++ kind ++ codes " (" ++ comp ++ codes ")"

-- eight lower-case hexadecimal digits
abbrev pub address_text : ℕ → List ℕ
address_text address = encode_lower (to_be_bytes w32 address)

-- each of the six lines is a label and a value
unfoldable pub name_line : Header → List ℕ
name_line h = labelled (codes "Image Name:") (text h.name)

unfoldable pub time_line : Header → List ℕ
time_line h = labelled (codes "Created:") (time_text h.time)

unfoldable pub type_line : Naming → Header → List ℕ
type_line naming h =
    labelled (codes "Image Type:") (type_text
    (code_text naming Architecture h.arch) (code_text naming System h.os)
    (code_text naming Kind h.kind) (code_text naming Compression h.comp))

unfoldable pub size_line : Header → List ℕ
size_line h = labelled (codes "Data Size:") (size_text h.size)

unfoldable pub load_line : Header → List ℕ
load_line h = labelled (codes "Load Address:") (address_text h.load)

unfoldable pub entry_line : Header → List ℕ
entry_line h = labelled (codes "Entry Point:") (address_text h.ep)

-- the six lines that each image has
abbrev pub head_text : Naming → Header → List ℕ
head_text naming h =
    name_line h ++ time_line h ++ type_line naming h ++ size_line h ++ load_line h ++ entry_line h

-- the line of part i
unfoldable pub part_line : ℕ → ℕ → List ℕ
part_line i size = line (codes "   Image " ++ decimal i ++ codes ": " ++ size_text size)

-- a part's line and the rest, or the refusal instead of that line
abbrev pub part_step : Bool → List ℕ → Outcome LegacyFault → Outcome LegacyFault
part_step true text rest = told [] (refused PartOutside)
part_step false text rest = after text rest

-- the lines of n parts from part i on, up to the first that ends after the data
unfoldable pub part_lines : List ℕ → List ℕ → ℕ → ℕ → Outcome LegacyFault
part_lines payload table zero i = told [] done
part_lines payload table (suc n) i =
    part_step (is_outside payload table i) (part_line i (slice_index table i))
    (part_lines payload table n (suc i))

-- the line `Contents:` and the parts' lines, unless their table has no end
abbrev pub contents : List ℕ → Outcome LegacyFault
contents payload =
    unless_refused (part_sizes payload)
    (λ table. after (line (codes "Contents:")) (part_lines payload table (length table) 0))

-- the lines of the first `count` parts of the data
abbrev pub lines_of : List ℕ → ℕ → Outcome LegacyFault
lines_of payload count = part_lines payload (sizes payload) count 0

-- the text after the six lines
abbrev pub tail_with : Bool → List ℕ → Outcome LegacyFault
tail_with true payload = contents payload
tail_with false payload = told [] done

-- the six lines of an image and the text after them; a refused image has no line
abbrev pub list_of : Naming → List ℕ → Outcome LegacyFault
list_of naming image =
    unless_refused (legacy image)
    (λ it. after (head_text naming it.header) (tail_with (has_parts it.header.kind) it.payload))
