-- The lines of a property's value, whose label is already padded.
use Rattle.std.specs.Prelude.{ℕ, min, List, [], ◌∷◌, ◌++◌, length, replicate, codes, Option}
use Rattle.std.specs.{List.flat_map, Option.option_map_or}
use Rattle.hex.specs.Hex.{encode_lower}
use Rattle.uimg_texts.specs.{Nul.text, Sizes.size_text, Times.time_text}
use Rattle.uimg_base.specs.Outcome.{line}
use Rattle.uimg_texts.specs.declared.field.Field.{Field, TheVariants.Compression}
use Rattle.uimg_texts.specs.{declared.naming.Naming.Naming, Naming.{name_text, unknown}}
use Rattle.uimg_fit_reading.specs.{declared.listing.shows.Show.Show, Values.{address_text, pieces}}
use Rattle.uimg_fit_reading.specs.declared.listing.shows.Show.TheVariants as show

-- the printed name of the code that a value's text names
abbrev pub name_in : Naming → Field → List ℕ → List ℕ
name_in naming field value = name_text naming field (text value)

-- a line for each text, the first with the label, the others with as many blanks
abbrev pub lines_of : List ℕ → List (List ℕ) → List ℕ
lines_of label [] = []
lines_of label (t ∷ ts) = line (label ++ t) ++ flat_map (λ more. line (replicate 16 32 ++ more)) ts

-- the lines of a value
unfoldable pub value_lines : Show → List ℕ → List ℕ → List ℕ
value_lines show.Text label value = line (label ++ text value)
value_lines (show.Name naming field) label value = line (label ++ name_in naming field value)
value_lines show.Address label value = line (label ++ address_text value)
value_lines show.Hexadecimal label value = line (label ++ encode_lower value)
value_lines show.List label value = lines_of label (pieces value)

-- the same for a value that may be missing, which then has no line
abbrev pub shown : Show → List ℕ → Option (List ℕ) → List ℕ
shown how label value = option_map_or (value_lines how label) value []

-- the name that is printed of a missing code: an image is compressed only if it says so
abbrev pub missing_name : Field → List ℕ
missing_name Compression = codes "uncompressed"
missing_name field = unknown field

-- what is printed of a value that is missing, but has a line
abbrev pub missing : Show → List ℕ
missing (show.Name naming field) = missing_name field
missing how = codes "unavailable"

-- the lines of a value that may be missing, and has a line then
abbrev pub wanted : Show → List ℕ → Option (List ℕ) → List ℕ
wanted how label value = option_map_or (value_lines how label) value (line (label ++ missing how))

-- the line of a time, if there is one
abbrev pub time_line : List ℕ → Option ℕ → List ℕ
time_line label time = option_map_or (λ t. line (label ++ time_text t)) time []

-- the line of a time, or that it is unavailable
abbrev pub moment_line : List ℕ → Option ℕ → List ℕ
moment_line label time = line (label ++ option_map_or time_text time (codes "unavailable"))

-- the line of a size, or that it is unavailable
abbrev pub size_line : List ℕ → Option ℕ → List ℕ
size_line label size = line (label ++ option_map_or size_text size (codes "unavailable"))

-- the most bytes requested of a value
abbrev pub value_cost : Show → ℕ → ℕ
value_cost show.Text n = n
value_cost (show.Name naming field) n = min 32 n
value_cost show.Address n = min 8 n
value_cost show.Hexadecimal n = n
value_cost show.List n = n

-- the same for a value that may be missing
abbrev pub show_weight : Show → Option (List ℕ) → ℕ
show_weight how value = option_map_or (λ v. value_cost how (length v)) value 0

-- the most bytes requested of a text that may be missing
abbrev pub text_weight : Option (List ℕ) → ℕ
text_weight = show_weight show.Text
