-- Image-tree source, as the calls of libfdt's sequential writes that make its tree.
use Rattle.std.specs.Prelude.{ℕ, ◌==◌, ◌||◌, ◌++◌, List, [], ◌∷◌, nat_lt, codes, if◌then◌else◌}
use Rattle.std.specs.{Fmt.decimal, List.flat_map}
use Rattle.uimg_printing.specs.Printing.{digits_of}
use Rattle.uimg_compat.specs.Getopt.{Text}
use Rattle.uimg_compat.specs.declared.image_tree.Item as code
use Rattle.uimg_compat.specs.declared.image_tree.Item.TheVariants as part

-- the value of a property: any text, a name without a quote, a number of 32 bits, or the bytes of
-- the file at a path
pub data Value : Type 0 where
  string : Text → Value
  label : Text → Value
  cell : ℕ → Value
  file : Text → Value

-- fdt_begin_node, fdt_end_node and fdt_property
pub data Item : Type 0 where
  begins : Text → Item
  ends : Item
  has : Text → Value → Item

-- A byte of a text, as \xNN if it is no printable ASCII character, a quote or a backslash.
abbrev pub escaped_byte : ℕ → Text
escaped_byte byte = if nat_lt byte 32 || nat_lt 126 byte || byte == 34 || byte == 92
    then codes "\\x" ++ digits_of byte else byte ∷ []

unfoldable pub escaped : Text → Text
escaped text = flat_map escaped_byte text

abbrev pub quoted : Text → Text
quoted text = codes "\"" ++ escaped text ++ codes "\""

abbrev pub value_text : Value → Text
value_text (string it) = quoted it
value_text (label it) = codes "\"" ++ it ++ codes "\""
value_text (cell number) = codes "<" ++ decimal number ++ codes ">"
value_text (file path) = codes "/incbin/(" ++ quoted path ++ codes ")"

unfoldable pub item_text : Item → Text
item_text (begins name) = name ++ codes " {\n"
item_text ends = codes "};\n"
item_text (has name value) = name ++ codes " = " ++ value_text value ++ codes ";\n"

-- a name with a number: fdt-1
abbrev pub numbered : Text → ℕ → Text
numbered stem number = stem ++ codes "-" ++ decimal number

-- the description of the whole image
unfoldable pub title : Text → Text
title kind = kind ++ codes " image with one or more FDT blobs"

unfoldable pub source_text : List Item → Text
source_text items = flat_map item_text items

-- the plain values of what code writes
abbrev pub item_of : code.Item → Item
item_of (part.Begins name) = begins name.now
item_of (part.BeginsNumbered stem number) = begins (numbered stem.now number)
item_of part.Ends = ends
item_of (part.Name key name) = has key.now (label name.now)
item_of (part.Numbered key stem number) = has key.now (label (numbered stem.now number))
item_of (part.Title key kind) = has key.now (label (title kind.now))
item_of (part.Text key it) = has key.now (string it.now)
item_of (part.Cell key number) = has key.now (cell number)
item_of (part.File key path) = has key.now (file path.now)
