-- The names of codes and the codes of names, in one of two sets of names.
use Rattle.std.specs.{Prelude.{ℕ, List, Bool, true, Option, codes, find, ◌==◌, ◌&&◌}}
use Rattle.std.specs.{Option.{option_map, option_map_or}, Str.{bytes_eq, str_eq_ignore_ascii_case}}
use Rattle.uimg_texts.specs.declared.field.Field.{Field, TheVariants.{Architecture, System, Kind}}
use Rattle.uimg_texts.specs.declared.{field.Field.TheVariants.Compression, naming.Naming.Naming}
use Rattle.uimg_texts.specs.declared.naming.Naming.TheVariants.{Profile, All}
use Rattle.uimg_texts.specs.Names.{NameRow, architectures, systems, types, compressions}

-- all names of image.h
abbrev pub rows : Field → List NameRow
rows Architecture = architectures
rows System = systems
rows Kind = types
rows Compression = compressions

-- the text printed for an unknown code or name
abbrev pub unknown : Field → List ℕ
unknown Architecture = codes "Unknown Architecture"
unknown System = codes "Unknown OS"
unknown Kind = codes "Unknown Image"
unknown Compression = codes "Unknown Compression"

-- a set of names has the row
abbrev pub has : Naming → NameRow → Bool
has Profile row = row.is_profile
has All row = true

-- the row has this name; case matters in the profile only
abbrev pub is_named : Naming → List ℕ → NameRow → Bool
is_named Profile name row = row.is_profile && bytes_eq name row.short
is_named All name row = str_eq_ignore_ascii_case row.short name

-- the printed name in the first row of this code
abbrev pub printed_in : Naming → List ℕ → List NameRow → ℕ → List ℕ
printed_in naming unknown table code =
    option_map_or (λ r. r.printed) (find (λ r. has naming r && code == r.code) table) unknown

-- the code in the first row of this name
abbrev pub code_in : Naming → List NameRow → List ℕ → Option ℕ
code_in naming table name = option_map (λ r. r.code) (find (is_named naming name) table)

-- the printed name of a code
unfoldable pub code_text : Naming → Field → ℕ → List ℕ
code_text naming field code = printed_in naming (unknown field) (rows field) code

-- the code of a name
abbrev pub code_named : Naming → Field → List ℕ → Option ℕ
code_named naming field name = code_in naming (rows field) name

-- the printed name of the code of a name
unfoldable pub name_text : Naming → Field → List ℕ → List ℕ
name_text naming field name =
    option_map_or (code_text naming field) (code_named naming field name) (unknown field)
