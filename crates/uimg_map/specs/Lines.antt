-- A map as lines of text.
use Rattle.std.specs.Prelude.{◌≡◌, ℕ, ◌-◌, ◌^◌, List, [], ◌∷◌, ◌++◌, map, codes, decimal, false}
use Rattle.std.specs.Prelude.{Bool, true}
use Rattle.std.specs.{Prelude.Option, Fmt.{digits, format_spec, padded_integral}, Io.KnownBytes.Appends, List.range_with_len}
use Rattle.uimg_map.specs.{Bars.is_filled, Cover.{place_of, row_end}, Labels.Tells}
use Rattle.uimg_map.specs.declared.{map.Map.Map, row.Row.Row}

-- an offset, as `{:08x}` prints it: in eight hexadecimal digits or more
abbrev pub offset_text : ℕ → List ℕ
offset_text n = padded_integral (format_spec 32 0 4 8 (2 ^ 64 - 1)) false [] (digits 16 false n)

-- a size, as `{:>9}` prints it: in decimal digits, at the right of nine columns
abbrev pub size_text : ℕ → List ℕ
size_text n = padded_integral (format_spec 32 3 0 9 (2 ^ 64 - 1)) false [] (decimal n)

-- where a row begins and ends, and its size
unfoldable pub place_text : Row → List ℕ
place_text row =
    offset_text (place_of row) ++ codes "-" ++ offset_text (row_end row) ++ codes " "
    ++ size_text (row_end row - place_of row) ++ codes " "

-- a cell: filled or not
abbrev pub glyph_of : Bool → ℕ
glyph_of true = 35
glyph_of false = 46

-- a cell of a row's bar, in a file of `size` bytes
abbrev pub cell_glyph : ℕ → Row → ℕ → ℕ
cell_glyph size row cell = glyph_of (is_filled 32 size (place_of row) (row_end row) cell)

-- the bar of a row, of 32 cells
unfoldable pub bar_text : ℕ → Row → List ℕ
bar_text size row = map (cell_glyph size row) (range_with_len 0 32)

-- the line of a row with this text
abbrev pub line_text : ℕ → Row → List ℕ → List ℕ
line_text size row text = place_text row ++ bar_text size row ++ codes " " ++ text ++ codes "\n"

-- the lines of rows, each with its text
abbrev pub Lines : List ℕ → Map → List Row → List ℕ → Type 0
Lines file map [] lines = lines ≡ []
Lines file map (row ∷ rows) lines =
    (text : List ℕ) × (others : List ℕ) × Tells file map row text × Lines file map rows others
    × (lines ≡ line_text map.size row text ++ others)

-- the lines were appended
pub record PutsLines (file : List ℕ) (map : Map) (rows : List Row)
    (old new : Option (List ℕ)) : Type 0 where
  pub text : List ℕ
  pub lines : Lines file map rows text
  pub appended : Appends old new text
