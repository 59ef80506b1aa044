-- What a legacy image states: the fields of its header, and its parts.
use Rattle.std.specs.Prelude.{ℕ, ◌+◌, List, [], ◌∷◌, ◌++◌, codes, decimal, length, map, min}
use Rattle.std.specs.Borrow.{Bor}
use Rattle.uimg_base.specs.declared.spans.Span.{Span}
use Rattle.uimg_texts.specs.Nul.{text}
use Rattle.uimg_legacy.specs.declared.header.Header.{Header}
use Rattle.uimg_info.specs.{Statement.Stated, ValueTexts.text_inside}

-- a key and the span of its value
pub record Field : Type 0 where
  pub key : List ℕ
  pub value : Span

abbrev pub field : List ℕ → ℕ → ℕ → Field
field key place length = record { key = key; value = record { place = place; length = length } }

-- the same of the program
abbrev pub field_of : Bor (List ℕ) × Span → Field
field_of row = record { key = row.0.now; value = row.1 }

-- the fields of a header that say what the image is, by U-Boot's image.h; the name up to its NUL
abbrev pub fields : Header → List Field
fields h =
    field (codes "name") 32 (min 32 (length (text h.name) + 1))
    ∷ field (codes "time") 8 4
    ∷ field (codes "load") 16 4
    ∷ field (codes "entry") 20 4
    ∷ field (codes "os") 28 1
    ∷ field (codes "arch") 29 1
    ∷ field (codes "type") 30 1
    ∷ field (codes "compression") 31 1
    ∷ []

-- the parts, numbered from i on
abbrev pub part_key : ℕ → List ℕ
part_key i = codes "part " ++ decimal i

abbrev pub part_field : ℕ → Span → Field
part_field i part = record { key = part_key i; value = part }

unfoldable pub parts_from : ℕ → List Span → List Field
parts_from i [] = []
parts_from i (part ∷ parts) =
    part_field i part ∷ parts_from (i + 1) parts

abbrev pub field_stated : List ℕ → Field → Stated
field_stated file it = record { key = it.key; text = text_inside file it.value }

abbrev pub row_stated : List ℕ → Bor (List ℕ) × Span → Stated
row_stated file row = field_stated file (field_of row)

-- what an image with this header and these parts states
abbrev pub legacy_stated : List ℕ → Header → List Span → List Stated
legacy_stated file h parts = map (field_stated file) (fields h) ++ map (field_stated file) (parts_from 0 parts)
