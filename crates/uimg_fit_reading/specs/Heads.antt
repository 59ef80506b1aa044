-- The head lines of a listing, and the line of the default configuration.
use Rattle.std.specs.{Prelude.{ℕ, List, [], ◌++◌, Option, codes}, Option.option_map_or}
use Rattle.uimg_base.specs.{Outcome.line, declared.spans.Span.Span}
use Rattle.uimg_texts.specs.Nul.{text}
use Rattle.uimg_fit_reading.specs.Shows.{moment_line}

-- the length of a span, or 0 if it is missing
abbrev pub span_size : Option Span → ℕ
span_size value = option_map_or (λ s. s.length) value 0

abbrev pub description_line : Option (List ℕ) → List ℕ
description_line value =
    line (codes "FIT description: " ++ option_map_or text value (codes "unavailable"))

abbrev pub created_line : Option ℕ → List ℕ
created_line = moment_line (codes "Created:         ")

abbrev pub default_line : Option (List ℕ) → List ℕ
default_line value =
    option_map_or (λ v. line (codes " Default Configuration: '" ++ (text v ++ codes "'"))) value []
