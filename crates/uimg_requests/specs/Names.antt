-- The file names in the word of -d.
use Rattle.std.specs.{Prelude.{ℕ, List, [], ◌∷◌, ◌==◌, if◌then◌else◌}, List.slice_split}
use Rattle.uimg_legacy.specs.Parts.{has_parts}

-- the texts between the colons of a word, before the first and after the last
abbrev pub between_colons : List ℕ → List (List ℕ)
between_colons word = slice_split (λ byte. byte == 58) word

-- several names for an image type with parts, else the word itself
abbrev pub part_names : ℕ → List ℕ → List (List ℕ)
part_names kind word = if has_parts kind then between_colons word else word ∷ []
