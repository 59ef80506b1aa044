-- The lines of a list of texts, byte by byte.
use Rattle.std.specs.Prelude.{◌≤◌, ◌<◌, ◌+◌, ℕ, zero, suc, List, [], ◌∷◌, ◌++◌, length, replicate}
use Rattle.uimg_texts.specs.Nul.{text}
use Rattle.uimg_fit_reading.specs.declared.listing.lists.Line.{Line}
use Rattle.uimg_fit_reading.specs.declared.listing.lists.Line.TheVariants.{First, Next, Open}

-- what is written before the next byte
abbrev pub start_of : List ℕ → Line → List ℕ
start_of label First = label
start_of label Next = replicate 16 32
start_of label Open = []

-- the text of bytes: a NUL ends its line
unfoldable pub emitted : List ℕ → Line → List ℕ → List ℕ
emitted label line [] = []
emitted label line (zero ∷ bytes) = start_of label line ++ 10 ∷ emitted label Next bytes
emitted label line (suc b ∷ bytes) = start_of label line ++ suc b ∷ emitted label Open bytes

-- where the byte after some bytes is on its line
unfoldable pub line_after : Line → List ℕ → Line
line_after line [] = line
line_after line (zero ∷ bytes) = line_after Next bytes
line_after line (suc b ∷ bytes) = line_after Open bytes

-- the end of the last line, if no NUL ended it
abbrev pub end_of_line : Line → List ℕ
end_of_line First = []
end_of_line Next = []
end_of_line Open = 10 ∷ []

-- Bytes without a NUL, except perhaps the last one.
pub record IsPiece (bytes : List ℕ) : Type 0 where
  pub some : 0 < length bytes
  pub one : length bytes ≤ length (text bytes) + 1
