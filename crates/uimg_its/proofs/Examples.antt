-- The words of short texts, and the tree of the case mixed-values, by computing.
use Rattle.std.{proofs.Common.{◌≡◌, [], ◌∷◌, Some, None, refl}, specs.Prelude.codes}
use Rattle.uimg_its.specs.{declared.tokens.Mark.TheVariants.{Slash, Comma}, Digits.number_in_base}
use Rattle.uimg_its.specs.{Strings.{escape, unit, string_end, string_bytes}, Cells.number_of_cell}
use Rattle.uimg_its.specs.Words.{name, directive, text, mark, stray, comment, piece, words_from, words}

-- a name word with commas, a lone comma, a directive, a slash, a comment and a string with escapes
words_of_pieces : words (codes "a,b , /incbin/ /c /* d */ \"\\x41\\n\" ~") ≡ name (codes "a,b") ∷ mark Comma ∷ directive (codes "incbin") ∷ mark Slash ∷ name (codes "c") ∷ text (65 ∷ 10 ∷ []) ∷ stray ∷ []
unfolding number_in_base escape unit string_end string_bytes comment piece words_from
words_of_pieces = refl

cells : (number_of_cell (codes "010") ≡ Some 8) × (number_of_cell (codes "08") ≡ None) × (number_of_cell (codes "0x1F") ≡ Some 31) × (number_of_cell (codes "4294967295") ≡ Some 4294967295) × (number_of_cell (codes "4294967296") ≡ None)
unfolding number_in_base number_of_cell
cells = (refl, refl, refl, refl, refl)
