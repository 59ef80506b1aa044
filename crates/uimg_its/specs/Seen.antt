-- How the specification sees what the code finds.
use Rattle.std.specs.Prelude.{◌≡◌, ℕ, ◌≤◌, List, [], ◌∷◌, Option, Some, None, Result, Ok, Err}
use Rattle.std.specs.Borrow.{Bor}
use Rattle.uimg_its.specs.declared.{tokens.{Word.Word as Found, Token.Token}, stop.Stop.Stop}
use Rattle.uimg_its.specs.declared.{pieces.Piece.Piece as FoundPiece, items.Item.Item as FoundItem}
use Rattle.uimg_its.specs.{Reader.{Item, empty, assigned, opens, closes}, Strings.string_bytes}
use Rattle.uimg_its.specs.Words.{Word, name, directive, text, mark, stray, Piece, gap, word, words}
use Rattle.uimg_its.specs.declared.tokens.Word.TheVariants as found
use Rattle.uimg_its.specs.declared.pieces.Piece.TheVariants as found_piece
use Rattle.uimg_its.specs.declared.items.Item.TheVariants as found_item

-- a word from its bytes
abbrev pub seen_word : Found → Word
seen_word (found.Name bytes) = name bytes.now
seen_word (found.Directive bytes) = directive bytes.now
seen_word (found.Text bytes) = text (string_bytes 0 bytes.now)
seen_word (found.Mark m) = mark m

-- the found piece is this piece, and its length is within the text
abbrev pub IsFoundPiece : FoundPiece → Piece → ℕ → Type 0
IsFoundPiece (found_piece.Gap n) p most = (p ≡ gap n) × (n ≤ most)
IsFoundPiece (found_piece.Word w n) p most = (p ≡ word (seen_word w) n) × (n ≤ most)
IsFoundPiece found_piece.Stray p most = p ≡ word stray 0

-- the first word of a text with the words after it, no word, or a start that is not a word
abbrev pub Sees : Result (Option (Token × Bor (List ℕ))) Stop → List Word → Type 0
Sees (Ok None) ws = ws ≡ []
Sees (Ok (Some x)) ws = ws ≡ seen_word x.0.word ∷ words x.1.now
Sees (Err stop) ws = (rest : List Word) × (ws ≡ stray ∷ rest)

-- an item from the bytes of its name
abbrev pub item_is : FoundItem → Item
item_is (found_item.Empty n) = empty n.now
item_is (found_item.Assigned n) = assigned n.now
item_is (found_item.Opens n) = opens n.now
item_is found_item.Closes = closes
