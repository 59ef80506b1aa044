-- Texts in XML documents (Extensible Markup Language 1.0, fifth edition).
use Rattle.std.specs.Prelude.{◌≡◌, ℕ, ◌==◌, ◌||◌, nat_lt, List, [], ◌∷◌, ◌++◌, Bool, true, false, codes, chars, encode_utf8, if◌then◌else◌}
use Rattle.std.specs.List.{flat_map}
use Rattle.uimg_printing.specs.Printing.{byte_text}

-- whether a character cannot be in a document (section 2.2), or is one that an attribute would lose
-- (section 3.3.3): a tab or the end of a line
abbrev pub is_unheld : ℕ → Bool
is_unheld letter = nat_lt letter 32 || letter == 0xfffe || letter == 0xffff

-- a character without a meaning of its own, or its bytes as \xNN
unfoldable pub held : ℕ → List ℕ
held letter =
    if is_unheld letter then flat_map byte_text (encode_utf8 letter) else encode_utf8 letter

-- a character of a text; & < > " ' are entities (section 4.6)
unfoldable pub escaped_letter : ℕ → List ℕ
escaped_letter letter = if letter == 38 then codes "&amp;"
    else (if letter == 60 then codes "&lt;"
    else (if letter == 62 then codes "&gt;"
    else (if letter == 34 then codes "&quot;"
    else (if letter == 39 then codes "&apos;" else held letter))))

-- a text, in an attribute or between tags
unfoldable pub escaped : List ℕ → List ℕ
escaped text = flat_map escaped_letter (chars text)

-- whether a byte is none of & < > " '
abbrev pub is_plain : ℕ → Bool
is_plain byte = if byte == 38 then false
    else (if byte == 60 then false
    else (if byte == 62 then false
    else (if byte == 34 then false else (if byte == 39 then false else true))))

-- The names of entities that every document has.
pub data IsEntity : List ℕ → Type 0 where
  amp : {name : List ℕ} → name ≡ codes "amp" → IsEntity name
  lt : {name : List ℕ} → name ≡ codes "lt" → IsEntity name
  gt : {name : List ℕ} → name ≡ codes "gt" → IsEntity name
  quot : {name : List ℕ} → name ≡ codes "quot" → IsEntity name
  apos : {name : List ℕ} → name ≡ codes "apos" → IsEntity name

-- A text that begins and ends no tag and no attribute, and has only these entities.
pub data IsContent : List ℕ → Type 0 where
  none : {text : List ℕ} → text ≡ [] → IsContent text
  plain : {text : List ℕ} (byte : ℕ) (rest : List ℕ) → text ≡ byte ∷ rest → is_plain byte ≡ true → IsContent rest → IsContent text
  entity : {text : List ℕ} (name rest : List ℕ) → text ≡ 38 ∷ name ++ 59 ∷ rest → IsEntity name → IsContent rest → IsContent text
