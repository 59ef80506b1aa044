-- Reading of words from left to right, as in the code. Proofs join it with `Grammar`.
use Rattle.std.specs.Prelude.{ℕ, zero, suc, Bool, true, false, List, [], ◌∷◌, ◌++◌, length, Option}
use Rattle.std.specs.{Prelude.{Some, None, nat_lt, if◌then◌else◌, codes}, Str.bytes_eq}
use Rattle.uimg_blob_reading.specs.Plain.{Named}
use Rattle.uimg_its.specs.declared.tokens.Mark.{Mark, TheVariants.{BracketClose, Colon}}
use Rattle.uimg_its.specs.declared.tokens.Mark.TheVariants.{Slash, Comma, BraceOpen, BraceClose}
use Rattle.uimg_its.specs.declared.tokens.Mark.TheVariants.{Semicolon, Equals, Less, Greater}
use Rattle.uimg_its.specs.declared.tokens.Mark.TheVariants.{ParenOpen, ParenClose, BracketOpen}
use Rattle.uimg_its.specs.declared.lists.Listed.{Listed, TheVariants.{Cells, Bytes}}
use Rattle.uimg_its.specs.{Words.{Word, name, directive, text, mark, stray}, Options.◌>>=◌}
use Rattle.uimg_its.specs.{Steps.{Parses, Step, Steps, all}, Cells.element}
use Rattle.uimg_its.specs.Parts.{FileBytes, NodeParts, chain}

-- the next word, which must exist
abbrev pub take_word : Parses Word
take_word [] = None
take_word (stray ∷ ws) = None
take_word (w ∷ ws) = Some (w, ws)

-- whether a word is this mark
abbrev pub is_mark : Mark → Word → Bool
is_mark Slash (mark Slash) = true
is_mark BraceOpen (mark BraceOpen) = true
is_mark BraceClose (mark BraceClose) = true
is_mark Semicolon (mark Semicolon) = true
is_mark ParenOpen (mark ParenOpen) = true
is_mark ParenClose (mark ParenClose) = true
is_mark m w = false

-- the words after a mark that must come next
abbrev pub expect : Mark → List Word → Option (List Word)
expect m ws = do
  w ← take_word ws
  if is_mark m w.0 then Some w.1 else None

-- the bytes of a string
abbrev pub string_in : Word → Option (List ℕ)
string_in (text s) = Some s
string_in w = None

abbrev pub string : Parses (List ℕ)
string ws = do
  w ← take_word ws
  s ← string_in w.0
  Some (s, w.1)

-- An item of a body: a property without or with a value, a child, or the end of the body.
pub data Item : Type 0 where
  empty : List ℕ → Item
  assigned : List ℕ → Item
  opens : List ℕ → Item
  closes : Item

-- the item of a name, from the word after it
abbrev pub item_of : List ℕ → Word → Option Item
item_of n (mark Semicolon) = Some (empty n)
item_of n (mark Equals) = Some (assigned n)
item_of n (mark BraceOpen) = Some (opens n)
item_of n w = None

-- the name of a name word
abbrev pub word_name : Word → Option (List ℕ)
word_name (name n) = Some n
word_name w = None

-- A name before a colon is a label. Otherwise it names an item and has at most 255 bytes.
abbrev pub item_after : List ℕ → Word → Option (Option Item)
item_after n (mark Colon) = Some None
item_after n w = if nat_lt 255 (length n) then None else (item_of n w >>= λ i. Some (Some i))

unfoldable pub label_first : List Word → Option (Option Item × List Word)
label_first ws = do
  first ← take_word ws
  n ← word_name first.0
  second ← take_word first.1
  i ← item_after n second.0
  Some (i, second.1)

-- an item after any number of labels, which have no effect
unfoldable pub unlabelled : Parses Item
unlabelled (name n ∷ mark Colon ∷ ws) = unlabelled ws
unlabelled (name n ∷ w ∷ ws) =
    label_first (name n ∷ w ∷ ws)
    >>= λ x. elim x.0 as (λ _. Option (Item × List Word))
    [ None ↦ None | Some i ↦ Some (i, x.1) ]
unlabelled ws = None

-- an item of a body, or its end
unfoldable pub item : Parses Item
item ws = do
  w ← take_word ws
  if is_mark BraceClose w.0 then Some (closes, w.1) else unlabelled ws

-- the name of an element, or the end of a list
abbrev pub element_word : Listed → Word → Option (Option (List ℕ))
element_word Cells (mark Greater) = Some None
element_word Bytes (mark BracketClose) = Some None
element_word l (name n) = Some (Some n)
element_word l w = None

-- a cell or bytes of a list, or its end
unfoldable pub element_step : Listed → Steps ℕ
element_step l ws = do
  w ← take_word ws
  e ← element_word l w.0
  elim e as (λ _. Step ℕ)
      [ None ↦ Some (true, [], w.1) | Some n ↦ element l n >>= λ b. Some (false, b, w.1) ]

-- cells up to >, bytes up to ]
abbrev pub list_items : Listed → Parses (List ℕ)
list_items l = all (element_step l)

-- the bytes of a file whose name is in parentheses
unfoldable pub file : FileBytes → Parses (List ℕ)
file files ws = do
  after ← expect ParenOpen ws
  n ← string after
  rest ← expect ParenClose n.1
  b ← files n.0
  Some (b, rest)

-- < cells >, a string and its NUL, [ bytes ], or /incbin/ and a file
unfoldable pub spelled_value : FileBytes → Word → Parses (List ℕ)
spelled_value files (mark Less) ws = list_items Cells ws
spelled_value files (text s) ws = Some (s ++ 0 ∷ [], ws)
spelled_value files (mark BracketOpen) ws = list_items Bytes ws
spelled_value files (directive d) ws = if bytes_eq d (codes "incbin") then file files ws else None
spelled_value files w ws = None

unfoldable pub value : FileBytes → Parses (List ℕ)
value files ws = do
  w ← take_word ws
  spelled_value files w.0 w.1

-- whether a value is the last, from the word after it
abbrev pub is_last_value : Word → Option Bool
is_last_value (mark Comma) = Some false
is_last_value (mark Semicolon) = Some true
is_last_value w = None

unfoldable pub value_step : FileBytes → Steps ℕ
value_step files ws = do
  v ← value files ws
  w ← take_word v.1
  last ← is_last_value w.0
  Some (last, v.0, w.1)

-- values separated by commas, up to the semicolon
abbrev pub values : FileBytes → Parses (List ℕ)
values files = all (value_step files)

abbrev pub named_property : FileBytes → List Word → Item → List Word → Step Named
named_property files ws (empty n) after = Some (false, record { name = n; value = [] } ∷ [], after)
named_property files ws (assigned n) after =
    values files after >>= λ v. Some (false, record { name = n; value = v.0 } ∷ [], v.1)
named_property files ws (opens n) after = Some (true, [], ws)
named_property files ws closes after = Some (true, [], ws)

unfoldable pub property_step : FileBytes → Steps Named
property_step files ws = do
  it ← item ws
  named_property files ws it.0 it.1

-- all properties that come next
abbrev pub properties : FileBytes → Parses (List Named)
properties files = all (property_step files)

-- a node after its opening brace: properties, and children up to its closing brace
unfoldable pub inside : FileBytes → Parses (List NodeParts) → List ℕ → Parses NodeParts
inside files children n ws = do
  own ← properties files ws
  below ← children own.1
  Some (record { name = n; props = own.0; children = chain below.0 }, below.1)

-- a child and its semicolon, or the end of the body
abbrev pub child_named : (List ℕ → Parses NodeParts) → Item → List Word → Step NodeParts
child_named node (opens n) after = do
  t ← node n after
  rest ← expect Semicolon t.1
  Some (false, t.0 ∷ [], rest)
child_named node closes after = Some (true, [], after)
child_named node i after = None

unfoldable pub child_step : (List ℕ → Parses NodeParts) → Steps NodeParts
child_step node ws = do
  it ← item ws
  child_named node it.0 it.1

-- a node with at most this many levels, its own included
unfoldable pub node_within : ℕ → FileBytes → List ℕ → Parses NodeParts
node_within zero files n ws = None
node_within (suc levels) files n ws =
    inside files (all (child_step (node_within levels files))) n ws

-- the children of a node, up to its closing brace
abbrev pub children : ℕ → FileBytes → Parses (List NodeParts)
children levels files = all (child_step (node_within levels files))

-- the directive that begins a source
abbrev pub is_version : Word → Bool
is_version (directive d) = bytes_eq d (codes "dts-v1")
is_version w = false

abbrev pub version : List Word → Option (List Word)
version ws = do
  w ← take_word ws
  if is_version w.0 then Some w.1 else None

-- what was read, if no word is left
abbrev pub alone : NodeParts → List Word → Option NodeParts
alone t [] = Some t
alone t (w ∷ ws) = None

-- /dts-v1/ ; / { a body of at most 64 levels } ;
unfoldable pub source : FileBytes → List Word → Option NodeParts
source files ws = do
  first ← version ws
  second ← expect Semicolon first
  slash ← expect Slash second
  opened ← expect BraceOpen slash
  t ← node_within 64 files [] opened
  rest ← expect Semicolon t.1
  alone t.0 rest

-- whether a word is the directive /incbin/
abbrev pub is_incbin : Word → Bool
is_incbin (directive d) = bytes_eq d (codes "incbin")
is_incbin w = false

-- the name of a file that is the whole value of a property
unfoldable pub lone_file : Parses (List ℕ)
lone_file ws = do
  w ← take_word ws
  opened ← (if is_incbin w.0 then Some w.1 else None)
  inner ← expect ParenOpen opened
  n ← string inner
  closed ← expect ParenClose n.1
  rest ← expect Semicolon closed
  Some (n.0, rest)
