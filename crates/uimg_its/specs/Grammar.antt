-- The grammar of image-tree source (Devicetree Specification, chapter 6, in this profile).
use Rattle.std.specs.Prelude.{◌≡◌, ℕ, zero, suc, ◌≤◌, List, [], ◌∷◌, ◌++◌, length, Some, ⊤, codes}
use Rattle.uimg_blob_reading.specs.Plain.{Named, Nodes, no_node, a_node}
use Rattle.uimg_its.specs.declared.tokens.Mark.TheVariants.{Slash, Comma, BraceOpen, BraceClose}
use Rattle.uimg_its.specs.declared.tokens.Mark.TheVariants.{Semicolon, Equals, Less, Greater}
use Rattle.uimg_its.specs.declared.tokens.Mark.TheVariants.{ParenOpen, ParenClose, BracketOpen}
use Rattle.uimg_its.specs.{declared.tokens.Mark.TheVariants.{BracketClose, Colon}, Parts.FileBytes}
use Rattle.uimg_its.specs.declared.lists.Listed.{Listed, TheVariants.{Cells, Bytes}}
use Rattle.uimg_its.specs.{Words.{Word, name, directive, text, mark}, Cells.element}

-- Labels: name words, each followed by a colon.
abbrev pub AreLabels : List Word → Type 0
AreLabels [] = ⊤
AreLabels (name n ∷ mark Colon ∷ ws) = AreLabels ws
AreLabels ws = ⊥

-- Labels, then a name of at most 255 bytes.
pub record Names (ws : List Word) (n : List ℕ) : Type 0 where
  pub labels : List Word
  pub are_labels : AreLabels labels
  pub short : length n ≤ 255
  pub whole : ws ≡ labels ++ name n ∷ []

-- Cells or bytes, each a name word, and their bytes in order.
abbrev pub AreElements : Listed → List Word → List ℕ → Type 0
AreElements l [] v = v ≡ []
AreElements l (name n ∷ ws) v =
    (first others : List ℕ) × (element l n ≡ Some first) × AreElements l ws others
    × (v ≡ first ++ others)
AreElements l ws v = ⊥

-- A value: < cells >, [ bytes ], a string and a NUL, or the bytes of the file in /incbin/ ( string
-- ).
pub data IsValue (files : FileBytes) (ws : List Word) (v : List ℕ) : Type 0 where
  cells : (inner : List Word) → AreElements Cells inner v
      → ws ≡ mark Less ∷ (inner ++ mark Greater ∷ []) → IsValue files ws v
  bytes : (inner : List Word) → AreElements Bytes inner v
      → ws ≡ mark BracketOpen ∷ (inner ++ mark BracketClose ∷ []) → IsValue files ws v
  string : (s : List ℕ) → ws ≡ text s ∷ [] → v ≡ s ++ 0 ∷ [] → IsValue files ws v
  incbin : (n : List ℕ) → files n ≡ Some v
      → ws ≡ directive (codes "incbin") ∷ mark ParenOpen ∷ text n ∷ mark ParenClose ∷ []
      → IsValue files ws v

-- Values separated by commas, appended in order.
pub data AreValues (files : FileBytes) : List Word → List ℕ → Type 0 where
  one : {ws : List Word} {v : List ℕ} → IsValue files ws v → AreValues files ws v
  more : {ws first rest : List Word} {v u w : List ℕ} → IsValue files first u
      → AreValues files rest w
      → ws ≡ first ++ mark Comma ∷ rest → v ≡ u ++ w → AreValues files ws v

-- A property: labels, name ; or labels, name = values ;
pub data IsProperty (files : FileBytes) (ws : List Word) (p : Named) : Type 0 where
  empty : (head : List Word) → Names head p.name → p.value ≡ [] → ws ≡ head ++ mark Semicolon ∷ []
      → IsProperty files ws p
  assigned : (head values : List Word) → Names head p.name → AreValues files values p.value
      → ws ≡ head ++ mark Equals ∷ (values ++ mark Semicolon ∷ []) → IsProperty files ws p

abbrev pub AreProperties : FileBytes → List Word → List Named → Type 0
AreProperties files ws [] = ws ≡ []
AreProperties files ws (p ∷ ps) =
    (first rest : List Word) × IsProperty files first p × AreProperties files rest ps
    × (ws ≡ first ++ rest)

-- A body, { properties children }, before further words.
abbrev pub body : List Word → List Word → List Word → List Word
body own children after = mark BraceOpen ∷ (own ++ (children ++ mark BraceClose ∷ after))

-- Nodes of at most this many levels, in order: each is labels, name, body ;
abbrev pub AreNodes : FileBytes → ℕ → List Word → Nodes → Type 0
AreNodes files levels ws no_node = ws ≡ []
AreNodes files zero ws (a_node n props below after) = ⊥
AreNodes files (suc levels) ws (a_node n props below after) =
    (head own children rest : List Word) × Names head n × AreProperties files own props
    × AreNodes files levels children below × AreNodes files (suc levels) rest after
    × (ws ≡ head ++ body own children (mark Semicolon ∷ rest))

-- The words of a source spell a tree: /dts-v1/ ; / body ; where the body is that of the root, which
-- has no name and is at the first of 64 levels.
pub record Spells (words : List Word) (files : FileBytes) (t : Nodes) : Type 0 where
  pub props : List Named
  pub children : Nodes
  pub own : List Word
  pub below : List Word
  pub are_properties : AreProperties files own props
  pub are_children : AreNodes files 63 below children
  pub whole : words ≡ directive (codes "dts-v1") ∷ mark Semicolon ∷ mark Slash ∷ body own below
      (mark Semicolon ∷ [])
  pub root : t ≡ a_node [] props children no_node
