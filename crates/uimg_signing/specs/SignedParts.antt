-- The signed part of a tree: its nodes and properties that a signature covers, in order, without
-- their offsets; and the signed properties by their paths.
use Rattle.std.specs.Prelude.{◌≡◌, ℕ, ◌+◌, ◌<◌, List, [], ◌∷◌, ◌++◌, length, drop, Ok, Bool, true, ◌||◌, if◌then◌else◌}
use Rattle.std.specs.Prelude.{flat_map, ⊤}
use Rattle.std.specs.List.{AllByRecursion}
use Rattle.uimg_texts.specs.Numbers.{be32}
use Rattle.uimg_blob_reading.specs.{Tokens.{Token, begin_node, end_node, prop, nop, last}, Blob.met}
use Rattle.uimg_blob_reading.specs.Grammar.{Siblings, none, node}
use Rattle.uimg_signing.specs.{Covering.{Placed, in_nodes, after, innermost, covers}, Paths.Path}

-- A token without its offset: a node's name, its end, a property's name and value, FDT_NOP, FDT_END.
pub data Part : Type 0 where
  begins_node : List ℕ → Part
  ends_node : Part
  says : List ℕ → List ℕ → Part
  skips : Part
  closes : Part

-- a token as a part; a faulty one is none
abbrev pub part_of : Token → List Part
part_of (begin_node at (Ok name)) = begins_node name ∷ []
part_of (end_node at) = ends_node ∷ []
part_of (prop at (Ok p)) = says p.name p.value ∷ []
part_of (nop at) = skips ∷ []
part_of (last at) = closes ∷ []
part_of _ = []

-- what is signed of a token, as a part
abbrev pub signed_part : (ℕ → Bool) → Placed → List Part
signed_part listed p = if covers listed p.nodes p.token then part_of p.token else []

-- the signed parts of tokens, with these nodes open before them
abbrev pub parts : (ℕ → Bool) → List ℕ → List Token → List Part
parts listed nodes ts = flat_map (signed_part listed) (in_nodes nodes ts)

-- The name of a property lies, with its NUL, in the first `strings` bytes of the strings block.
abbrev pub NameSigned : List ℕ → ℕ → Token → Type 0
NameSigned file strings (prop at (Ok p)) = be32 file (at + 8) + length p.name < strings
NameSigned file strings _ = ⊤

-- Those of all covered properties do.
abbrev pub NamesSigned : (ℕ → Bool) → List ℕ → ℕ → Type 0
NamesSigned listed file strings =
    AllByRecursion (λ p. covers listed p.nodes p.token ≡ true → NameSigned file strings p.token)
    (in_nodes [] (met file))

-- A signed property: the path of its node, its name and its value.
pub record SignedProperty : Type 0 where
  pub path : Path
  pub name : List ℕ
  pub value : List ℕ

-- the names of the open nodes after a token, signed or not
abbrev pub path_after : Path → Token → Path
path_after path (begin_node at (Ok name)) = name ∷ path
path_after path (end_node at) = drop 1 path
path_after path _ = path

-- the property of a token, if it is signed
abbrev pub property_in : (ℕ → Bool) → List ℕ → Path → Token → List SignedProperty
property_in listed nodes path (prop at (Ok p)) =
    if covers listed nodes (prop at (Ok p))
    then record { path = path; name = p.name; value = p.value } ∷ [] else []
property_in listed nodes path _ = []

-- the signed properties of tokens, with these nodes open before them
unfoldable pub properties_in : (ℕ → Bool) → List ℕ → Path → List Token → List SignedProperty
properties_in listed nodes path [] = []
properties_in listed nodes path (t ∷ ts) =
    property_in listed nodes path t ++ properties_in listed (after nodes t) (path_after path t) ts

-- those of a file, in order
abbrev pub signed_properties : (ℕ → Bool) → List ℕ → List SignedProperty
signed_properties listed file = properties_in listed [] [] (met file)

-- Each of these nodes is listed, or the one around it is: the names of all are signed.
abbrev pub SignsPath : (ℕ → Bool) → List ℕ → Type 0
SignsPath listed [] = ⊤
SignsPath listed (a ∷ nodes) = ((listed a || innermost listed nodes) ≡ true) × SignsPath listed nodes

-- Of siblings in these nodes, and all below them, the path of each that is listed is signed.
abbrev pub SignsPaths : (ℕ → Bool) → List ℕ → Siblings → Type 0
SignsPaths listed nodes none = ⊤
SignsPaths listed nodes (node at name own below after) =
    (listed at ≡ true → SignsPath listed (at ∷ nodes)) × SignsPaths listed (at ∷ nodes) below
    × SignsPaths listed nodes after
