-- The keys of a control devicetree (U-Boot, doc/uImage.FIT/signature.rst, "Public Key Storage").
use Rattle.std.specs.Prelude.{◌≡◌, ℕ, zero, suc, ◌+◌, ◌*◌, ◌^◌, ◌<◌, ◌≤◌, ◌==◌, List, [], ◌∷◌, ◌++◌, length, map, flat_map, Option, Some, None, Result, Ok, Err, codes}
use Rattle.std.specs.Prelude.{Bool, true, false, if◌then◌else◌, ◌&&◌, ◌||◌, ◌-◌, ◌/◌, ◌%◌, nat_le}
use Rattle.std.specs.{List.{All, list_any, slice_get, starts_with}, Option.option_map, Str.bytes_eq}
use Rattle.uimg_base.specs.declared.spans.Span.{Span}
use Rattle.uimg_texts.specs.{Numbers.be32, Slices.slice}
use Rattle.uimg_blob_reading.specs.{Blob.tree, Grammar.Siblings, Indexed.IsIndexed, LookUps.first, Plain.NamedOf, Properties.places_of, Reading.Fault, Rows.{Row, table}}
use Rattle.uimg_blob_reading.specs.declared.nodes.Blob.{Blob}
use Rattle.uimg_keys.specs.declared.{key.PublicKey.PublicKey, keys.Keys.Keys}
use Rattle.uimg_keys.specs.Names.{joined, key_name}
use Rattle.uimg_rsa.specs.RSquared.{is_r_squared}
use Rattle.uimg_signing.specs.{Signatures.rsa_algo, declared.signature.RsaAlgo.RsaAlgo}

-- A blob and its entries are those of a file's tree.
pub record IsIndexOf (file : List ℕ) (blob : Blob) (es : List (List ℕ)) : Type 0 where
  pub nodes : Siblings
  pub is : tree file ≡ Ok nodes
  pub indexed : IsIndexed nodes blob es
  pub within : blob.totalsize ≤ length file
  pub total : blob.totalsize ≡ be32 file 4

abbrev pub rows_in : Result Siblings Fault → List Row
rows_in (Ok t) = table t
rows_in (Err fault) = []

-- the nodes of a file's tree in reading order, the root first
abbrev pub rows_of : List ℕ → List Row
rows_of file = rows_in (tree file)

-- the bytes of a node's name
abbrev pub name_in : List ℕ → Row → List ℕ
name_in file row = slice file (row.at + 4) (length row.name)

abbrev pub is_parent : ℕ → Option ℕ → Bool
is_parent number None = false
is_parent number (Some parent) = parent == number

-- the name is `signature`, or this with a unit address (libfdt's fdt_nodename_eq_)
abbrev pub names_signature : List ℕ → Bool
names_signature name =
    bytes_eq name (codes "signature") || starts_with (λ a b. a == b) name (codes "signature@")

-- the row is that of a child of the root of this name
abbrev pub is_signature : List ℕ → Row → Bool
is_signature file row = if is_parent 0 row.parent then names_signature (name_in file row) else false

-- the number of the first one, among rows that are numbered from i on
unfoldable pub signature_from : List ℕ → ℕ → List Row → Option ℕ
signature_from file i [] = None
signature_from file i (row ∷ rows) =
    if is_signature file row then Some i else signature_from file (i + 1) rows

-- the number of /signature
abbrev pub signature_of : List ℕ → Option ℕ
signature_of file = signature_from file 0 (rows_of file)

-- the value of the first property of a name
abbrev pub value_named : List ℕ → List (NamedOf Span) → List ℕ → Option (List ℕ)
value_named file own name = option_map (λ s. slice file s.place s.length) (first own name)

-- there is a value, and it begins with this text
abbrev pub says : Option (List ℕ) → List ℕ → Bool
says None text = false
says (Some value) text = starts_with (λ a b. a == b) value text

abbrev pub or_empty : Option (List ℕ) → List ℕ
or_empty None = []
or_empty (Some value) = value

-- the big-endian number of eight octets
abbrev pub number : List ℕ → ℕ
number octets = be32 octets 0 * 2 ^ 32 + be32 octets 4

-- the list of what there is
abbrev pub listed : {X : Type 0} → Option X → List X
listed None = []
listed (Some x) = x ∷ []

-- the modulus and the exponent of a key, what a signature by it must say, and its name
abbrev pub Said : Type 0
Said = List ℕ × ℕ × Option RsaAlgo × List ℕ

abbrev pub said : PublicKey → Said
said key = (key.modulus.items, key.exponent, key.algo, key.name.items)

abbrev pub modulus_in : List ℕ → List (NamedOf Span) → List ℕ
modulus_in file own = or_empty (value_named file own (codes "rsa,modulus"))

-- those that the properties of a node of a name say
abbrev pub key_in : List ℕ → List (NamedOf Span) → List ℕ → Said
key_in file own name = (
  modulus_in file own,
  number (or_empty (value_named file own (codes "rsa,exponent"))),
  rsa_algo (or_empty (value_named file own (codes "algo"))),
  key_name name,
)

-- the modulus times the number of four octets is one less than a multiple of 2 ^ 32
abbrev pub is_inverse : List ℕ → List ℕ → Bool
is_inverse modulus inverse =
    if length inverse == 4 && nat_le 4 (length modulus)
    then be32 modulus (length modulus - 4) * be32 inverse 0 % 2 ^ 32 == 0xffffffff else false

abbrev pub are_helps : List ℕ → Option (List ℕ) → Option (List ℕ) → Bool
are_helps modulus (Some inverse) (Some square) = is_inverse modulus inverse && is_r_squared modulus square
are_helps modulus inverse square = false

-- the properties have what U-Boot's arithmetic with a modulus begins with: `rsa,n0-inverse` and
-- `rsa,r-squared` (lib/rsa/rsa-mod-exp.c)
abbrev pub has_helps : List ℕ → List (NamedOf Span) → List ℕ → Bool
has_helps file own modulus = are_helps modulus (value_named file own (codes "rsa,n0-inverse"))
    (value_named file own (codes "rsa,r-squared"))

abbrev pub is_long : List ℕ → Option RsaAlgo → Bool
is_long modulus None = false
is_long modulus (Some algo) = algo.bits / 8 == length modulus

-- the value names an algorithm for keys as long as the modulus
abbrev pub has_size : List ℕ → Option (List ℕ) → Bool
has_size modulus None = false
has_size modulus (Some algo) = is_long modulus (rsa_algo algo)

-- the properties say that configurations must be signed by the key
abbrev pub is_required : List ℕ → List (NamedOf Span) → Bool
is_required file own = says (value_named file own (codes "required")) (codes "conf" ++ 0 ∷ [])

-- the key of a node, if it is a child of the node of this number and is required
abbrev pub found_in : List ℕ → ℕ → Row → List Said
found_in file signature row = if is_parent signature row.parent then
    (if is_required file (places_of row) then key_in file (places_of row) (name_in file row) ∷ []
    else []) else []

-- there is no value, or a NUL in it
abbrev pub is_ended : Option (List ℕ) → Bool
is_ended None = true
is_ended (Some value) = list_any (λ b. b == 0) value

-- The properties of a key are right for its modulus.
pub record IsRight (file : List ℕ) (own : List (NamedOf Span)) : Type 0 where
  pub size : has_size (modulus_in file own) (value_named file own (codes "algo")) ≡ true
  pub helps : has_helps file own (modulus_in file own) ≡ true

-- What a child says of being required ends with a NUL, and a required key is right.
abbrev pub IsTaken : List ℕ → ℕ → Row → Type 0
IsTaken file signature row = is_parent signature row.parent ≡ true
    → (is_ended (value_named file (places_of row) (codes "required")) ≡ true)
    × (is_required file (places_of row) ≡ true → IsRight file (places_of row))

-- the keys below the node of this number
abbrev pub keys_in : List ℕ → ℕ → List Said
keys_in file signature = flat_map (found_in file signature) (rows_of file)

-- its properties say that one key is enough
abbrev pub is_any_in : List ℕ → Option Row → Bool
is_any_in file None = false
is_any_in file (Some row) =
    says (value_named file (places_of row) (codes "required-mode")) (codes "any" ++ 0 ∷ [])

-- A file is a blob whose /signature has these keys.
pub record HasTreeKeys (file : List ℕ) (keys : Keys) : Type 0 where
  pub signature : ℕ
  pub is : signature_of file ≡ Some signature
  pub keys_are : map said keys.keys.items ≡ keys_in file signature
  pub mode : keys.is_any ≡ is_any_in file (slice_get (rows_of file) signature)
  pub taken : All (IsTaken file signature) (rows_of file)
  pub some : 0 < length keys.keys.items
  pub called : keys.name.items ≡ joined keys.is_any (map (λ key. key.name.items) keys.keys.items)
