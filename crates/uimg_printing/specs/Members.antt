-- Members of a JSON object (RFC 8259), and names, which need not be UTF-8.
use Rattle.std.specs.Prelude.{ℕ, List, [], ◌∷◌, ◌++◌, codes, decimal, Bool, true, false, Option}
use Rattle.std.specs.{Prelude.{Some, None}, List.flat_map, Str.{is_utf8, Lossy.utf8_lossy}}
use Rattle.base64.specs.{Engines.standard, GeneralPurpose.encode_of}
use Rattle.json.specs.Json.{Json, object, array, string, number, Items, no_items, item, Members}
use Rattle.json.specs.{Json.{no_members, member}, Token.Token, Tree.json_tokens}

-- a member: name and value
abbrev pub Member : Type 0
Member = List ℕ × Json

-- the members of an object, in order
abbrev pub members_of : List Member → Members
members_of [] = no_members
members_of (m ∷ ms) = member m.0 m.1 (members_of ms)

abbrev pub object_of : List Member → Json
object_of ms = object (members_of ms)

-- the items of an array, in order
abbrev pub items_of : List Json → Items
items_of [] = no_items
items_of (j ∷ js) = item j (items_of js)

abbrev pub array_of : List Json → Json
array_of js = array (items_of js)

-- the tokens of members, without those of the enclosing object
abbrev pub member_tokens : Member → List Token
member_tokens m = Token.key m.0 ∷ json_tokens m.1

abbrev pub tokens_of : List Member → List Token
tokens_of = flat_map member_tokens

-- a string
abbrev pub string_member : List ℕ → List ℕ → List Member
string_member name s = (name, string s) ∷ []

-- a number
abbrev pub number_member : List ℕ → ℕ → List Member
number_member name n = (name, number (decimal n)) ∷ []

abbrev pub number_if : List ℕ → Option ℕ → List Member
number_if name None = []
number_if name (Some n) = number_member name n

-- a text: in base64 (RFC 4648, section 4), or as UTF-8 with U+FFFD in place of other bytes (Unicode
-- Standard, section 3.9)
abbrev pub text_json : Bool → List ℕ → Json
text_json true t = string (encode_of standard t)
text_json false t = string (utf8_lossy t)

-- the name of the member that has the bytes of a text that is not UTF-8
abbrev pub of_bytes : List ℕ → List ℕ
of_bytes name = name ++ codes "_base64"

-- that member, if it is needed
abbrev pub beside : Bool → List ℕ → Json → List Member
beside true name bytes = []
beside false name bytes = (of_bytes name, bytes) ∷ []

abbrev pub text_members : List ℕ → List ℕ → List Member
text_members name t = (name, text_json false t) ∷ beside (is_utf8 t) name (text_json true t)
