-- The values of properties as members of a JSON object.
use Rattle.std.specs.Prelude.{ℕ, List, [], ◌∷◌, ◌++◌, map, length, codes, true, false, nat_lt, ◌==◌}
use Rattle.std.specs.{Prelude.{if◌then◌else◌, Option, Some, None}, Int.{from_be_bytes, w32, w64}}
use Rattle.std.specs.{List.{flat_map, list_all}, Str.is_utf8}
use Rattle.hex.specs.Hex.{encode_lower}
use Rattle.json.specs.Json.{string}
use Rattle.uimg_texts.specs.Nul.{text}
use Rattle.uimg_fit_reading.specs.Values.{pieces}
use Rattle.uimg_info.specs.declared.forms.Form.{Form}
use Rattle.uimg_info.specs.declared.forms.Form.TheVariants.{Text, Texts, Digest, Cell, Address}
use Rattle.uimg_printing.specs.Members.{Member, array_of, number_member, number_if, text_json}
use Rattle.uimg_printing.specs.Members.{beside, text_members}

abbrev pub texts_members : List ℕ → List (List ℕ) → List Member
texts_members name ts =
    (name, array_of (map (text_json false) ts))
    ∷ beside (list_all is_utf8 ts) name (array_of (map (text_json true) ts))

-- the number of a cell
unfoldable pub cell_number : List ℕ → Option ℕ
cell_number value = if length value == 4 then Some (from_be_bytes w32 value) else None

-- the number of an address of one cell or two
unfoldable pub address_number : List ℕ → Option ℕ
address_number value =
    if length value == 4 then Some (from_be_bytes w32 value)
    else if length value == 8 then Some (from_be_bytes w64 value)
    else None

-- the members of a value, by its form
abbrev pub told_as : Form → List ℕ → List ℕ → List Member
told_as Text name value = text_members name (text value)
told_as Texts name value = texts_members name (pieces value)
told_as Digest name value = (name, string (encode_lower value)) ∷ []
told_as Cell name value = number_if name (cell_number value)
told_as Address name value = number_if name (address_number value)

-- the most bytes of a value that is printed
abbrev pub most : ℕ
most = 65536

-- the member of a longer value: its length, unless it would be a number
abbrev pub length_of : Form → List ℕ → ℕ → List Member
length_of Text name n = number_member (name ++ codes "_length") n
length_of Texts name n = number_member (name ++ codes "_length") n
length_of Digest name n = number_member (name ++ codes "_length") n
length_of Cell name n = []
length_of Address name n = []

-- the members of a value that is present
unfoldable pub value_members : Form → List ℕ → List ℕ → List Member
value_members form name value =
    if nat_lt most (length value) then length_of form name (length value) else told_as form name
    value

-- a fact: the name of its member, the form of its value, and the value if it is present
pub record Fact : Type 0 where
  pub name : List ℕ
  pub form : Form
  pub value : Option (List ℕ)

unfoldable pub fact_members : Fact → List Member
fact_members fact =
    elim fact.value as (λ _. List Member)
    [ None ↦ [] | Some value ↦ value_members fact.form fact.name value ]

abbrev pub facts_members : List Fact → List Member
facts_members = flat_map fact_members
