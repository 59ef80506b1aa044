-- The JSON object of a legacy image: the fields of its header, and where its parts are.
use Rattle.std.specs.Prelude.{ℕ, List, [], ◌∷◌, ◌++◌, map, codes}
use Rattle.json.specs.Json.{Json}
use Rattle.uimg_texts.specs.{Nul.text, Numbers.be32}
use Rattle.uimg_base.specs.declared.spans.Span.{Span}
use Rattle.uimg_texts.specs.declared.field.Field.{Field, TheVariants.{Architecture, System, Kind}}
use Rattle.uimg_texts.specs.{declared.field.Field.TheVariants.Compression, Naming.code_text}
use Rattle.uimg_texts.specs.declared.naming.Naming.TheVariants.{Profile}
use Rattle.uimg_legacy.specs.{declared.header.Header.Header, Header.spelled}
use Rattle.uimg_printing.specs.Members.{Member, object_of, array_of, string_member, number_member}
use Rattle.uimg_printing.specs.Members.{text_members}

-- the name of a code in a listing, and the code
abbrev pub code_members : Field → List ℕ → List ℕ → ℕ → List Member
code_members field name of_code code =
    string_member name (code_text Profile field code) ++ number_member of_code code

abbrev pub numbers_members : Header → List Member
numbers_members h =
    number_member (codes "time") h.time
    ++ (number_member (codes "load") h.load ++ (number_member (codes "entry") h.ep
    ++ (number_member (codes "header-crc") (be32 (spelled h) 4)
    ++ number_member (codes "data-crc") h.dcrc)))

abbrev pub codes_members : Header → List Member
codes_members h =
    code_members System (codes "os") (codes "os-code") h.os
    ++ (code_members Architecture (codes "arch") (codes "arch-code") h.arch
    ++ (code_members Kind (codes "type") (codes "type-code") h.kind
    ++ code_members Compression (codes "compression") (codes "compression-code") h.comp))

-- the members of the header after its name
abbrev pub header_members : Header → List Member
header_members h =
    numbers_members h ++ (codes_members h ++ number_member (codes "data-size") h.size)

abbrev pub part_json : Span → Json
part_json part =
    object_of
    (number_member (codes "offset") part.place ++ number_member (codes "size") part.length)

-- the first members of each image
abbrev pub legacy_head : List ℕ → ℕ → List Member
legacy_head path size =
    string_member (codes "path") path
    ++ (number_member (codes "status") 0 ++ (string_member (codes "format") (codes "legacy")
    ++ number_member (codes "size") size))

-- the object of a file of `size` bytes at a path, with this header and these parts
abbrev pub legacy_members : List ℕ → ℕ → Header → List Span → List Member
legacy_members path size h parts =
    legacy_head path size
    ++ (text_members (codes "name") (text h.name)
    ++ (header_members h ++ (codes "parts", array_of (map part_json parts)) ∷ []))

abbrev pub legacy_json : List ℕ → ℕ → Header → List Span → Json
legacy_json path size h parts = object_of (legacy_members path size h parts)
