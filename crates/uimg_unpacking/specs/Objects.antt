-- The JSON object of a payload or part (docs/JSON.md), and what is printed of it.
use Rattle.std.specs.Prelude.{ℕ, List, [], ◌++◌, take, codes, decimal, Option, Some, None}
use Rattle.std.specs.Borrow.{Bor}
use Rattle.std.specs.List.{flat_map}
use Rattle.json.specs.Json.{Json}
use Rattle.json.specs.Print.{print}
use Rattle.json.specs.Tree.{json_tokens}
use Rattle.uimg_sums.specs.Algorithms.{algo_name, digest_size}
use Rattle.uimg_fit_base.specs.Report.{word_text}
use Rattle.uimg_fit_checking.specs.Unpacking.{as_bytes}
use Rattle.uimg_fit_checking.specs.declared.unpacking.taker.Refusal.{Refusal}
use Rattle.uimg_fit_checking.specs.declared.unpacking.taker.Refusal.TheVariants.{Wrong, Weak}
use Rattle.uimg_fit_checking.specs.declared.unpacking.taker.Vouched.{Vouched}
use Rattle.uimg_printing.specs.Members.{Member, object_of, string_member, number_member, text_members}
use Rattle.uimg_printing.specs.Printing.{digits_of}
use Rattle.uimg_unpacking.specs.declared.lines.Line.{Line}
use Rattle.uimg_unpacking.specs.declared.lines.Line.TheVariants as line
use Rattle.uimg_unpacking.specs.Lines.{kept_line, refusal_text, unpacked_line, line_of}

-- the members of each payload: status, verdict, format and the name of its image
abbrev pub about_payload : ℕ → List ℕ → List ℕ → List Member
about_payload status verdict name =
    number_member (codes "status") status
    ++ (string_member (codes "verdict") verdict
    ++ (string_member (codes "format") (codes "fit") ++ text_members (codes "image") name))

-- the name of a file and its length
abbrev pub file_members : List ℕ → ℕ → List Member
file_members file size = string_member (codes "file") file ++ number_member (codes "size") size

-- a kept payload is ok if a digest vouches for it
abbrev pub kept_verdict : Option Vouched → List ℕ
kept_verdict None = codes "unhashed"
kept_verdict (Some v) = codes "ok"

-- the algorithm that vouches for a payload, and the digest by it
abbrev pub vouched_members : Option Vouched → List Member
vouched_members None = []
vouched_members (Some v) =
    string_member (codes "algo") (algo_name v.algo)
    ++ string_member (codes "digest") (flat_map digits_of (take (digest_size v.algo) v.digest))

-- the members of a kept payload, of a refused one, and of a part
abbrev pub kept_members : List ℕ → List ℕ → ℕ → Option Vouched → List Member
kept_members name file size vouched =
    about_payload 0 (kept_verdict vouched) name
    ++ (file_members file size ++ vouched_members vouched)

abbrev pub refused_members : List ℕ → Refusal → List Member
refused_members name (Wrong hash word) =
    about_payload 1 (word_text word) name ++ text_members (codes "hash") (as_bytes hash)
refused_members name Weak = about_payload 1 (codes "weak") name

abbrev pub part_members : ℕ → ℕ → ℕ → List Member
part_members number size dcrc =
    number_member (codes "status") 0
    ++ (string_member (codes "verdict") (codes "ok")
    ++ (string_member (codes "format") (codes "legacy")
    ++ (file_members (codes "image-" ++ decimal number) size
    ++ number_member (codes "data-crc") dcrc)))

abbrev pub members_of : Line → List Member
members_of (line.Kept name file size vouched) = kept_members (as_bytes name.now) file.now size vouched
members_of (line.Refused name refusal) = refused_members (as_bytes name.now) refusal
members_of (line.Overlapping name) = about_payload 1 (codes "overlapping") (as_bytes name.now)
members_of (line.Part number size dcrc) = part_members number size dcrc

-- an object that begins with the path of the image
abbrev pub object_with : List ℕ → List Member → Json
object_with path members = object_of (string_member (codes "path") path ++ members)

-- What is printed: a line, or an object if the path of the image is given.
abbrev pub told_as : Option (Bor (List ℕ)) → List ℕ → List Member → List ℕ
told_as None text members = text ++ codes "\n"
told_as (Some path) text members = print (json_tokens (object_with path.now members)) ++ codes "\n"

abbrev pub told_of : Option (Bor (List ℕ)) → Line → List ℕ
told_of path its = told_as path (line_of its) (members_of its)

-- the same of a kept payload and of a refused one
abbrev pub kept_told : Option (Bor (List ℕ)) → List ℕ → List ℕ → ℕ → Option Vouched → List ℕ
kept_told path name file size vouched =
    told_as path (kept_line name file size vouched) (kept_members name file size vouched)

abbrev pub refused_told : Option (Bor (List ℕ)) → List ℕ → Refusal → List ℕ
refused_told path name refusal = told_as path (refusal_text name refusal) (refused_members name refusal)

-- the same of a part, and of parts with their lengths
abbrev pub part_told : Option (Bor (List ℕ)) → ℕ → ℕ × ℕ → List ℕ
part_told path dcrc part =
    told_as path (unpacked_line part.0 part.1 dcrc) (part_members part.0 part.1 dcrc)

abbrev pub parts_told : Option (Bor (List ℕ)) → ℕ → List (ℕ × ℕ) → List ℕ
parts_told path dcrc = flat_map (part_told path dcrc)
