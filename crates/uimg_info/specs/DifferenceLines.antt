-- Differences as lines: of text, and of JSON (docs/JSON.md).
use Rattle.std.specs.Prelude.{ℕ, List, [], ◌∷◌, ◌++◌, codes, Option, Some, None, Bool, true, false}
use Rattle.json.specs.{Print.print, Tree.json_tokens}
use Rattle.uimg_info.specs.Comparing.{Differs, differs}
use Rattle.uimg_info.specs.declared.comparing.Difference.{Difference}
use Rattle.uimg_printing.specs.Members.{Member, object_of, text_members}

-- the text of a value after a key, if there is one
abbrev pub ending : List ℕ → List ℕ
ending [] = []
ending (b ∷ bytes) = codes ": " ++ b ∷ bytes

-- the line of a statement of one image, and of two
abbrev pub only_line : List ℕ → List ℕ → List ℕ → List ℕ
only_line sign key text = sign ++ (key ++ (ending text ++ 10 ∷ []))

abbrev pub both_line : List ℕ → List ℕ → List ℕ → List ℕ
both_line key old new = key ++ (ending old ++ (codes " -> " ++ (new ++ 10 ∷ [])))

abbrev pub line_of : List ℕ → Option (List ℕ) → Option (List ℕ) → List ℕ
line_of key None None = []
line_of key (Some old) None = only_line (codes "- ") key old
line_of key None (Some new) = only_line (codes "+ ") key new
line_of key (Some old) (Some new) = both_line key old new

-- the line of a difference
abbrev pub difference_line : Differs → List ℕ
difference_line d = line_of d.key d.old d.new

-- the members of a difference's object: the key, and each text that is stated
abbrev pub text_if : List ℕ → Option (List ℕ) → List Member
text_if name None = []
text_if name (Some text) = text_members name text

abbrev pub difference_members : Differs → List Member
difference_members d =
    text_members (codes "key") d.key ++ (text_if (codes "old") d.old ++ text_if (codes "new") d.new)

-- the line of a difference, as text or as its object
abbrev pub line_as : Bool → Differs → List ℕ
line_as false d = difference_line d
line_as true d = print (json_tokens (object_of (difference_members d))) ++ codes "\n"

-- the same of the program
abbrev pub line_at : Bool → Difference → List ℕ
line_at as_json d = line_as as_json (differs d)
