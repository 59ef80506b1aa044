-- A statement of an image.
use Rattle.std.specs.Prelude.{ℕ, List, [], ◌∷◌, map, Option, Some, None, Vec}
use Rattle.uimg_info.specs.declared.statement.Statement.{Statement}

-- A statement: its key, which is the path of a node, that of a node with the name of a property, or
-- the name of a field; and the text of the value, which a node has not.
pub record Stated : Type 0 where
  pub key : List ℕ
  pub text : List ℕ

-- the same of the program
abbrev pub stated : Statement → Stated
stated s = record { key = s.key.items; text = s.text.items }

abbrev pub all_stated : {Z : Type 0} → Vec Statement Z → List Stated
all_stated statements = map stated statements.items

-- the statement of an option, as a list
abbrev pub found_stated : Option Statement → List Stated
found_stated None = []
found_stated (Some s) = stated s ∷ []
