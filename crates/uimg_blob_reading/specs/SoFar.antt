-- What is kept of the nodes so far, while some are open. The innermost open node comes first.
use Rattle.std.specs.Prelude.{ℕ, ◌+◌, List, [], ◌∷◌, ◌++◌, map, Option, Some, None}
use Rattle.uimg_blob_reading.specs.{Tokens.Property, Grammar.{Siblings, none, node}}
use Rattle.uimg_blob_reading.specs.{Walk.{Open, opened}, Kept.{Kept, kept, entry_of}}
use Rattle.uimg_blob_reading.specs.{Roles.{Level, top, role_at, level_in, level_after}, Rows.size}

-- the level of the nodes after some siblings
unfoldable pub level_past : Level → Siblings → Level
level_past level none = level
level_past level (node at name own below after) = level_past (level_after level name) after

-- the level of the next child of the innermost open node
unfoldable pub next_level : List Open → Level
next_level [] = top
next_level (opened at name own below ∷ ls) =
    level_past (level_in (role_at (next_level ls) name)) below

-- the number of the next node
unfoldable pub next_number : List Open → ℕ
next_number [] = 0
next_number (opened at name own below ∷ ls) = next_number ls + (1 + size below)

-- the number of the innermost open node, if there is one
abbrev pub innermost : List Open → Option ℕ
innermost [] = None
innermost (o ∷ ls) = Some (next_number ls)

-- what is kept of a node that is still open, inside other open nodes
abbrev pub open_row : List Open → ℕ → List ℕ → List Property → Kept
open_row ls at name own =
    record {
      at = at;
      name = name;
      own = own;
      role = role_at (next_level ls) name;
      parent = innermost ls;
      end = 0;
    }

-- the nodes so far
unfoldable pub so_far : List Open → List Kept
so_far [] = []
so_far (opened at name own below ∷ ls) =
    so_far ls
    ++ (open_row ls at name own
    ∷ kept (level_in (role_at (next_level ls) name)) (Some (next_number ls))
    (next_number ls + 1) below)

-- the entries so far
abbrev pub entries_so_far : List Open → List (List ℕ)
entries_so_far ls = map entry_of (so_far ls)
