-- The nodes of a tree in reading order, with their links.
use Rattle.std.specs.Prelude.{ℕ, ◌+◌, List, [], ◌∷◌, ◌++◌, Option, Some, None, Bool, if◌then◌else◌}
use Rattle.uimg_blob_reading.specs.{declared.roles.Role.Role, Tokens.Property}
use Rattle.uimg_blob_reading.specs.Grammar.{Siblings, none, node}
use Rattle.uimg_blob_reading.specs.Roles.{Level, top, role_at, level_in, level_after}

-- A node: offset, name, properties, role, and the numbers of parent, first child and next sibling.
pub record Row : Type 0 where
  pub at : ℕ
  pub name : List ℕ
  pub own : List Property
  pub role : Role
  pub parent : Option ℕ
  pub first_child : Option ℕ
  pub next_sibling : Option ℕ

-- the number of nodes
abbrev pub size : Siblings → ℕ
size none = 0
size (node at name own below after) = 1 + size below + size after

-- the number of the first node, if there is one
abbrev pub first_of : ℕ → Siblings → Option ℕ
first_of i none = None
first_of i (node at name own below after) = Some i

-- the rows of siblings that are numbered from i on and have this parent
unfoldable pub rows : Level → Option ℕ → ℕ → Siblings → List Row
rows level parent i none = []
rows level parent i (node at name own below after) =
    record {
      at = at;
      name = name;
      own = own;
      role = role_at level name;
      parent = parent;
      first_child = first_of (i + 1) below;
      next_sibling = first_of (i + (1 + size below)) after;
    }
    ∷ (rows (level_in (role_at level name)) (Some i) (i + 1) below
    ++ rows (level_after level name) parent (i + (1 + size below)) after)

-- the table of a tree
abbrev pub table : Siblings → List Row
table t = rows top None 0 t

-- the number of the first sibling with such a name, numbered from i on
unfoldable pub number_named : (List ℕ → Bool) → ℕ → Siblings → Option ℕ
number_named is_it i none = None
number_named is_it i (node at name own below after) =
    if is_it name then Some i else number_named is_it (i + (1 + size below)) after

-- the number of the root's first child with such a name
abbrev pub child_number : (List ℕ → Bool) → Siblings → Option ℕ
child_number is_it none = None
child_number is_it (node at name own below after) = number_named is_it 1 below
