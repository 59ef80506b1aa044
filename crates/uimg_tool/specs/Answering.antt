-- How a command ends: an exit status, what is told on standard error, and what its output has before and
-- after it, if contracts know that. Of a line that is told the text is given, unless it has a reason of the
-- system.
use Rattle.std.specs.Prelude.{◌≡◌, ◌⊎◌, ℕ, List, Option, Some}
use Rattle.uimg_base.specs.Named.{FileMap}

-- what may be meant: of a status, what is told, and an output
abbrev pub Meant : Type 1
Meant = ℕ → Option (Option (List ℕ)) → (old new : Option (List ℕ)) → Type 0

-- What is meant came to be, unless the status is that of a failure.
abbrev pub Comes : Meant → Meant
Comes Means status told old new = (status ≡ 3) ⊎ Means status told old new

-- what the file at a path means
abbrev pub OfFile : FileMap → List ℕ → (List ℕ → Meant) → Meant
OfFile files path Means status told old new =
    (file : List ℕ) × (files.bytes path ≡ Some file) × Means file status told old new
