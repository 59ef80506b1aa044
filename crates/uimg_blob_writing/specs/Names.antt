-- Names that are borrowed from a tree.
use Rattle.std.specs.{Prelude.{ℕ, List, map}, Borrow.Bor}

-- the bytes of the names
abbrev pub name_texts : List (Bor (List ℕ)) → List (List ℕ)
name_texts names = map (λ name. name.now) names
