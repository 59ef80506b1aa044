-- What is written, one piece after another.
use Rattle.std.proofs.Common.{◌++◌, ◌∙◌, ℕ, List, [], Option, Some, None, ap, sym, append_assoc, append-nil}
use Rattle.std.specs.Io.KnownBytes.{Appends}

pub appends_more : (a b c : Option (List ℕ)) (x y : List ℕ) → Appends a b x → Appends b c y → Appends a c (x ++ y)
appends_more None b c x y p q = tt
appends_more (Some a) None c x y p q = absurd p
appends_more (Some a) (Some b) None x y p q = absurd q
appends_more (Some a) (Some b) (Some c) x y p q = q ∙ ap (λ (l : List ℕ). l ++ y) p ∙ append_assoc a x y

pub appends_none : (a : Option (List ℕ)) → Appends a a []
appends_none None = tt
appends_none (Some a) = sym (append-nil a)
