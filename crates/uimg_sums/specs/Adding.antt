-- What bytes that are fed to a sum add to those fed before.
use Rattle.std.specs.Prelude.{ℕ, List, [], ◌++◌}
use Rattle.std.proofs.Common.{append-nil, append_assoc, subst, sym}

-- whatever may have been fed before, these bytes may have been fed after it
abbrev pub Adds : {T : Type 0} → (T → List ℕ → Type 0) → T → T → List ℕ → Type 0
Adds holds old new bytes = (fed : List ℕ) → holds old fed → holds new (fed ++ bytes)

-- a sum that stays as it is adds nothing
pub adds_nothing : {T : Type 0} (holds : T → List ℕ → Type 0) (sum : T) → Adds holds sum sum []
adds_nothing holds sum fed held = subst (holds sum) (sym (append-nil fed)) held

-- what is added in two pieces is added as one
pub adds_more : {T : Type 0} (holds : T → List ℕ → Type 0) (a b c : T) (xs ys : List ℕ)
    → Adds holds a b xs → Adds holds b c ys → Adds holds a c (xs ++ ys)
adds_more holds a b c xs ys p q fed held =
    subst (holds c) (append_assoc fed xs ys) (q (fed ++ xs) (p fed held))
