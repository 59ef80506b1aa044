-- The steps of writing an object.
use Rattle.std.specs.Prelude.{◌≡◌, ◌++◌, List, Result, OnOk}
use Rattle.json.specs.{Token.Token, Written.Written}

-- These tokens were appended.
pub record Appended (old new : Written) (tokens : List Token) : Type 0 where
  pub tokens_now : new.tokens ≡ old.tokens ++ tokens
  pub before : new.before ≡ old.before

-- These tokens were appended, unless memory was refused.
abbrev pub Appends : {X E : Type 0} → Result X E → Written → Written → List Token → Type 0
Appends result old new tokens = OnOk result (Appended old new tokens)
