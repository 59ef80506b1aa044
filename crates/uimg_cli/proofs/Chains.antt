-- A step more in a chain of builders.
use Rattle.std.proofs.Common.{◌≡◌, ◌∙◌, IfOk, Result, Ok, Err, ap}
use Rattle.clap.specs.Simple.{App, with_rule}
use Rattle.clap.specs.Walk.{Rule}

pub onward : {X E Y : Type 0} (f : X → Y) (r : Result X E) (a b : Y) → IfOk r (λ x. f x ≡ a) → a ≡ b → IfOk r (λ x. f x ≡ b)
onward f (Ok x) a b is same = is ∙ same
onward f (Err e) a b is same = tt

pub next : {a b : App} (r : Rule) → a ≡ b → with_rule a r ≡ with_rule b r
next r e = ap (λ a. with_rule a r) e
