-- What follows where there is a value.
use Rattle.std.{proofs.Common.{Result, Ok, Err}, specs.Result.OnOk}

pub OnOk-then : {T E : Type 0} (r : Result T E) (P Q : Type 0) → (P → Q) → OnOk r P → OnOk r Q
OnOk-then (Ok x) P Q f p = f p
OnOk-then (Err e) P Q f p = tt

-- what holds anyway
pub OnOk-always : {T E : Type 0} (r : Result T E) (P : Type 0) → P → OnOk r P
OnOk-always (Ok x) P p = p
OnOk-always (Err e) P p = tt
