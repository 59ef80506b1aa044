-- What is written in two steps is written in one.
use Rattle.std.proofs.Common.{◌≡◌, ◌<◌, ℕ, ◌-◌, ◌^◌, List, ◌++◌, Bool, true, false, arith, ◌∙◌}
use Rattle.uimg_base.specs.{Device.RisesIf, Sink.{Sink, AppendsAll}, Writing.{Writes, Written}}
use Rattle.uimg_base.proofs.SinkLaws.{prefix_first, prefix_then, all_then}

-- a counter that stood, and then rose or stood
rises_then : (e : Bool) (a b c : ℕ) → b ≡ a → RisesIf e b c → RisesIf e a c
rises_then true a b c p q = (omega arith, λ h. let k : b < 2 ^ 64 - 1 = omega arith in let r : b < c = q.1 k in omega arith)
rises_then false a b c p q = q ∙ p

-- a failure in the first part
pub stops : (s t : Sink) (xs ys : List ℕ) → Writes true s t xs → Writes true s t (xs ++ ys)
stops s t xs ys p = record { all = p.all; prefix = prefix_first s t xs ys p.prefix; faults = p.faults }

-- the first part, and then the second
goes : (e : Bool) (s m t : Sink) (xs ys : List ℕ) → Writes false s m xs → Writes e m t ys → Writes e s t (xs ++ ys)
goes true s m t xs ys p q = record {
  all = q.all;
  prefix = prefix_then s m t xs ys p.all q.prefix;
  faults = rises_then true s.faults m.faults t.faults p.faults q.faults;
}
goes false s m t xs ys p q = record {
  all = all_then s m t xs ys p.all q.all;
  prefix = prefix_then s m t xs ys p.all q.prefix;
  faults = rises_then false s.faults m.faults t.faults p.faults q.faults;
}

infixl 5 ◌▷◌
pub ◌▷◌ : {e : Bool} {s m t : Sink} {xs ys : List ℕ} → Writes false s m xs → Writes e m t ys → Writes e s t (xs ++ ys)
p ▷ q = goes _ _ _ _ _ _ p q

-- all of the first part, and then the second
pub written_then : (e : Bool) (s m t : Sink) (xs ys : List ℕ) → AppendsAll s m xs → Written e m t ys → Written e s t (xs ++ ys)
written_then true s m t xs ys p q = record { all = q.all; prefix = prefix_then s m t xs ys p q.prefix }
written_then false s m t xs ys p q = record { all = all_then s m t xs ys p q.all; prefix = prefix_then s m t xs ys p q.prefix }

pub ruleset writing = (prefix_first, prefix_then, all_then)
