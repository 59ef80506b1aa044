-- The lines after the head lines of a listing, and the most bytes requested for them.
use Rattle.std.specs.{Prelude.{ℕ, ◌+◌, ◌≤◌, List, Option, Some, None, Result}, List.sum_by}
use Rattle.uimg_base.specs.{Device.Device, Lent.Lent, Sink.Sink, declared.status.Status.Status}
use Rattle.uimg_base.specs.Outcome.{End, Outcome, Tells}
use Rattle.uimg_blob_reading.specs.{Plain.NodesOf, LookUps.{NodeOf, configurations}, Spots.Spot}
use Rattle.uimg_fit_base.specs.{Faults.end_of, declared.fault.Fault.Fault}
use Rattle.uimg_fit_reading.specs.{declared.open_fit.OpenFit.OpenFit, Allowances.node_allowance}
use Rattle.uimg_texts.specs.declared.naming.Naming.{Naming}

-- the most bytes requested for the configurations
abbrev pub configurations_allowance : Naming → Option (NodeOf Spot) → ℕ
configurations_allowance names None = 0
configurations_allowance names (Some c) = node_allowance names c

-- the most bytes requested for images and configurations
abbrev pub body_allowance : Naming → NodesOf Spot → Option (List (NodeOf Spot)) → ℕ
body_allowance names t None = 0
body_allowance names t (Some found) =
    sum_by (node_allowance names) found + configurations_allowance names (configurations t)

-- At most `most` bytes more were requested, and an outcome was written.
pub record TellsWithinBetween (e : Option (End Fault)) (most : ℕ) (d f : Device) (s t : Sink)
    (o : Outcome Fault) : Type 0 where
  pub asked : f.asked ≤ d.asked + most
  pub told : Tells e o s t

abbrev pub TellsWithin : {S A : Type 0} → ℕ → Result Status Fault → (S → Device)
    → Lent (OpenFit S A) → Lent Sink → Outcome Fault → Type 0
TellsWithin most result device fit out outcome = TellsWithinBetween (end_of result) most
    (device fit.entry.now.source.now) (device fit.exit.now.source.now) out.entry.now out.exit.now
    outcome
