-- What the results of this crate mean.
use Rattle.std.specs.Prelude.{◌≡◌, ℕ, List, Result, Ok, Err, Option, Some, None, ⊤, Bool, true}
use Rattle.std.specs.Prelude.{false}
use Rattle.uimg_base.specs.{Outcome.{End, done, not_right, refused}, declared.status.Status.Status}
use Rattle.uimg_base.specs.declared.status.Status.TheVariants.{Done, NotRight}
use Rattle.uimg_base.specs.declared.ranges.MoveFault.{MoveFault}
use Rattle.uimg_base.specs.declared.ranges.MoveFault.TheVariants as move
use Rattle.uimg_legacy.specs.declared.fault.{LegacyFault.LegacyFault, Fault.Fault}
use Rattle.uimg_legacy.specs.declared.fault.LegacyFault.TheVariants.{EmptyPart, TooLarge}
use Rattle.uimg_legacy.specs.declared.fault.Fault.TheVariants.{Legacy, Read, Put}

-- the result is a failed read
abbrev pub is_read : {X : Type 0} → Result X Fault → Bool
is_read (Err Read) = true
is_read _ = false

-- the result is a failed write
abbrev pub is_put : {X : Type 0} → Result X Fault → Bool
is_put (Err Put) = true
is_put _ = false

-- the result is a refusal of the image
abbrev pub is_refused : {X : Type 0} → Result X Fault → Bool
is_refused (Err (Legacy fault)) = true
is_refused _ = false

-- the fault is one of the parts that an image is built from
abbrev pub of_making : LegacyFault → Bool
of_making EmptyPart = true
of_making TooLarge = true
of_making _ = false

-- the result is such a fault
abbrev pub is_of_making : {X : Type 0} → Result X Fault → Bool
is_of_making (Err (Legacy fault)) = of_making fault
is_of_making _ = false

-- the end that a result means, unless a device failed
abbrev pub end_of : Result Status Fault → Option (End LegacyFault)
end_of (Ok Done) = Some done
end_of (Ok NotRight) = Some not_right
end_of (Err (Legacy fault)) = Some (refused fault)
end_of (Err _) = None

-- the same for the result of building
abbrev pub built_end : {X : Type 0} → Result X Fault → Option (End LegacyFault)
built_end (Ok x) = Some done
built_end (Err (Legacy fault)) = Some (refused fault)
built_end (Err _) = None

-- The result is the value or the fault of a definition, unless a device failed.
abbrev pub Gives : {X Y : Type 0} → (X → Y) → Result X Fault → Result Y LegacyFault → Type 0
Gives view (Ok x) r = r ≡ Ok (view x)
Gives view (Err (Legacy fault)) r = r ≡ Err fault
Gives view (Err _) r = ⊤

-- the same for a definition over the bytes of an image
abbrev pub GivesBy : {X : Type 0} → (List ℕ → Result X LegacyFault) → List ℕ → Result X Fault
    → Type 0
GivesBy definition image result = Gives (λ x. x) result (definition image)

-- a failed copy is a failed read or a failed write
abbrev pub fault_of : MoveFault → Fault
fault_of move.Read = Read
fault_of move.Put = Put
