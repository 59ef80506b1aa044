use Rattle.std.{proofs.Common.{◌≡◌, ◌+◌, ◌*◌, drop}, specs.Prelude.{◌==◌, find}}
use Rattle.uimg_c.specs.{Codes.blob_number, Numbers.{blob_faults, blob_of}}
use Rattle.uimg_c.proofs.numbered_faults.blob_of.Given as goal

-- no fault before the index has the number
abbrev pub invariant-loop-own : goal.invariant-loop-own
invariant-loop-own l = find (λ own. l.fault == 256 * 66 + blob_number own) (drop l.own-index blob_faults) ≡ blob_of l.fault
