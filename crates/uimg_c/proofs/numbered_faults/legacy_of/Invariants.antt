use Rattle.std.{proofs.Common.{◌≡◌, ◌+◌, ◌*◌, drop}, specs.Prelude.{◌==◌, find}}
use Rattle.uimg_c.specs.{Codes.legacy_number, Numbers.{legacy_faults, legacy_of}}
use Rattle.uimg_c.proofs.numbered_faults.legacy_of.Given as goal

-- no fault before the index has the number
abbrev pub invariant-loop-own : goal.invariant-loop-own
invariant-loop-own l = find (λ own. l.fault == 256 * 76 + legacy_number own) (drop l.own-index legacy_faults) ≡ legacy_of l.fault
