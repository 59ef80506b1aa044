use Rattle.std.{proofs.Common.{◌≡◌, ◌+◌, ◌*◌, drop}, specs.Prelude.{◌==◌, find}}
use Rattle.uimg_c.specs.{Codes.fit_number, Numbers.{fit_faults, fit_of}}
use Rattle.uimg_c.proofs.numbered_faults.fit_of.Given as goal

-- no fault before the index has the number
abbrev pub invariant-loop-own : goal.invariant-loop-own
invariant-loop-own l = find (λ own. l.fault == 256 * 70 + fit_number own) (drop l.own-index fit_faults) ≡ fit_of l.fault
