use Rattle.std.{proofs.Common.{◌≡◌, ◌+◌, ◌*◌, drop}, specs.Prelude.{◌==◌, find}}
use Rattle.uimg_c.specs.{Strict.loose_number, Numbers.{loosenesses, loose_of}}
use Rattle.uimg_c.proofs.numbered_faults.loose_of.Given as goal

-- nothing before the index has the number
abbrev pub invariant-loop-own : goal.invariant-loop-own
invariant-loop-own l = find (λ own. l.fault == 256 * 83 + loose_number own) (drop l.own-index loosenesses) ≡ loose_of l.fault
