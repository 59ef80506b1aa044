use Rattle.std.proofs.Common.{◌≡◌, ℕ, List, length}
use Rattle.std.specs.List.{find}
use Rattle.uimg_fit_reading.specs.Values.{pieces}
use Rattle.uimg_checks.specs.ReferenceNames.{is_lost}
use Rattle.uimg_checks.specs.ReferenceNames.{HasNames}
use Rattle.uimg_checks.proofs.references.missing.lost_in.Given as goal

-- no text before the rest is lost
abbrev pub invariant-loop-rest : goal.invariant-loop-rest
invariant-loop-rest l = record {
  left : (list : List (List ℕ)) → HasNames l.names list → find (is_lost list) (pieces l.rest) ≡ find (is_lost list) (pieces l.value);
}

abbrev pub decreases-loop-rest : goal.decreases-loop-rest
decreases-loop-rest l = length l.rest
