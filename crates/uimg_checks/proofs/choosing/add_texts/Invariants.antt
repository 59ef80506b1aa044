use Rattle.std.proofs.Common.{◌≡◌, ◌||◌, ℕ, List, length}
use Rattle.std.specs.List.{list_any}
use Rattle.std.specs.Str.{bytes_eq}
use Rattle.uimg_fit_reading.specs.Values.{pieces}
use Rattle.uimg_checks.specs.ReferenceNames.{has_name}
use Rattle.uimg_checks.proofs.choosing.add_texts.Given as goal

-- what is left is all that is not added yet
abbrev pub invariant-loop-rest : goal.invariant-loop-rest
invariant-loop-rest l = record {
  left : (name : List ℕ) → (list_any (bytes_eq name) (pieces l.rest) || has_name l.names name) ≡ (list_any (bytes_eq name) (pieces l.value) || has_name l.fn.names name);
}

abbrev pub decreases-loop-rest : goal.decreases-loop-rest
decreases-loop-rest l = length l.rest
