use Rattle.std.proofs.Common.{◌≡◌, ◌≤◌, ◌+◌, take, ℕ, List, map, drop, IsTrue}
use Rattle.std.specs.List.{sum_by}
use Rattle.uimg_checks.specs.ReferenceWork.{values_size}
use Rattle.uimg_base.specs.Device.{SameDevice}
use Rattle.uimg_fit_checking.specs.Survey.{read_configuration}
use Rattle.uimg_checks.specs.ReferenceNames.{HasNames}
use Rattle.uimg_checks.specs.References.{first_missing}
use Rattle.uimg_checks.proofs.references.missing.first_missing.Given as goal

-- no configuration so far gives a name that is missing
abbrev pub invariant-loop-configuration : goal.invariant-loop-configuration
invariant-loop-configuration g l =
    let device = g.S.Source.device in
    record {
      same : SameDevice (device l.fn.source) (device l.source);
      asked : (device l.source).asked ≤ (device l.fn.source).asked + sum_by values_size (take l.configuration-index l.configurations);
      failures : (device l.source).failures ≡ (device l.fn.source).failures;
      left : IsTrue (device l.fn.source).honest → (list : List (List ℕ)) → HasNames l.images list
          → first_missing list (map (read_configuration (device l.fn.source).bytes) (drop l.configuration-index l.configurations))
          ≡ first_missing list (map (read_configuration (device l.fn.source).bytes) l.configurations);
    }
