use Rattle.std.proofs.Common.{◌≡◌, ◌≤◌, ◌+◌, map, take, IsTrue}
use Rattle.std.specs.List.{sum_by}
use Rattle.uimg_base.specs.Device.{SameDevice}
use Rattle.uimg_checks.specs.ReferenceNames.{HasNames, configuration_name_in}
use Rattle.uimg_checks.proofs.references.names.configuration_names.Given as goal

-- the set has the names so far
abbrev pub invariant-loop-configuration : goal.invariant-loop-configuration
invariant-loop-configuration g l =
    let device = g.S.Source.device in
    record {
      same : SameDevice (device l.fn.source) (device l.source);
      asked : (device l.source).asked ≤ (device l.fn.source).asked + sum_by (λ c. c.name.length) (take l.configuration-index l.configurations);
      failures : (device l.source).failures ≡ (device l.fn.source).failures;
      told : IsTrue (device l.fn.source).honest → HasNames l.names (map (configuration_name_in (device l.fn.source).bytes) (take l.configuration-index l.configurations));
    }
