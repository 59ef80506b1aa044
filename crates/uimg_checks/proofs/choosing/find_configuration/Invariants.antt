use Rattle.std.proofs.Common.{◌≡◌, map, drop, IsTrue}
use Rattle.uimg_base.specs.Device.{SameDevice}
use Rattle.uimg_fit_checking.specs.Survey.{read_configuration}
use Rattle.uimg_checks.specs.Choices.{configuration_of}
use Rattle.uimg_checks.proofs.choosing.find_configuration.Given as goal

-- no configuration so far has the name
abbrev pub invariant-loop-configuration : goal.invariant-loop-configuration
invariant-loop-configuration g l =
    let device = g.S.Source.device in
    let file = (device l.fn.source).bytes in
    record {
      same : SameDevice (device l.fn.source) (device l.source);
      left : IsTrue (device l.fn.source).honest → configuration_of l.name (map (read_configuration file) (drop l.configuration-index l.configurations)) ≡ configuration_of l.name (map (read_configuration file) l.configurations);
    }
