use Rattle.std.{proofs.Common.{◌≡◌, ◌≤◌, ◌+◌, ◌++◌, take, drop, map, IsTrue}, specs.List.sum_by}
use Rattle.json.specs.Tree.{json_tokens, items_tokens}
use Rattle.uimg_base.specs.Device.{SameDevice}
use Rattle.uimg_fit_checking.specs.{FullSurvey.read_properties, Survey.read_configuration}
use Rattle.uimg_info.specs.{Fit.configurations_json, Work.{configuration_size, list_size}}
use Rattle.uimg_printing.specs.Members.{items_of, array_of}
use Rattle.uimg_info.proofs.configurations.put_configurations.Given as goal

-- with those that are left, all are there
abbrev pub invariant-loop-i : goal.invariant-loop-i
invariant-loop-i g l =
    let device = g.S.Source.device in
    let file = (device l.fn.source).bytes in
    record {
      same : SameDevice (device l.fn.source) (device l.source);
      asked : (device l.source).asked ≤ (device l.fn.source).asked + (sum_by configuration_size (take l.i l.configurations) + sum_by list_size (take l.i l.properties));
      failures : (device l.source).failures ≡ (device l.fn.source).failures;
      before : l.writer.before ≡ l.fn.writer.before;
      all : IsTrue (device l.fn.source).honest → l.writer.tokens ++ items_tokens (items_of (configurations_json (map (read_configuration file) (drop l.i l.configurations)) (map (read_properties file) (drop l.i l.properties)))) ≡ l.fn.writer.tokens ++ json_tokens (array_of (configurations_json (map (read_configuration file) l.configurations) (map (read_properties file) l.properties)));
    }
