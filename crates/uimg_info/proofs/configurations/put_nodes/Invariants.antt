use Rattle.std.{proofs.Common.{◌≡◌, ◌≤◌, ◌+◌, ◌++◌, take, drop, map, IsTrue}, specs.List.sum_by}
use Rattle.json.specs.Tree.{json_tokens, items_tokens}
use Rattle.uimg_base.specs.Device.{SameDevice}
use Rattle.uimg_fit_checking.specs.Survey.{read_name}
use Rattle.uimg_info.specs.{Fit.node_json, Work.node_size}
use Rattle.uimg_printing.specs.Members.{items_of, array_of}
use Rattle.uimg_info.proofs.configurations.put_nodes.Given as goal

-- with those that are left, all are there
abbrev pub invariant-loop-node : goal.invariant-loop-node
invariant-loop-node g l =
    let device = g.S.Source.device in
    let file = (device l.fn.source).bytes in
    record {
      same : SameDevice (device l.fn.source) (device l.source);
      asked : (device l.source).asked ≤ (device l.fn.source).asked + sum_by node_size (take l.node-index l.nodes);
      failures : (device l.source).failures ≡ (device l.fn.source).failures;
      before : l.writer.before ≡ l.fn.writer.before;
      all : IsTrue (device l.fn.source).honest → l.writer.tokens ++ items_tokens (items_of (map node_json (map (read_name file) (drop l.node-index l.nodes)))) ≡ l.fn.writer.tokens ++ json_tokens (array_of (map node_json (map (read_name file) l.nodes)));
    }
