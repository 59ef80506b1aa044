use Rattle.std.{proofs.Common.{◌≡◌, ◌≤◌, ◌+◌, ◌++◌, take, drop, map, IsTrue}, specs.List.sum_by}
use Rattle.uimg_base.specs.Device.{SameDevice}
use Rattle.uimg_printing.specs.Members.{tokens_of}
use Rattle.uimg_info.specs.{Members.facts_members, Steps.read_row, Work.row_size}
use Rattle.uimg_info.proofs.facts.put_rows.Given as goal

-- with the facts that are left, all are there
abbrev pub invariant-loop-row : goal.invariant-loop-row
invariant-loop-row g l =
    let device = g.S.Source.device in
    let file = (device l.fn.source).bytes in
    record {
      same : SameDevice (device l.fn.source) (device l.source);
      asked : (device l.source).asked ≤ (device l.fn.source).asked + sum_by row_size (take l.row-index l.rows);
      failures : (device l.source).failures ≡ (device l.fn.source).failures;
      before : l.writer.before ≡ l.fn.writer.before;
      all : IsTrue (device l.fn.source).honest → l.writer.tokens ++ tokens_of (facts_members (map (read_row file) (drop l.row-index l.rows))) ≡ l.fn.writer.tokens ++ tokens_of (facts_members (map (read_row file) l.rows));
    }
