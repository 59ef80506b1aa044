use Rattle.std.proofs.Common.{◌≡◌, ◌++◌, drop, flat_map, map, false}
use Rattle.uimg_base.specs.Using.{Uses}
use Rattle.uimg_blob_reading.specs.{Grammar.Siblings, Rows.table}
use Rattle.uimg_fit_reading.specs.Nodes.{Opened}
use Rattle.uimg_verifying.specs.Results.{read_result, result_at}
use Rattle.uimg_verifying.proofs.results.results_at.Given as goal

-- the results so far and those of the nodes from this one on are all
abbrev pub invariant-loop-at : goal.invariant-loop-at
invariant-loop-at g l =
    let d = g.S.Source.device l.fn.source in
    record {
      uses : Uses false d (g.S.Source.device l.source);
      room : l.room ≡ l.fn.room;
      left : (t : Siblings) → Opened d l.blob l.fn.room t →
          map read_result l.all.items ++ flat_map (result_at l.required d.bytes (table t)) (drop l.at-index l.nodes)
          ≡ flat_map (result_at l.required d.bytes (table t)) l.nodes;
    }
