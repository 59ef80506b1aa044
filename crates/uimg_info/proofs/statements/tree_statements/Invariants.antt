use Rattle.std.proofs.Common.{◌≡◌, ◌-◌, ◌++◌, [], length, drop, map}
use Rattle.uimg_base.specs.Device.{SameDevice}
use Rattle.uimg_blob_reading.specs.{Grammar.Siblings, Rows.table}
use Rattle.uimg_fit_reading.specs.Nodes.{Opened}
use Rattle.uimg_info.specs.{Statement.stated, Statements.{nodes_stated, path_items}}
use Rattle.uimg_info.proofs.statements.tree_statements.Given as goal

-- with the nodes that are left, all are stated
abbrev pub invariant-loop-node : goal.invariant-loop-node
invariant-loop-node g l =
    let device = g.S.Source.device in
    record {
      same : SameDevice (device l.fn.source) (device l.source);
      failures : (device l.source).failures ≡ (device l.fn.source).failures;
      room : l.room ≡ l.fn.room;
      most : l.most ≡ length l.fn.room.entries;
      left : (t : Siblings) → Opened (device l.fn.source) l.blob l.fn.room t
          → map stated l.all.items ++ nodes_stated (device l.fn.source).bytes l.blob.totalsize (map path_items l.paths.items) (drop l.node (table t))
          ≡ nodes_stated (device l.fn.source).bytes l.blob.totalsize [] (table t);
    }

abbrev pub decreases-loop-node : goal.decreases-loop-node
decreases-loop-node g l = l.most - l.node
