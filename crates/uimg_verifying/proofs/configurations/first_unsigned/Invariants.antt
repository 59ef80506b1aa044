use Rattle.std.proofs.Common.{◌≡◌, ◌-◌, length, drop, false}
use Rattle.uimg_base.specs.Using.{Uses}
use Rattle.uimg_blob_reading.specs.{Grammar.Siblings, Rows.table}
use Rattle.uimg_fit_reading.specs.Nodes.{Opened}
use Rattle.uimg_verifying.specs.Configurations.{unsigned_from}
use Rattle.uimg_verifying.proofs.configurations.first_unsigned.Given as goal

-- the nodes from this one on decide as all do
abbrev pub invariant-loop-node : goal.invariant-loop-node
invariant-loop-node g l =
    let d = g.S.Source.device l.fn.source in
    record {
      uses : Uses false d (g.S.Source.device l.source);
      room : l.room ≡ l.fn.room;
      left : (t : Siblings) → Opened d l.blob l.fn.room t →
          unsigned_from l.required d.bytes (table t) l.node l.has_any (drop l.node (table t))
          ≡ unsigned_from l.required d.bytes (table t) 0 false (table t);
    }

abbrev pub decreases-loop-node : goal.decreases-loop-node
decreases-loop-node g l = length l.fn.room.entries - l.node
