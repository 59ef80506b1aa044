use Rattle.std.proofs.Common.{◌≡◌, ◌-◌, length, drop, Some, false}
use Rattle.std.specs.List.{list_any, slice_get}
use Rattle.uimg_base.specs.Using.{Uses}
use Rattle.uimg_blob_reading.specs.{Grammar.Siblings, Rows.{Row, table}}
use Rattle.uimg_fit_reading.specs.Nodes.{Opened}
use Rattle.uimg_verifying.specs.Covering.{covers, is_covered}
use Rattle.uimg_verifying.proofs.covering.is_covered.Given as goal

-- the nodes from this one on decide as all do
abbrev pub invariant-loop-node : goal.invariant-loop-node
invariant-loop-node g l =
    let d = g.S.Source.device l.fn.source in
    record {
      uses : Uses false d (g.S.Source.device l.source);
      room : l.room ≡ l.fn.room;
      left : (t : Siblings) → Opened d l.blob l.fn.room t → (row : Row) → slice_get (table t) l.image ≡ Some row →
          list_any (covers d.bytes row) (drop l.node (table t)) ≡ is_covered d.bytes (table t) row;
    }

abbrev pub decreases-loop-node : goal.decreases-loop-node
decreases-loop-node g l = length l.fn.room.entries - l.node
