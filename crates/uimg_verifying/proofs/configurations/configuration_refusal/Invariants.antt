use Rattle.std.proofs.Common.{◌≡◌, ◌-◌, length, drop, Some, false}
use Rattle.std.specs.List.{slice_get}
use Rattle.uimg_base.specs.Using.{Uses}
use Rattle.uimg_blob_reading.specs.{Grammar.Siblings, Rows.{Row, table}}
use Rattle.uimg_fit_reading.specs.Nodes.{Opened}
use Rattle.uimg_verifying.specs.Configurations.{configuration_refusal, refused_from}
use Rattle.uimg_verifying.proofs.configurations.configuration_refusal.Given as goal

-- the nodes from this one on decide as all do
abbrev pub invariant-loop-node : goal.invariant-loop-node
invariant-loop-node g l =
    let d = g.S.Source.device l.fn.source in
    record {
      uses : Uses false d (g.S.Source.device l.source);
      room : l.room ≡ l.fn.room;
      left : (t : Siblings) → Opened d l.blob l.fn.room t → (its : Row) → slice_get (table t) l.configuration ≡ Some its →
          refused_from l.by.takes_sha1 l.by.key.now d.bytes (table t) l.configuration its l.why l.left (drop l.node (table t))
          ≡ configuration_refusal l.by.takes_sha1 l.by.key.now d.bytes (table t) l.configuration its;
    }

abbrev pub decreases-loop-node : goal.decreases-loop-node
decreases-loop-node g l = length l.fn.room.entries - l.node
