use Rattle.std.proofs.Common.{◌≡◌, ◌+◌, ◌*◌, ◌-◌, ◌<◌, List, length, IfSome}
use Rattle.std.specs.Option.{option_map_or}
use Rattle.uimg_base.specs.Device.{SameDevice}
use Rattle.uimg_blob_reading.specs.Plain.{AllValues}
use Rattle.uimg_blob_reading.specs.{Grammar.Siblings, LookUps.NodeOf, Roles.Level, Spots.Spot}
use Rattle.uimg_blob_writing.specs.{Content.IsBytes, Trees.siblings}
use Rattle.uimg_fit_reading.specs.Nodes.{Opened, AreFrom}
use Rattle.uimg_fit_updating.proofs.ReadLaws.{Gathered}
use Rattle.uimg_fit_updating.proofs.reading.nodes.+read_nodes.Given as goal

abbrev pub decreases-read_node : goal.decreases-read_node
decreases-read_node g l = 2 * l.levels + 1

abbrev pub decreases-read_nodes : goal.decreases-read_nodes
decreases-read_nodes g l = 2 * l.levels

-- the nodes before the next one were read
abbrev pub invariant-read_nodes-loop-next : goal.invariant-read_nodes-loop-next
invariant-read_nodes-loop-next g l =
    let device = g.S.Source.device in
    record {
      same : SameDevice (device l.fn.source) (device l.source);
      room : l.room ≡ l.fn.room;
      within : IfSome l.next (λ i. i < length l.fn.room.entries);
      in_memory : AllValues IsBytes (siblings l.nodes.items);
      left : (t : Siblings) → Opened (device l.fn.source) l.blob l.fn.room t → (level : Level) (all : List (NodeOf Spot)) → AreFrom t level l.fn.first all
          → Gathered t l.nodes.items l.next all;
    }

abbrev pub decreases-read_nodes-loop-next : goal.decreases-read_nodes-loop-next
decreases-read_nodes-loop-next g l = option_map_or (λ i. length l.fn.room.entries - i) l.next 0
