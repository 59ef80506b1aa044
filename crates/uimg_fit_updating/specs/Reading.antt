-- Trees in memory that were read from a file.
use Rattle.std.specs.Prelude.{◌≡◌, ℕ, List, length, map, Option, Some, Ok}
use Rattle.uimg_texts.specs.{Numbers.be32, Slices.slice}
use Rattle.uimg_base.specs.{Device.Device, Held.Held}
use Rattle.uimg_blob_reading.specs.declared.{nodes.Blob.Blob, places.PropertyPlace.PropertyPlace}
use Rattle.uimg_blob_reading.specs.{Blob.tree, Grammar.Siblings, LookUps.NodeOf}
use Rattle.uimg_blob_reading.specs.Plain.{NamedOf, NodesOf, with_value, with_values}
use Rattle.uimg_blob_reading.specs.{Roles.Level, Spots.{Spot, spots}}
use Rattle.uimg_blob_writing.specs.Content.{Content, Unread, bytes}
use Rattle.uimg_blob_writing.specs.declared.reservation.Reservation.{Reservation}
use Rattle.uimg_fit_reading.specs.Nodes.{Opened, AreFrom}
use Rattle.uimg_fit_updating.specs.Reservations.{reservations_of}

-- a value of a file, in memory
abbrev pub held_value : Spot → Content
held_value s = bytes s.bytes

abbrev pub held_property : NamedOf Spot → NamedOf Content
held_property p = with_value held_value p

-- nodes of a file, in memory
abbrev pub held : NodesOf Spot → Unread
held t = with_values held_value t

abbrev pub held_node : NodeOf Spot → NodeOf Content
held_node n = record { name = n.name; own = map held_property n.own; below = held n.below }

-- the property that these spans give in a file, in memory
abbrev pub read_property : List ℕ → PropertyPlace → NamedOf Content
read_property file x = record {
  name = slice file x.name.place x.name.length;
  value = bytes (slice file x.value.place x.value.length);
}

-- Over an honest device whose tree was read: a fact about the nodes from a number on, at any level.
abbrev pub FromAnyLevel : Device → Blob → Held → Option ℕ → (List (NodeOf Spot) → Type 0) → Type 0
FromAnyLevel d blob room first P =
    (t : Siblings) → Opened d blob room t → (level : Level) (found : List (NodeOf Spot))
    → AreFrom t level first found → P found

-- The nodes are those of the tree of a file, with all properties in order, the entries those of its
-- reservation block, and the blob has this size.
pub record IsHeld (file : List ℕ) (nodes : Unread) (rs : List Reservation) (totalsize : ℕ)
    : Type 0 where
  pub found : Siblings
  pub read : tree file ≡ Ok found
  pub is : nodes ≡ held (spots found)
  pub size : totalsize ≡ be32 file 4
  pub reserves : reservations_of file ≡ Some rs
