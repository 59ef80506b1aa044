-- A FIT image whose blob was indexed.
use Rattle.std.specs.Prelude.{length, IsTrue}
use Rattle.uimg_base.specs.{Device.Device, Held.Held}
use Rattle.uimg_blob_reading.specs.declared.nodes.Blob.{Blob}
use Rattle.uimg_fit_reading.specs.Nodes.{InFile, HasTree}

-- The entries index some tree, whose blob ends in the device; if it is honest, the tree of its bytes.
pub record IndexedIn (d : Device) (blob : Blob) (room : Held) : Type 0 where
  pub file : InFile (length d.bytes) blob room.entries
  pub tree : IsTrue d.honest → HasTree d.bytes blob room.entries
