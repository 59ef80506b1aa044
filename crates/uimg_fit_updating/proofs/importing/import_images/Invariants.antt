use Rattle.std.proofs.Common.{◌≡◌, length, drop, IsTrue}
use Rattle.uimg_base.specs.Device.{SameDevice}
use Rattle.uimg_blob_reading.specs.Plain.{AllValues}
use Rattle.uimg_blob_writing.specs.{Content.IsBytes, Trees.siblings}
use Rattle.uimg_fit_building.{specs.Behind.entry, proofs.EachLaws.ChangedTo}
use Rattle.uimg_fit_updating.specs.Importing.{imported}
use Rattle.uimg_fit_updating.proofs.importing.import_images.Given as goal

-- the images before the index have their payloads, and the others are as they were
abbrev pub invariant-loop-image : goal.invariant-loop-image
invariant-loop-image g l =
    let device = g.S.Source.device in
    record {
      same : SameDevice (device l.fn.source) (device l.source);
      long : length l.images ≡ length l.fn.images;
      in_memory : AllValues IsBytes (siblings l.fn.images) → AllValues IsBytes (siblings l.images);
      rest : drop l.image-index l.images ≡ drop l.image-index l.fn.images;
      changed : IsTrue (device l.fn.source).honest → ChangedTo entry (imported (device l.fn.source).bytes l.totalsize) l.fn.images l.images l.image-index;
    }
