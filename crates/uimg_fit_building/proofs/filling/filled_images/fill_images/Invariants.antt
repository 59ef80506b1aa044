use Rattle.std.proofs.Common.{◌≡◌, length, map, take, drop, None, IsTrue}
use Rattle.std.specs.List.{AllByRecursion}
use Rattle.uimg_base.specs.Named.{SameFiles}
use Rattle.uimg_fit_building.specs.{Behind.entry, FillOrder.IsPassed, PayloadSums.no_files}
use Rattle.uimg_fit_building.specs.ImageFillings.{filled_over, first_in_memory}
use Rattle.uimg_fit_building.specs.DigestBytes.{zeroed_image}
use Rattle.uimg_fit_building.proofs.{EachLaws.{ChangedTo, AgreeTo}, OpenedFilesLaws.FirstOpened}
use Rattle.uimg_fit_building.proofs.filling.filled_images.fill_images.Given as goal

-- the images before the index are filled, over any files but for their digests, none of them is refused, and the others are as they were
abbrev pub invariant-loop-image : goal.invariant-loop-image
invariant-loop-image g l =
    let files = g.F.Files.map l.fn.files in
    record {
      long : length l.images ≡ length l.fn.images;
      same : SameFiles files (g.F.Files.map l.files);
      opened : FirstOpened l.fn.images l.image-index files (g.F.Files.map l.files);
      refusals : (g.F.Files.map l.files).refusals ≡ files.refusals;
      rest : drop l.image-index l.images ≡ drop l.image-index l.fn.images;
      filled : IsTrue files.honest → ChangedTo entry (filled_over l.naming files.bytes) l.fn.images l.images l.image-index;
      sound : IsTrue files.honest → first_in_memory l.naming (map entry (take l.image-index l.fn.images)) ≡ None;
      zeroed : AgreeTo (λ n. zeroed_image l.naming (entry n)) (λ n. zeroed_image l.naming (filled_over l.naming no_files (entry n))) l.fn.images l.images l.image-index;
      passed : IsTrue files.honest → AllByRecursion (IsPassed l.naming files.bytes) (map entry (take l.image-index l.fn.images));
    }
