use Rattle.std.proofs.Common.{◌<◌, length, IfSome}
use Rattle.uimg_blob_reading.specs.{Grammar.Siblings, Indexed.IsIndexed}
use Rattle.uimg_fit_reading.proofs.ImageLaws.{LeftImages}
use Rattle.uimg_fit_reading.proofs.images.image_at.Given as goal

-- the images before the next one are passed
abbrev pub invariant-loop-before : goal.invariant-loop-before
invariant-loop-before g l = record {
  within : IfSome l.next (λ i. i < length l.room.entries);
  left : (t : Siblings) → IsIndexed t l.blob l.room.entries → LeftImages t l._before l.next;
}
