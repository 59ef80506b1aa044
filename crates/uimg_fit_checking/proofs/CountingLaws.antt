-- The images that are counted, and those that are left.
use Rattle.std.proofs.Common.{◌≡◌, ◌+◌, ◌≤◌, ◌<◌, IfSome, ℕ, List, ◌∷◌, length, Option, Some, None, Result, Ok, ap, subst, arith}
use Rattle.uimg_base.specs.Results.{◌>>=◌}
use Rattle.uimg_blob_reading.specs.Blob.{tree}
use Rattle.uimg_blob_reading.specs.Grammar.{Siblings}
use Rattle.uimg_blob_reading.specs.LookUps.{NodeOf, images}
use Rattle.uimg_blob_reading.specs.Roles.{in_images, level_after}
use Rattle.uimg_blob_reading.specs.Spots.{Spot, spots}
use Rattle.uimg_fit_base.specs.declared.fault.Fault.{Fault}
use Rattle.uimg_fit_base.proofs.FileLaws.{images_are}
use Rattle.uimg_fit_checking.specs.Counting.{count_of}
use Rattle.uimg_fit_reading.specs.Nodes.{AreFrom}
use Rattle.uimg_fit_reading.proofs.ImageLaws.{front, none_left}

-- So many images were counted, and the others follow one another from a number on.
pub record LeftCounted (t : Siblings) (found : List (NodeOf Spot)) (count : ℕ) (next : Option ℕ) : Type 0 where
  pub left : List (NodeOf Spot)
  pub from : AreFrom t in_images next left
  pub sum : count + length left ≡ length found

pub none_counted : (t : Siblings) (found : List (NodeOf Spot)) (first : Option ℕ) → AreFrom t in_images first found → LeftCounted t found 0 first
none_counted t found first from = record { left = found; from = from; sum = omega arith }

pub one_counted : (t : Siblings) (found : List (NodeOf Spot)) (count i : ℕ) (next : Option ℕ) → LeftCounted t found count (Some i)
    → ((image : NodeOf Spot) (more : List (NodeOf Spot)) → AreFrom t in_images (Some i) (image ∷ more) → AreFrom t (level_after in_images image.name) next more) → LeftCounted t found (count + 1) next
one_counted t found count i next k follows =
    let f = front t in_images i k.left k.from in
    record {
      left = f.more;
      from = follows f.image f.more (subst (λ (l : List (NodeOf Spot)). AreFrom t in_images (Some i) l) f.are k.from);
      sum = omega (arith, k.sum, ap (λ (l : List (NodeOf Spot)). length l) f.are);
    }

pub all_counted : (t : Siblings) (found : List (NodeOf Spot)) (count : ℕ) → LeftCounted t found count None → count ≡ length found
all_counted t found count k = omega (arith, k.sum, ap (λ (l : List (NodeOf Spot)). length l) (none_left t in_images k.left k.from))

-- numbers rise, so as many as there are entries are all
pub past_counted : (t : Siblings) (found : List (NodeOf Spot)) (count most : ℕ) (next : Option ℕ) → LeftCounted t found count next → IfSome next (λ i. count ≤ i) → IfSome next (λ i. i < most) → most ≤ count → count ≡ length found
past_counted t found count most None k below within all = all_counted t found count k
past_counted t found count most (Some i) k below within all = absurd (omega (arith, below, within, all))

-- the count of a file's images
pub count_is : (file : List ℕ) (t : Siblings) (found : List (NodeOf Spot)) → tree file ≡ Ok t → images (spots t) ≡ Some found → count_of file ≡ Ok (length found)
count_is file t found is has = ap (λ (r : Result (List (NodeOf Spot)) Fault). r >>= (λ all. Ok (length all))) (images_are file t (Some found) is has)
