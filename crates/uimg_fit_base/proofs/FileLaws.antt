-- The images of a file.
use Rattle.std.proofs.Common.{◌≡◌, ℕ, List, Option, Ok, Result, ap, ◌∙◌}
use Rattle.uimg_base.specs.Results.{◌>>=◌}
use Rattle.uimg_blob_reading.specs.{Reading.Fault as BlobFaultAt, Blob.tree, Grammar.Siblings}
use Rattle.uimg_blob_reading.specs.{Plain.NodesOf, LookUps.{NodeOf, images}, Spots.{Spot, spots}}
use Rattle.uimg_fit_base.specs.Files.{spots_in, listed_or, images_of}

-- the images of a file whose tree is known
pub images_are : (file : List ℕ) (t : Siblings) (o : Option (List (NodeOf Spot))) → tree file ≡ Ok t → images (spots t) ≡ o → images_of file ≡ listed_or o
images_are file t o is found =
    ap (λ (r : Result Siblings BlobFaultAt). spots_in r >>= (λ (n : NodesOf Spot). listed_or (images n))) is ∙ ap listed_or found
