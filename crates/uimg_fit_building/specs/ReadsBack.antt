-- What is read back from a built file.
use Rattle.std.specs.{Prelude.{◌≡◌, ℕ, List, Some}, List.slice_get}
use Rattle.uimg_base.specs.Outcome.{done, told}
use Rattle.uimg_blob_reading.specs.{Plain.Nodes, LookUps.{NodeOf, images}}
use Rattle.uimg_fit_base.specs.{Report.verify_of, Extraction.extract_of}
use Rattle.uimg_fit_building.specs.Building.{data_of}

-- The file's hashes are right, and the payload at each position is the first `data` of the tree's
-- image of that number.
pub record ReadsBack (file : List ℕ) (t : Nodes) : Type 0 where
  -- each line of the report ends in `ok` or `unhashed`
  pub report : (verify_of file).end ≡ done
  pub extraction : (position : ℕ) (found : List (NodeOf (List ℕ))) (image : NodeOf (List ℕ))
      → images t ≡ Some found → slice_get found position ≡ Some image →
      extract_of file position ≡ told (data_of image.own) done
