-- What is written is the listing.
use Rattle.std.proofs.Common.{◌≡◌, ℕ, List, ◌++◌, Option, Ok, Result, codes, refl, ap, sym}
use Rattle.uimg_base.specs.Outcome.{after, unless_refused}
use Rattle.uimg_texts.specs.declared.naming.Naming.{Naming}
use Rattle.uimg_blob_reading.specs.{Blob.tree, Grammar.Siblings, Reading.Fault as BlobFaultAt}
use Rattle.uimg_blob_reading.specs.Plain.{NamedOf, NodesOf}
use Rattle.uimg_blob_reading.specs.{LookUps.{NodeOf, images, configurations}, Spots.{Spot, spots}}
use Rattle.uimg_fit_base.specs.Files.{value_bytes, cell, root_own, spots_in}
use Rattle.uimg_fit_reading.specs.Heads.{description_line, created_line}
use Rattle.uimg_fit_reading.specs.Listing.{head_lines, time_of, image_lines, numbered_lines, configurations_lines, lists, list_of}

-- the head lines
pub head_is : (root : List (NamedOf Spot)) (time : Option ℕ) (description : Option (List ℕ)) → time ≡ cell root (codes "timestamp") → value_bytes root (codes "description") ≡ description
    → description_line description ++ created_line time ≡ head_lines root
head_is root time description is are = rw (sym are, is) refl

-- what stands after the head lines
pub body_is : (naming : Naming) (file : List ℕ) (t : NodesOf Spot) (time : Option ℕ) (found : List (NodeOf Spot)) → time ≡ cell (root_own t) (codes "timestamp")
    → numbered_lines (image_lines naming file time) 0 found ++ configurations_lines naming (configurations t) ≡ numbered_lines (image_lines naming file (time_of (root_own t))) 0 found ++ configurations_lines naming (configurations t)
body_is naming file t time found is = ap (λ (o : Option ℕ). numbered_lines (image_lines naming file o) 0 found ++ configurations_lines naming (configurations t)) is

-- the listing of a file whose tree is known
pub list_is : (naming : Naming) (file : List ℕ) (t : Siblings) → tree file ≡ Ok t → list_of naming file ≡ after (head_lines (root_own (spots t))) (lists naming file (spots t) (images (spots t)))
list_is naming file t is = ap (λ (r : Result Siblings BlobFaultAt). unless_refused (spots_in r) (λ (n : NodesOf Spot). after (head_lines (root_own n)) (lists naming file n (images n)))) is
