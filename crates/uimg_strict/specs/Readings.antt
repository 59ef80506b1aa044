-- That U-Boot reads a FIT image as a check does.
use Rattle.std.specs.Prelude.{◌≡◌, ℕ, List, Some, Ok, true}
use Rattle.std.specs.List.{AllByRecursion}
use Rattle.uimg_texts.specs.declared.naming.Naming.TheVariants as naming
use Rattle.uimg_base.specs.declared.spans.Span.{Span}
use Rattle.uimg_blob_reading.specs.Blob.{tree}
use Rattle.uimg_blob_reading.specs.Grammar.{Siblings}
use Rattle.uimg_blob_reading.specs.LookUps.{NodeOf, hashes, images}
use Rattle.uimg_blob_reading.specs.Plain.{NodesOf}
use Rattle.uimg_blob_reading.specs.Spots.{Spot, spots}
use Rattle.uimg_fit_base.specs.Places.{place, bytes_at}
use Rattle.uimg_fit_base.specs.Report.{named_word, is_right}
use Rattle.uimg_strict.specs.UBoot.{has_format, images_found, image_found, payload_found}
use Rattle.uimg_strict.specs.UBoot.{hashes_compared}

-- U-Boot finds the payload that a check hashes.
abbrev pub SamePayload : List ℕ → NodeOf Spot → Type 0
SamePayload file image = (p : Span) → place file image ≡ Ok p → payload_found file image ≡ Some p

-- U-Boot takes the format. It finds just these images, in this order and each by its name, with the
-- payload that a check hashes, and compares just the hash nodes that a check compares.
pub record ReadsSame (file : List ℕ) (t : NodesOf Spot) (found : List (NodeOf Spot)) : Type 0 where
  pub format : has_format t ≡ true
  pub images : images_found t ≡ Some found
  pub named : AllByRecursion (λ image. image_found t image.name ≡ Some image) found
  pub payloads : AllByRecursion (SamePayload file) found
  pub hashes : AllByRecursion (λ image. hashes_compared file image ≡ hashes image) found

-- An image has a payload, with which each of its hash nodes was compared and is right.
pub record RightPayload (file : List ℕ) (image : NodeOf Spot) : Type 0 where
  pub at : Span
  pub message : List ℕ
  pub is : place file image ≡ Ok at
  pub bytes : bytes_at file at ≡ Ok message
  pub right : AllByRecursion (λ h. is_right (named_word naming.All message h) ≡ true) (hashes image)

-- A file has a tree with images, whose payloads are right, and U-Boot reads it as the check did.
pub record ReadAsChecked (file : List ℕ) : Type 0 where
  pub nodes : Siblings
  pub found : List (NodeOf Spot)
  pub tree_is : tree file ≡ Ok nodes
  pub images_are : images (spots nodes) ≡ Some found
  pub right : AllByRecursion (RightPayload file) found
  pub same : ReadsSame file (spots nodes) found
