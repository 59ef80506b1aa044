-- The payload of an image, found by name.
use Rattle.std.specs.Prelude.{◌≡◌, ℕ, List, [], ◌∷◌, Option, Some, None, Result, Ok, Err}
use Rattle.std.specs.Prelude.{if◌then◌else◌}
use Rattle.std.specs.List.{slice_get}
use Rattle.std.specs.Str.{bytes_eq}
use Rattle.uimg_base.specs.{Results.◌>>=◌, declared.spans.Span.Span}
use Rattle.uimg_blob_reading.specs.Grammar.{Siblings}
use Rattle.uimg_blob_reading.specs.LookUps.{NodeOf, images}
use Rattle.uimg_blob_reading.specs.Roles.{in_images}
use Rattle.uimg_blob_reading.specs.Spots.{Spot, spots}
use Rattle.uimg_fit_base.specs.declared.fault.Fault.{Fault}
use Rattle.uimg_fit_base.specs.declared.fault.FitFault.{FitFault}
use Rattle.uimg_fit_base.specs.declared.fault.FitFault.TheVariants.{NoImages, NoSuchImage}
use Rattle.uimg_fit_base.specs.Extraction.{of_images, payload_of}
use Rattle.uimg_fit_base.specs.Files.{images_of}
use Rattle.uimg_fit_reading.specs.{Nodes.IsNode, PayloadPlaces.place_of}

-- the first image of a name
unfoldable pub named : List ℕ → List (NodeOf Spot) → Option (NodeOf Spot)
named name [] = None
named name (image ∷ more) = if bytes_eq name image.name then Some image else named name more

-- the payload of the first image of a name, or the first fault
abbrev pub payload_named : List ℕ → List ℕ → Result (List ℕ) Fault
payload_named file name = do
  found ← images_of file
  of_images (payload_of file (named name found))

-- the span of that payload, which may end after the file, or the first fault before it
abbrev pub place_named : List ℕ → List ℕ → Result Span Fault
place_named file name = do
  found ← images_of file
  of_images (place_of file (named name found))

-- the name of an image, or `NoSuchImage`
abbrev pub image_name : Option (NodeOf Spot) → Result (List ℕ) FitFault
image_name (Some image) = Ok image.name
image_name None = Err NoSuchImage

-- the name of the image at a position, or the first fault
abbrev pub name_at : List ℕ → ℕ → Result (List ℕ) Fault
name_at file position = do
  found ← images_of file
  of_images (image_name (slice_get found position))

-- The first image of a name has this number.
pub record HasNamed (t : Siblings) (name : List ℕ) (number : ℕ) : Type 0 where
  pub found : List (NodeOf Spot)
  pub image : NodeOf Spot
  pub is : images (spots t) ≡ Some found
  pub has : named name found ≡ Some image
  pub node : IsNode t in_images number image

-- The tree has images, but none of this name.
pub record LacksNamed (t : Siblings) (name : List ℕ) : Type 0 where
  pub found : List (NodeOf Spot)
  pub is : images (spots t) ≡ Some found
  pub lacks : named name found ≡ None

-- what a result says of the first image of a name
abbrev pub TellsNamed : Siblings → List ℕ → Result ℕ FitFault → Type 0
TellsNamed t name (Ok number) = HasNamed t name number
TellsNamed t name (Err NoImages) = images (spots t) ≡ None
TellsNamed t name (Err NoSuchImage) = LacksNamed t name
TellsNamed t name (Err _) = ⊥
