-- The images of a file, as a map needs them.
use Rattle.std.specs.Prelude.{◌≡◌, ◌≤◌, ℕ, List, map, Option, Result, Ok, Err}
use Rattle.std.specs.List.{All}
use Rattle.uimg_texts.specs.Slices.{slice}
use Rattle.uimg_blob_reading.specs.{Blob.tree, LookUps.NodeOf, Rows.Row, Spots.Spot}
use Rattle.uimg_fit_base.specs.Files.{bytes_in}
use Rattle.uimg_fit_checking.specs.Survey.{ImageSaid, Said, survey_of}
use Rattle.uimg_fit_checking.specs.SurveyParts.{Surveys}
use Rattle.uimg_fit_checking.specs.declared.surveying.fault.SurveyFault.{SurveyFault}
use Rattle.uimg_fit_reading.specs.PayloadPlaces.{PayloadInside, PayloadSaid, payload_said, read_payload}
use Rattle.uimg_map.specs.declared.images.{Image.Image, Images.Images}
use Rattle.uimg_map.specs.Signatures.{covered_by, covered_in}
use Rattle.uimg_signing.specs.declared.configuration_signatures.SignatureNode.{SignatureNode}

-- An image: its name, where its payload is, and the configuration whose signature covers it.
pub record ImageTold : Type 0 where
  pub name : List ℕ
  pub payload : PayloadSaid
  pub covered : Option (List ℕ)

-- an image of a file
abbrev pub told_of : List ℕ → ImageSaid → ImageTold
told_of file image = record {
  name = image.name;
  payload = image.payload;
  covered = covered_in file (tree file) image.name;
}

-- the same for a node, by the signature nodes of the tree
abbrev pub told_by : List ℕ → List Row → List SignatureNode → NodeOf Spot → ImageTold
told_by file rows ss node = record {
  name = node.name;
  payload = payload_said node;
  covered = covered_by file rows node.name ss;
}

-- the same at the spans of the program
abbrev pub read_image : List ℕ → Image → ImageTold
read_image file image = record {
  name = slice file image.name.place image.name.length;
  payload = read_payload file image.payload;
  covered = bytes_in file image.covered;
}

-- The values that say where its payload is end within `size` bytes.
abbrev pub ImageInside : ℕ → Image → Type 0
ImageInside size image = PayloadInside size image.payload

pub record ImagesInside (size : ℕ) (found : Images) : Type 0 where
  pub blob : found.totalsize ≤ size
  pub images : All (ImageInside found.totalsize) found.images.items

-- These are the images of a file with these facts.
pub record AreImages (file : List ℕ) (found : Images) : Type 0 where
  pub said : Said
  pub is : survey_of file ≡ Ok said
  pub totalsize : found.totalsize ≡ said.totalsize
  pub images : map (read_image file) found.images.items ≡ map (told_of file) said.images

-- The result is the images of a file, or its first fault, unless a read or memory failed.
abbrev pub TellsImages : List ℕ → Result Images SurveyFault → Type 0
TellsImages file (Ok found) = AreImages file found
TellsImages file (Err fault) = Surveys file (Err fault)
