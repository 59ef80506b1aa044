-- A request for an image as `uimg mkimage` makes it.
use Rattle.std.specs.Prelude.{◌≡◌, ℕ, List, false}
use Rattle.uimg_texts.specs.declared.naming.Naming.TheVariants.{Profile}
use Rattle.uimg_requests.specs.declared.requests.MakeRequest.{MakeRequest}

-- The image is made at a time, listed with the names of the profile, with payloads padded to
-- multiples of 4, and written to its path, with its header before the data.
pub record IsPlain (request : MakeRequest) (moment : ℕ) (path : List ℕ) : Type 0 where
  pub time : request.manner.time ≡ moment
  pub naming : request.manner.naming ≡ Profile
  pub align : request.manner.align ≡ 4
  pub whole : request.is_xip ≡ false
  pub outfile : request.outfile.now ≡ path

-- The source is at a path, and the files are in a folder.
pub record IsAt (request : MakeRequest) (path dir : List ℕ) : Type 0 where
  pub source : request.source.now ≡ path
  pub folder : request.folder.now ≡ dir
