-- What the making of an image means.
use Rattle.std.specs.Prelude.{◌≡◌, ◌⊎◌, ℕ, List, Option, Some, Result}
use Rattle.std.specs.Io.KnownBytes.{Keeps}
use Rattle.uimg_base.specs.{Device.Device, Named.FileMap, Sink.Sink}
use Rattle.uimg_engine.specs.declared.fault.Fault.{Fault}
use Rattle.uimg_requests.specs.declared.requests.MakeRequest.{MakeRequest}
use Rattle.uimg_tool.specs.{FaultTexts.{told_of_made, writes_over}, Makings.{IsMadeStatus, MakesRequested, OpensRequested, made_status, opens_outfile}}
use Rattle.uimg_world.specs.declared.file_id.FileId.{FileId}

-- The definition's image of the files is kept, and exactly its listing was printed, with status 0; or the making is
-- refused, with the status and the line of its fault. If a name that was opened leads to the file that is written, that
-- is told. The names are those that the definition opens.
pub record MeansMake {K : Type 0} (device : K → Device) (identities : List ℕ → Option FileId) (asked : MakeRequest) (files : FileMap)
    (status : ℕ) (told : Option (Option (List ℕ))) (old new : Option (List ℕ)) : Type 0 where
  pub made : Result K Fault
  pub before : Sink
  pub after : Sink
  pub makes : MakesRequested device asked files.bytes made before after
  -- the files of the folder after it
  pub last : FileMap
  pub opens : OpensRequested asked made files last
  pub is : IsMadeStatus made (opens_outfile identities asked last) status
  pub tells : ((status ≡ 2) × (told ≡ Some (writes_over asked.outfile))) ⊎ ((status ≡ made_status made) × (told ≡ told_of_made made))
  -- what the output had, and has
  pub begins : before.contents ≡ old
  pub ends : Keeps after.contents new
