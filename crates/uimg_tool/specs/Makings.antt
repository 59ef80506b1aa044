-- The answer of a build, over the files of a world.
use Rattle.std.specs.Prelude.{◌≡◌, ◌⊎◌, ℕ, List, Option, Result, Ok, Err, Bool, true, false, is_err}
use Rattle.std.specs.{Io.KnownBytes.Keeps, List.list_any}
use Rattle.uimg_base.specs.{Device.Device, Named.FileMap, Sink.Sink}
use Rattle.uimg_base.specs.declared.status.Status.{Status}
use Rattle.uimg_engine.specs.{Commands.MakesCommandBetween, OpenedFiles.OpensCommand}
use Rattle.uimg_engine.specs.declared.fault.Fault.{Fault}
use Rattle.uimg_requests.specs.declared.requests.MakeRequest.{MakeRequest}
use Rattle.uimg_checks.specs.FaultStatuses.{fault_status}
use Rattle.uimg_tool.specs.{FaultTexts.{told_of_end, told_of_made}, LeavingOut.{in_folder, leads_to, seen_in}, Statuses.end_status}
use Rattle.uimg_tool.specs.declared.request_fault.RequestFault.{RequestFault, TheVariants.WritesWhatIsRead}
use Rattle.uimg_world.specs.declared.file_id.FileId.{FileId}

-- the files of the folder of a request, none of them opened
abbrev pub files_of : MakeRequest → FileMap → FileMap
files_of asked files = seen_in asked.folder.now 0 files

-- The requested making opens all files of its definition, in order, or the first ones if it failed.
abbrev pub OpensRequested : {K : Type 0} → MakeRequest → Result K Fault → FileMap → FileMap → Type 0
OpensRequested asked made files last =
    OpensCommand asked.command asked.manner.time asked.manner.align (is_err made) (files_of asked files) last

-- whether one of the names that were opened leads to the file that is written
abbrev pub opens_outfile : (List ℕ → Option FileId) → MakeRequest → FileMap → Bool
opens_outfile identities asked files = list_any (leads_to identities asked.folder.now asked.outfile.now) files.opened

-- the status of a making that opens no file that it writes
abbrev pub made_status : {K : Type 0} → Result K Fault → ℕ
made_status (Ok kept) = 0
made_status (Err fault) = fault_status fault

-- The status of a making: 0 if the image is kept, or else that of its fault. If a name that was opened
-- leads to the file that is written, it is 2, or 3 if memory for the path was refused.
abbrev pub IsMadeStatus : {K : Type 0} → Result K Fault → Bool → ℕ → Type 0
IsMadeStatus made false status = status ≡ made_status made
IsMadeStatus made true status = (status ≡ 2) ⊎ (status ≡ 3)

-- the result of the requested making, over these bytes at the paths
abbrev pub MakesRequested : {K : Type 0} → (K → Device) → MakeRequest → (List ℕ → Option (List ℕ)) → Result K Fault → Sink → Sink → Type 0
MakesRequested device asked bytes made s t =
    MakesCommandBetween device asked.manner.naming asked.command asked.manner.time asked.manner.align
    (in_folder asked.folder.now bytes) made s t

-- What an end tells is what the result of the making does, or that its file would be written while it
-- is read. If it failed, this is not said.
abbrev pub TellsMaking : {K : Type 0} → MakeRequest → Result K Fault → Result Status RequestFault → Type 0
TellsMaking asked made end = (end_status end ≡ 3) ⊎ (end ≡ Err (WritesWhatIsRead asked.outfile))
    ⊎ ((end_status end ≡ made_status made) × (told_of_end end ≡ told_of_made made))

-- An end is that of the requested making.
pub record MakesAt {K : Type 0} (device : K → Device) (identities : List ℕ → Option FileId) (asked : MakeRequest)
    (files : FileMap) (end : Result Status RequestFault) (s t : Sink) : Type 0 where
  pub made : Result K Fault
  pub makes : MakesRequested device asked files.bytes made s t
  -- the files of the folder after it
  pub last : FileMap
  pub opens : OpensRequested asked made files last
  pub is : IsMadeStatus made (opens_outfile identities asked last) (end_status end)
  pub tells : TellsMaking asked made end

-- The definition's image of the files is kept, and exactly its listing was printed, with status 0; or
-- the making is refused, and the status is that of its fault; or a name that was opened leads to the
-- file that is written, and the status is 2 or 3. The names are those that the definition opens.
pub record AnswersMade {K : Type 0} (device : K → Device) (identities : List ℕ → Option FileId) (asked : MakeRequest)
    (files : FileMap) (status : ℕ) (old new : Option (List ℕ)) : Type 0 where
  pub made : Result K Fault
  pub before : Sink
  pub after : Sink
  pub makes : MakesRequested device asked files.bytes made before after
  -- the files of the folder after it
  pub last : FileMap
  pub opens : OpensRequested asked made files last
  pub is : IsMadeStatus made (opens_outfile identities asked last) status
  -- what the output had, and has
  pub begins : before.contents ≡ old
  pub ends : Keeps after.contents new
