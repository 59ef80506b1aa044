-- How a request ends: which faults it can have, and that each names a path of the command line.
use Rattle.std.specs.Prelude.{◌≡◌, ⊤, ◌⊎◌, ℕ, List, [], map, slice_get, Some, Result, Ok, Err, Bool, true, false}
use Rattle.std.specs.Borrow.{Bor}
use Rattle.uimg_base.specs.declared.status.Status.{Status, TheVariants.Done}
use Rattle.uimg_engine.specs.declared.fault.Fault.{Fault}
use Rattle.uimg_engine.specs.declared.fault.Fault.TheVariants as engine
use Rattle.uimg_fit_base.specs.declared.fault.FitFault.TheVariants as fit
use Rattle.uimg_requests.specs.declared.make_command.MakeCommand.{MakeCommand}
use Rattle.uimg_requests.specs.declared.make_command.MakeCommand.TheVariants.{Parts, Tree}
use Rattle.uimg_requests.specs.declared.requests.{MakeRequest.MakeRequest}
use Rattle.uimg_tool.specs.declared.request_fault.RequestFault.{RequestFault}
use Rattle.uimg_tool.specs.declared.request_fault.RequestFault.TheVariants as request

-- The path is the source's, or the name of the file of a number, or none if there is no such name.
abbrev pub IsFileOf : MakeCommand → List ℕ → ℕ → List ℕ → Type 0
IsFileOf (Tree source placement) given number path = path ≡ given
IsFileOf (Parts options files) given number path =
    (path ≡ []) ⊎ (slice_get (map (λ name. name.items) files.items) number ≡ Some path)

abbrev pub IsFileAt : MakeRequest → ℕ → List ℕ → Type 0
IsFileAt asked number path = IsFileOf asked.command asked.source.now number path

abbrev pub IsFile : MakeRequest → List ℕ → Type 0
IsFile asked path = (number : ℕ) × IsFileAt asked number path

-- a making that stopped: a file that cannot be opened is told by its path
abbrev pub StoppedAs : MakeRequest → Fault → RequestFault → Type 0
StoppedAs asked (engine.NoFile number) (request.CannotRead path) = IsFileAt asked number path.now
StoppedAs asked (engine.NoFile number) fault = ⊥
StoppedAs asked engine.Keep (request.CannotRead path) = path ≡ asked.outfile
StoppedAs asked engine.Keep fault = ⊥
StoppedAs asked fault (request.Stopped told) = told ≡ fault
StoppedAs asked fault other = ⊥

-- a making that has met its own outfile, or not
abbrev pub AsMade : {K : Type 0} → MakeRequest → Result K Fault → Bool → Result Status RequestFault → Type 0
AsMade asked (Ok kept) met (Ok status) = status ≡ Done
AsMade asked (Err fault) true (Err (request.WritesWhatIsRead path)) = path ≡ asked.outfile
AsMade asked (Err fault) false (Err told) = StoppedAs asked fault told
AsMade asked made met result = ⊥

-- the making of an image
abbrev pub MakeEnds : MakeRequest → Result Status RequestFault → Type 0
MakeEnds asked (Ok status) = status ≡ Done
MakeEnds asked (Err (request.CannotRead path)) = (path ≡ asked.outfile) ⊎ IsFile asked path.now
MakeEnds asked (Err (request.NoRoom path)) = (asked.is_xip ≡ true) × IsFile asked path.now
MakeEnds asked (Err (request.WritesWhatIsRead path)) = path ≡ asked.outfile
MakeEnds asked (Err (request.NotPut path reason)) = path ≡ asked.outfile
MakeEnds asked (Err request.OutOfMemory) = ⊤
MakeEnds asked (Err (request.Stopped fault)) = ⊤
MakeEnds asked (Err fault) = ⊥

-- the making of the image at a path, of a tree
abbrev pub TreeEnds : Bor (List ℕ) → Result Status RequestFault → Type 0
TreeEnds image (Ok status) = status ≡ Done
TreeEnds image (Err (request.CannotRead path)) = path ≡ image
TreeEnds image (Err (request.NotPut path reason)) = path ≡ image
TreeEnds image (Err request.OutOfMemory) = ⊤
TreeEnds image (Err (request.Stopped fault)) = ⊤
TreeEnds image (Err fault) = ⊥

-- The end is about the source, whose text or tree is refused, and not about the image.
abbrev pub is_about_source : Result Status RequestFault → Bool
is_about_source (Err (request.Stopped (engine.Fit fit.PositionTooLow))) = false
is_about_source (Err (request.Stopped (engine.Fit fit.TooLarge))) = false
is_about_source (Err (request.Stopped (engine.Fit fault))) = true
is_about_source (Err (request.Stopped (engine.Its fault))) = true
is_about_source end = false
