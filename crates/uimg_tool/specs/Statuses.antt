-- The exit status of each end of a request: 0 if all is done, 1 if an image, a source or a file is
-- refused or a sum is not right, 2 for a wrong command line, and 3 if a file could not be opened, or a
-- read, a write or memory failed.
use Rattle.std.specs.Prelude.{ℕ, ◌≤◌, Result, Ok, Err, Bool, true, false}
use Rattle.uimg_base.specs.declared.status.Status.{Status, TheVariants.{Done, NotRight}}
use Rattle.uimg_checks.specs.FaultStatuses.{fault_status}
use Rattle.uimg_cli.specs.declared.command_line.words_fault.WordsFault.{WordsFault}
use Rattle.uimg_cli.specs.declared.command_line.words_fault.WordsFault.TheVariants as words
use Rattle.uimg_compat.specs.declared.fault.OldFault.{OldFault}
use Rattle.uimg_compat.specs.declared.fault.OldFault.TheVariants as old
use Rattle.uimg_unpacking.specs.declared.trouble.Trouble.{Trouble}
use Rattle.uimg_unpacking.specs.declared.trouble.Trouble.TheVariants as trouble
use Rattle.uimg_tool.specs.declared.complaint.Complaint.{Complaint}
use Rattle.uimg_tool.specs.declared.complaint.Complaint.TheVariants as complaint
use Rattle.uimg_tool.specs.declared.request_fault.RequestFault.{RequestFault}
use Rattle.uimg_tool.specs.declared.request_fault.RequestFault.TheVariants as request

-- A trouble with the files of an image: its names and its limits are refused. To write or remove the
-- image itself is a wrong command line.
abbrev pub trouble_status : Trouble → ℕ
trouble_status (trouble.IsImage path) = 2
trouble_status (trouble.RemovesImage path) = 2
trouble_status trouble.NoName = 1
trouble_status (trouble.TooManyFiles most) = 1
trouble_status (trouble.TooManyBytes most) = 1
trouble_status other = 3

-- a request that was not carried out
abbrev pub request_status : RequestFault → ℕ
request_status (request.WritesWhatIsRead path) = 2
request_status (request.DrawsOverWhatIsRead path) = 2
request_status request.NoImages = 2
request_status (request.NoRoom path) = 1
request_status (request.Mapped fault) = 1
request_status request.NoHash = 1
request_status (request.Twice path) = 1
request_status (request.InImage path fault) = fault_status fault
request_status (request.Stopped fault) = fault_status fault
request_status fault = 3

-- a request
abbrev pub end_status : Result Status RequestFault → ℕ
end_status (Ok Done) = 0
end_status (Ok NotRight) = 1
end_status (Err fault) = request_status fault

-- a command that gives its status
abbrev pub exit_status : Result ℕ RequestFault → ℕ
exit_status (Ok status) = status
exit_status (Err fault) = request_status fault

-- what is told of a command
abbrev pub complaint_status : Complaint → ℕ
complaint_status (complaint.Request fault) = request_status fault
complaint_status (complaint.Unsigned line true) = 3
complaint_status (complaint.Unsigned line false) = 1
complaint_status (complaint.Troubled trouble) = trouble_status trouble

abbrev pub closing_status : Result ℕ Complaint → ℕ
closing_status (Ok status) = status
closing_status (Err complaint) = complaint_status complaint

-- words that are no command
abbrev pub words_status : WordsFault → ℕ
words_status words.OutOfMemory = 3
words_status fault = 2

-- words of mkimage or dumpimage that request nothing
abbrev pub old_words_status : OldFault → ℕ
old_words_status old.OutOfMemory = 3
old_words_status fault = 2

-- a status that never falls, and stays one
pub record Grows (old new : ℕ) : Type 0 where
  pub least : old ≤ new
  pub most : old ≤ 3 → new ≤ 3

-- A trouble of the command line, of memory or of the output is told on standard error, though JSON is
-- requested.
abbrev pub is_of_command : Trouble → Bool
is_of_command (trouble.IsImage path) = true
is_of_command trouble.OutOfMemory = true
is_of_command (trouble.CannotPrint reason) = true
is_of_command trouble.Closed = true
is_of_command other = false
