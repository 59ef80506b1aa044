-- The exit status of an unpacking.
use Rattle.std.specs.Prelude.{◌≡◌, ⊤, ◌⊎◌, ℕ, max, true}
use Rattle.uimg_base.specs.declared.status.Status.TheVariants.{Done, NotRight}
use Rattle.uimg_checks.specs.{Answers.answer_status, FaultStatuses.fault_status}
use Rattle.uimg_tool.specs.Statuses.{is_of_command, trouble_status}
use Rattle.uimg_tool.specs.declared.unpack_answers.Ending.{Ending}
use Rattle.uimg_tool.specs.declared.unpack_answers.Ending.TheVariants as ending

abbrev pub ending_status : Ending → ℕ
ending_status (ending.Told Done) = 0
ending_status (ending.Told NotRight) = 1
ending_status (ending.Unsigned answer) = max 1 (answer_status answer)
ending_status ending.Unread = 3
ending_status ending.Weak = 1
ending_status ending.NoImage = 1
ending_status (ending.Stopped fault) = fault_status fault
ending_status (ending.Troubled trouble) = trouble_status trouble

-- The status is that of the end, or that of a failure to tell it.
abbrev pub HasEndingStatus : Ending → ℕ → Type 0
HasEndingStatus end status = (status ≡ ending_status end) ⊎ (status ≡ 3)

-- A trouble of the command line has its status, and nothing is printed of it, as JSON neither.
abbrev pub TellsCommand : {W : Type 0} → Ending → ℕ → (old new : W) → Type 0
TellsCommand (ending.Troubled trouble) status old new = is_of_command trouble ≡ true → (status ≡ trouble_status trouble) × (new ≡ old)
TellsCommand end status old new = ⊤
