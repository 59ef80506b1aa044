-- What a check of an image finds.
use Rattle.std.specs.Prelude.{◌≡◌, ⊤, ℕ, ◌+◌, List, length, Bool, true, false, Option, Some, None}
use Rattle.std.specs.Prelude.{Result, Ok, Err, IsTrue, IfOk}
use Rattle.uimg_sums.specs.declared.algo.Algo.{Algo}
use Rattle.uimg_sums.specs.declared.algo.Algo.TheVariants as algo
use Rattle.uimg_base.specs.Device.{Device}
use Rattle.uimg_base.specs.Held.{Held}
use Rattle.uimg_base.specs.Lent.{Lent}
use Rattle.uimg_base.specs.Using.{UsesAtMost}
use Rattle.uimg_base.specs.declared.spans.Span.{Span}
use Rattle.uimg_base.specs.declared.status.Status.{Status}
use Rattle.uimg_base.specs.declared.status.Status.TheVariants.{Done, NotRight}
use Rattle.uimg_fit_base.specs.declared.fault.Fault.{Fault as FitEngineFault}
use Rattle.uimg_fit_checking.specs.Checks as fit
use Rattle.uimg_fit_checking.specs.declared.checking.Finding.TheVariants as fit_finding
use Rattle.uimg_legacy.specs.declared.fault.LegacyFault.{LegacyFault}
use Rattle.uimg_legacy.specs.Checking as legacy
use Rattle.uimg_legacy.specs.Work as legacy_work
use Rattle.uimg_requests.specs.declared.command.Form.TheVariants as form
use Rattle.uimg_engine.specs.declared.fault.Fault.{Fault}
use Rattle.uimg_engine.specs.declared.fault.Fault.TheVariants.{Legacy}
use Rattle.uimg_checks.specs.declared.finding.Checked.{Checked}
use Rattle.uimg_checks.specs.declared.finding.Checked.TheVariants as checked
use Rattle.uimg_engine.specs.Faults.{of_fit, is_read, is_put, is_no_memory, is_of_making}
use Rattle.uimg_engine.specs.Headline.{is_fit, TakesTable}

-- the most bytes that a check of a format requests
abbrev pub check_work_in : Bool → List ℕ → ℕ
check_work_in true file = fit.check_work file
check_work_in false file = legacy_work.check_work file

-- the most bytes that a check requests: the four of the format, the metadata, and of all payloads
-- together at most the file's length; of a legacy image the table of parts is metadata, and takes
-- 16 bytes for each size
abbrev pub check_work : List ℕ → ℕ
check_work file = 4 + check_work_in (is_fit form.Guess file) file

-- each span of a finding ends within a file of this size
abbrev pub SpansInside : ℕ → Checked Span → Type 0
SpansInside size (checked.Fit finding) = fit.EndsInside size finding
SpansInside size _ = ⊤

-- whether CRC-32, the checksum of a legacy image, is strong enough
abbrev pub stands_by_crc32 : Option Algo → Bool
stands_by_crc32 None = true
stands_by_crc32 (Some algo.Crc16) = true
stands_by_crc32 (Some algo.Crc32) = true
stands_by_crc32 (Some _) = false

-- a finding with the names at its spans
abbrev pub found_at : List ℕ → Checked Span → Checked (List ℕ)
found_at file (checked.Fit finding) = checked.Fit (fit.named_finding file finding)
found_at file checked.Right = checked.Right
found_at file checked.Damaged = checked.Damaged
found_at file checked.Weak = checked.Weak

-- the status of a finding: `Done` if all is right
abbrev pub status_of : {N : Type 0} → Checked N → Status
status_of (checked.Fit (fit_finding.Right images nodes)) = Done
status_of (checked.Fit (fit_finding.Unhashed image)) = Done
status_of (checked.Fit (fit_finding.Wrong image hash word)) = NotRight
status_of (checked.Fit (fit_finding.Weak image)) = NotRight
status_of (checked.Fit (fit_finding.Overlapping image)) = NotRight
status_of (checked.Fit fit_finding.NoImage) = NotRight
status_of checked.Right = Done
status_of checked.Damaged = NotRight
status_of checked.Weak = NotRight

-- the finding about a legacy image whose checksums are right
abbrev pub if_strong : Bool → Checked (List ℕ)
if_strong true = checked.Right
if_strong false = checked.Weak

-- the finding about a legacy image by whether its data's checksum is right, or the fault that
-- refuses it
abbrev pub found_by : Option Algo → Result Bool LegacyFault → Result (Checked (List ℕ)) Fault
found_by need (Ok true) = Ok (if_strong (stands_by_crc32 need))
found_by need (Ok false) = Ok checked.Damaged
found_by need (Err fault) = Err (Legacy fault)

-- the finding about a FIT image, or the fault that refuses it
abbrev pub found_in_fit : Result fit.NamedFinding FitEngineFault → Result (Checked (List ℕ)) Fault
found_in_fit (Ok told) = Ok (checked.Fit told)
found_in_fit (Err fault) = Err (of_fit fault)

-- the finding about a file that is read as a FIT image, or as a legacy image
abbrev pub check_of : Bool → Option Algo → List ℕ → Result (Checked (List ℕ)) Fault
check_of true need file = found_in_fit (fit.check_of need file)
check_of false need file = found_by need (legacy.checked file)

-- a result with the names at its spans
abbrev pub told_at : List ℕ → Result (Checked Span) Fault → Result (Checked (List ℕ)) Fault
told_at file (Ok finding) = Ok (found_at file finding)
told_at file (Err fault) = Err fault

-- The result is the finding of the definition, unless a read failed or memory was refused.
abbrev pub TellsCheckIn : Bool → Option Algo → List ℕ → Result (Checked Span) Fault → Type 0
TellsCheckIn fit need file result =
    is_read result ≡ false → is_no_memory result ≡ false
    → check_of fit need file ≡ told_at file result

-- the same for a file whose first bytes decide the format
abbrev pub TellsCheck : Option Algo → List ℕ → Result (Checked Span) Fault → Type 0
TellsCheck need file result = TellsCheckIn (is_fit form.Guess file) need file result

-- What the check of an image of a format does, at any exit.
pub record ChecksInBetween (fit : Bool) (need : Option Algo) (result : Result (Checked Span) Fault)
    (d e : Device) (old new : Held) : Type 0 where
  pub uses : UsesAtMost (check_work_in fit d.bytes) (is_read result) d e
  pub room : TakesTable fit d (is_no_memory result) old new
  pub no_put : is_put result ≡ false
  pub not_making : is_of_making result ≡ false
  pub inside : IfOk result (SpansInside (length d.bytes))
  pub told : IsTrue d.honest → TellsCheckIn fit need d.bytes result

abbrev pub ChecksIn : {S : Type 0} → Bool → Option Algo → Result (Checked Span) Fault → (S → Device)
    → Lent S → Lent Held → Type 0
ChecksIn fit need result device source room = ChecksInBetween fit need result
    (device source.entry.now) (device source.exit.now) room.entry.now room.exit.now
