-- A request that was not carried out has another status than 0.
use Rattle.std.proofs.Common.{◌≡◌, ◌≤◌, ℕ, Bool, true, false, Result, Ok, Err, arith, sym, true≢false}
use Rattle.std.specs.Prelude.{⊤, is_err, if◌then◌else◌}
use Rattle.std.specs.declared.io.Error.{Error}
use Rattle.uimg_base.specs.declared.status.Status.{Status}
use Rattle.uimg_blob_reading.specs.Faults.{refuses_memory}
use Rattle.uimg_engine.specs.declared.fault.Fault.{Fault}
use Rattle.uimg_engine.specs.declared.fault.Fault.TheVariants as engine
use Rattle.uimg_fit_base.specs.declared.fault.FitFault.{FitFault}
use Rattle.uimg_fit_base.specs.declared.fault.FitFault.TheVariants as fit
use Rattle.uimg_its.specs.Answers.{is_outside_text}
use Rattle.uimg_checks.specs.FaultStatuses.{fault_status, fit_status}
use Rattle.uimg_tool.specs.{MadeEnds.end_printed, Statuses.{end_status, request_status}}
use Rattle.uimg_tool.specs.declared.request_fault.RequestFault.{RequestFault}
use Rattle.uimg_tool.specs.declared.request_fault.RequestFault.TheVariants as request

pub failed : (status : ℕ) → status ≡ 3 → 1 ≤ status
failed status is = omega (arith, is)

three_or_one : (b : Bool) → 1 ≤ (if b then 3 else 1)
three_or_one true = omega arith
three_or_one false = omega arith

fit_fails : (fault : FitFault) → 1 ≤ fit_status fault
fit_fails fit.OutOfMemory = omega arith
fit_fails fit.NoFile = omega arith
fit_fails fit.ReadFailed = omega arith
fit_fails fault = omega arith

pub fault_fails : (fault : Fault) → 1 ≤ fault_status fault
fault_fails (engine.Legacy fault) = omega arith
fault_fails (engine.Blob fault offset) = three_or_one (refuses_memory fault)
fault_fails (engine.Fit fault) = fit_fails fault
fault_fails (engine.Its fault) = three_or_one (is_outside_text fault.kind)
fault_fails fault = omega arith

pub request_fails : (fault : RequestFault) → 1 ≤ request_status fault
request_fails (request.WritesWhatIsRead path) = omega arith
request_fails (request.DrawsOverWhatIsRead path) = omega arith
request_fails (request.NoRoom path) = omega arith
request_fails (request.Stopped fault) = fault_fails fault
request_fails (request.InImage path fault) = fault_fails fault
request_fails fault = omega arith

pub end_fails : (end : Result Status RequestFault) → is_err end ≡ true → 1 ≤ end_status end
end_fails (Ok status) is = absurd (true≢false (sym is))
end_fails (Err fault) is = request_fails fault

-- the same of an end whose text was flushed or not
pub told_fails : (end : Result Status RequestFault) (printed : Result ⊤ Error) → is_err end ≡ true → 1 ≤ end_status (end_printed end printed)
told_fails end (Ok flushed) is = end_fails end is
told_fails end (Err error) is = omega arith
