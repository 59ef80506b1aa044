-- What the exports report of the outcome of a command.
use Rattle.std.specs.Prelude.{◌≡◌, ◌≢◌, ◌≤◌, ◌+◌, ℕ, min, List, ◌++◌, length, take, drop, Option}
use Rattle.std.specs.Prelude.{Some, None, Result, Ok, Err}
use Rattle.uimg_sums.specs.declared.algo.Algo.{Algo}
use Rattle.uimg_texts.specs.Slices.{slice}
use Rattle.uimg_base.specs.{Outcome.{Outcome, End, done, not_right, refused}, Held.held_bytes}
use Rattle.uimg_base.specs.declared.spans.Span.{Span}
use Rattle.uimg_base.specs.declared.status.Status.{Status, TheVariants.{Done, NotRight}}
use Rattle.uimg_c.specs.declared.{codes.Code.Code, reports.UimgReport.UimgReport}
use Rattle.uimg_c.specs.declared.reports.{UimgPayload.UimgPayload, UimgCount.UimgCount}
use Rattle.uimg_c.specs.Codes.{code_of_end, code_of_answer, code_of_fault, code_of_found, strength}
use Rattle.uimg_engine.specs.{declared.fault.Fault.Fault, Headline.{is_fit, nodes_in, outcome_of}}
use Rattle.uimg_fit_base.specs.declared.fault.Fault.{Fault as FitEngineFault}
use Rattle.uimg_texts.specs.declared.naming.Naming.TheVariants.{Profile}
use Rattle.uimg_requests.specs.declared.command.{Action.Action, Form.Form}
use Rattle.uimg_checks.specs.{declared.finding.Checked.Checked, Finding.{check_of, status_of}}
use Rattle.uimg_requests.specs.declared.command.Form.TheVariants as form

-- the most bytes that the table of an image's nodes takes: a window of 8192 bytes, and 128 for each
-- node of a FIT image
abbrev pub table_most : Form → List ℕ → ℕ
table_most form image = held_bytes (nodes_in (is_fit form image) image)

-- A report has the end of an outcome. The text is copied to the caller's memory, truncated to its
-- length; the rest of that memory is unchanged.
pub record ReportsText (o : Outcome Fault) (old new : List ℕ) (report : UimgReport) : Type 0 where
  -- status, fault and offset are those of the outcome
  pub code : code_of_end o.end ≡ Some
      (record { status = report.status; fault = report.fault; place = report.place })
  -- the length of the whole text
  pub needed : report.needed ≡ length o.text
  -- never more than the caller has memory for
  pub written : report.written ≡ min (length o.text) (length old)
  -- the rest of the memory is unchanged
  pub text : new ≡ take report.written o.text ++ drop report.written old

-- the report if memory was refused
abbrev pub no_report : UimgReport
no_report = record { status = 3; fault = 0; place = 0; needed = 0; written = 0; peak = 0 }

-- The report of a result with this text: its numbers, the length of the text, and as much of it as
-- the caller has memory for. If memory was refused, nothing is written, and a report says nothing.
abbrev pub ReportsEnd : Option Code → List ℕ → List ℕ → List ℕ → ℕ → UimgReport → Type 0
ReportsEnd None whole old new peak report = (report ≡ no_report) × (new ≡ old)
ReportsEnd (Some code) whole old new peak report = (report ≡ record {
  status = code.status;
  fault = code.fault;
  place = code.place;
  needed = length whole;
  written = min (length whole) (length old);
  peak = peak;
}) × (new ≡ take report.written whole ++ drop report.written old)

-- A call that writes the text of an outcome of an image, read in a format, returns the status that
-- it reports.
pub record ReportsOn (o : Outcome Fault) (format : Form) (image : List ℕ) (returned : ℕ)
    (old new : List ℕ) (report : UimgReport) : Type 0 where
  pub told : returned ≢ 3 → ReportsText o old new report
  pub status : returned ≡ report.status
  -- no more than the caller has memory for
  pub within : report.written ≤ length old
  -- if memory was refused, nothing is written, and a report says nothing
  pub nothing : returned ≡ 3 → report ≡ no_report
  pub untouched : returned ≡ 3 → new ≡ old
  pub peak : report.peak ≤ table_most format image

-- the outcome of an action on an image of either format, with the names of the profile
abbrev pub outcome_by : Action → List ℕ → Outcome Fault
outcome_by action image =
    outcome_of Profile (record { action = action; form = form.Guess }) image

-- the span that is reported
abbrev pub span_in : UimgPayload → Span
span_in payload = record { place = payload.start; length = payload.size }

-- A payload has the end of an extraction's outcome, and the span of the bytes in the image.
pub record HasBytes (o : Outcome Fault) (image : List ℕ) (payload : UimgPayload) : Type 0 where
  pub code : code_of_end o.end ≡ Some
      (record { status = payload.status; fault = payload.fault; place = payload.place })
  -- exactly the bytes that an extraction writes
  pub bytes : payload.status ≡ 0 → o.text ≡ slice image payload.start payload.size

-- The same for a search in a FIT image, which finds exactly these bytes, or a fault.
pub record FindsNamed (found : Result (List ℕ) FitEngineFault) (image : List ℕ)
    (payload : UimgPayload) : Type 0 where
  pub code : code_of_found found ≡ Some
      (record { status = payload.status; fault = payload.fault; place = payload.place })
  pub bytes : payload.status ≡ 0 → found ≡ Ok (slice image payload.start payload.size)

-- A call that locates bytes of an image, read in a format, returns the status that it reports.
-- Unless memory was refused, P holds of the payload.
pub record Located (P : UimgPayload → Type 0) (format : Form) (image : List ℕ) (returned : ℕ)
    (payload : UimgPayload) : Type 0 where
  pub told : returned ≢ 3 → P payload
  pub status : returned ≡ payload.status
  -- it ends inside the image
  pub inside : payload.start + payload.size ≤ length image
  -- it has no bytes if none was found
  pub nowhere : returned ≢ 0 → (payload.start ≡ 0) × (payload.size ≡ 0)
  -- and no fault if memory was refused
  pub no_fault : returned ≡ 3 → (payload.fault ≡ 0) × (payload.place ≡ 0)
  pub peak : payload.peak ≤ table_most format image

-- the end that a finding means, or the fault that refuses the image
abbrev pub end_of_status : Status → End Fault
end_of_status Done = done
end_of_status NotRight = not_right

abbrev pub end_of_found : Result (Checked (List ℕ)) Fault → End Fault
end_of_found (Ok found) = end_of_status (status_of found)
end_of_found (Err fault) = refused fault

-- the end of a check for an algorithm
abbrev pub end_of_check : Algo → List ℕ → End Fault
end_of_check need image = end_of_found (check_of (is_fit form.Guess image) (Some need) image)

-- the same, if the algorithm is known; else no image meets it
abbrev pub check_by : Option Algo → List ℕ → End Fault
check_by None image = not_right
check_by (Some need) image = end_of_check need image

-- A report without a text has the end of a check.
pub record ReportsCheck (need : ℕ) (image : List ℕ) (report : UimgReport) : Type 0 where
  pub code : code_of_end (check_by (strength need) image) ≡ Some
      (record { status = report.status; fault = report.fault; place = report.place })
  pub no_text : (report.needed ≡ 0) × (report.written ≡ 0)

-- the numbers of a count, or of its fault
abbrev pub code_of_count : Result ℕ Fault → Option Code
code_of_count (Ok count) = code_of_answer (Ok Done)
code_of_count (Err fault) = code_of_fault fault

-- A count has the number of payloads, or why they cannot be counted.
pub record ReportsCount (counted : Result ℕ Fault) (count : UimgCount) : Type 0 where
  pub code : code_of_count counted ≡ Some
      (record { status = count.status; fault = count.fault; place = count.place })
  pub is : count.status ≡ 0 → counted ≡ Ok count.count
