-- The lines of faults.
use Rattle.std.specs.Prelude.{◌≡◌, ◌≢◌, ℕ, List, [], ◌++◌, Option, Some, None}
use Rattle.std.specs.Prelude.{codes, decimal, length, min, take, drop}
use Rattle.uimg_blob_reading.specs.FaultTexts as blob
use Rattle.uimg_blob_reading.specs.declared.fault.BlobFault.{BlobFault}
use Rattle.uimg_fit_base.specs.FaultTexts as fit
use Rattle.uimg_fit_base.specs.declared.fault.FitFault.{FitFault}
use Rattle.uimg_legacy.specs.FaultTexts as legacy
use Rattle.uimg_legacy.specs.declared.fault.LegacyFault.{LegacyFault}
use Rattle.uimg_strict.specs.Words.{word_of}
use Rattle.uimg_strict.specs.declared.loose.Looseness.{Looseness}
use Rattle.uimg_c.specs.{Numbers.{blob_of, fit_of, legacy_of, loose_of}, Strict.loose_number}

-- the line of what strictness refuses
abbrev pub loose_text : Looseness → List ℕ
loose_text why = codes "S" ++ decimal (loose_number why) ++ codes " " ++ word_of why

-- the line of the first of these faults, if there is one
abbrev pub first_line : Option LegacyFault → Option BlobFault → Option FitFault → Option Looseness → List ℕ
first_line (Some fault) in_blob in_fit why = legacy.fault_text fault
first_line None (Some fault) in_fit why = blob.fault_text fault
first_line None None (Some fault) why = fit.fault_text fault
first_line None None None (Some why) = loose_text why
first_line None None None None = []

-- the line of the fault with this number
abbrev pub line_of : ℕ → List ℕ
line_of number = first_line (legacy_of number) (blob_of number) (fit_of number) (loose_of number)

-- A line is written, truncated to the caller's memory, and the length of the whole line is returned.
pub record PutsFront (line : List ℕ) (returned : ℕ) (old new : List ℕ) : Type 0 where
  pub whole : returned ≡ length line
  pub text : new ≡ take (min (length line) (length old)) line ++ drop (min (length line) (length old)) old

-- The same, or nothing is written and 0 is returned.
pub record PutsLine (line : List ℕ) (returned : ℕ) (old new : List ℕ) : Type 0 where
  pub front : returned ≢ 0 → PutsFront line returned old new
  pub nothing : returned ≡ 0 → new ≡ old
