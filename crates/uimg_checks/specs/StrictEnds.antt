-- What a strict check answers of an image whose hashes or checksums are right.
use Rattle.std.specs.Prelude.{◌≡◌, ⊤, ℕ, List, map, Some, Result, Ok, Err, false}
use Rattle.uimg_blob_reading.specs.Faults.{refuses_memory}
use Rattle.uimg_checks.specs.References.{read_missing}
use Rattle.uimg_checks.specs.declared.finding.Checked.{Checked}
use Rattle.uimg_engine.specs.declared.fault.Fault.TheVariants as engine
use Rattle.uimg_fit_base.specs.declared.fault.Fault.TheVariants as of
use Rattle.uimg_fit_checking.specs.declared.surveying.fault.SurveyFault.{SurveyFault}
use Rattle.uimg_fit_checking.specs.declared.surveying.fault.SurveyFault.TheVariants.{Stopped, OutOfMemory, Changed}
use Rattle.uimg_strict.specs.{Telling.read_loose}
use Rattle.uimg_checks.specs.Verdicts.{Verdict, Unchecked, Finds, Lacks, Refuses, loosens, signed_finding}
use Rattle.uimg_verifying.specs.Results.{read_result}
use Rattle.uimg_checks.specs.declared.judging.Further.{Further}
use Rattle.uimg_checks.specs.declared.judging.Further.TheVariants as further

-- the verdict by what was found further
abbrev pub further_verdict : List ℕ → Checked (List ℕ) → Further → Verdict
further_verdict file found (further.Loose loose signatures) =
    loosens (map read_result signatures.items) (read_loose loose)
further_verdict file found (further.Missing missing) = Lacks (read_missing file missing)
further_verdict file found (further.Unchecked nodes) = Finds found (Some (Unchecked nodes))
further_verdict file found (further.Signed required signatures) =
    signed_finding required.now found (map read_result signatures.items)

-- What was found further in a file is this verdict, unless a read failed, memory was refused, or the
-- file was another one when its signatures were read.
abbrev pub TellsFurther : Verdict → List ℕ → Checked (List ℕ) → Result Further SurveyFault → Type 0
TellsFurther verdict file found (Ok more) = verdict ≡ further_verdict file found more
TellsFurther verdict file found (Err (Stopped (of.Blob fault at))) =
    refuses_memory fault ≡ false → verdict ≡ Refuses (engine.Blob fault at)
TellsFurther verdict file found (Err (Stopped (of.Fit fault))) =
    verdict ≡ Refuses (engine.Fit fault)
TellsFurther verdict file found (Err (Stopped of.Read)) = ⊤
TellsFurther verdict file found (Err (Stopped of.Put)) = ⊥
TellsFurther verdict file found (Err OutOfMemory) = ⊤
TellsFurther verdict file found (Err Changed) = ⊤
