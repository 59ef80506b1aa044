-- The texts of faults: the lines that the program prints.
use Rattle.std.specs.Prelude.{ℕ, List, codes, decimal, ◌++◌, Option, Some, None}
use Rattle.uimg_blob_reading.specs.FaultTexts as blob
use Rattle.uimg_fit_base.specs.FaultTexts as fit
use Rattle.uimg_its.specs.FaultTexts as its
use Rattle.uimg_legacy.specs.FaultTexts as legacy
use Rattle.uimg_engine.specs.declared.fault.Fault.{Fault, TheVariants.{NoFile, Keep, OutOfMemory}}
use Rattle.uimg_engine.specs.declared.fault.Fault.TheVariants.{Legacy, Blob, Fit, Its, Read, Put}

-- the line of a command on an image, or of the making of one, that stopped
abbrev pub text_of : Fault → List ℕ
text_of (Legacy fault) = legacy.fault_text fault
text_of (Blob fault offset) = blob.blob_text fault offset
text_of (Fit fault) = fit.fault_text fault
text_of (Its fault) = its.text_of fault
text_of Read = codes "read failed"
text_of Put = codes "write failed"
text_of (NoFile number) = codes "cannot read file " ++ decimal number
text_of Keep = codes "cannot read what was written"
text_of OutOfMemory = codes "out of memory"

-- its letter and number, if the line begins with them
abbrev pub code_of : Fault → Option (List ℕ)
code_of (Legacy fault) = Some (legacy.fault_code fault)
code_of (Blob fault offset) = Some (blob.fault_code fault)
code_of (Fit fault) = Some (fit.fault_code fault)
code_of (Its fault) = Some (its.fault_code fault.kind)
code_of fault = None
