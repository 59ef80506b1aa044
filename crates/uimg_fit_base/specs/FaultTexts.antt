-- The texts of faults: the lines that the program prints.
use Rattle.std.specs.Prelude.{ℕ, List, codes, ◌==◌, not}
use Rattle.std.specs.List.{take_while}
use Rattle.uimg_blob_reading.specs.FaultTexts.{blob_text}
use Rattle.uimg_fit_base.specs.declared.fault.{FitFault.FitFault, Fault.Fault}
use Rattle.uimg_fit_base.specs.declared.fault.FitFault.TheVariants as of
use Rattle.uimg_fit_base.specs.declared.fault.Fault.TheVariants.{Blob, Fit, Read, Put}

-- the line of a FIT image's fault
abbrev pub fault_text : FitFault → List ℕ
fault_text of.NoImages = codes "F1 no images"
fault_text of.NoData = codes "F2 no data"
fault_text of.DataOutside = codes "F3 data outside"
fault_text of.NoSuchImage = codes "F4 no such image"
fault_text of.UnknownAlgo = codes "F5 unknown algorithm"
fault_text of.PositionTooLow = codes "F6 position too low"
fault_text of.TooLarge = codes "F7 too large"
fault_text of.OutOfMemory = codes "F8 out of memory"
fault_text of.NoFile = codes "F9 no file"
fault_text of.ReadFailed = codes "F10 read failed"

-- its letter and number: the first word of the line
abbrev pub fault_code : FitFault → List ℕ
fault_code fault = take_while (λ byte. not (byte == 32)) (fault_text fault)

-- the line of a command that stopped
abbrev pub text_of : Fault → List ℕ
text_of (Blob fault offset) = blob_text fault offset
text_of (Fit fault) = fault_text fault
text_of Read = codes "read failed"
text_of Put = codes "write failed"
