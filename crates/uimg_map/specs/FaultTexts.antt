-- The texts of faults: the lines that the program prints.
use Rattle.std.specs.Prelude.{ℕ, List, codes}
use Rattle.uimg_fit_base.specs.FaultTexts as fit
use Rattle.uimg_legacy.specs.FaultTexts as legacy
use Rattle.uimg_map.specs.declared.fault.MapFault.{MapFault}
use Rattle.uimg_map.specs.declared.fault.MapFault.TheVariants.{Legacy, Fit, Read, OutOfMemory}

-- the line of an image that has no map, or of the fault of one that has
abbrev pub text_of : MapFault → List ℕ
text_of (Legacy fault) = legacy.text_of fault
text_of (Fit fault) = fit.text_of fault
text_of Read = codes "read failed"
text_of OutOfMemory = codes "out of memory"
