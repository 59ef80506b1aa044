-- The texts of faults: the lines that the program prints.
use Rattle.std.specs.Prelude.{ℕ, List, codes, ◌==◌, not}
use Rattle.std.specs.List.{take_while}
use Rattle.uimg_legacy.specs.declared.fault.{LegacyFault.LegacyFault, Fault.Fault}
use Rattle.uimg_legacy.specs.declared.fault.LegacyFault.TheVariants as of
use Rattle.uimg_legacy.specs.declared.fault.Fault.TheVariants.{Legacy, Read, Put}

-- the line of a legacy image's fault
abbrev pub fault_text : LegacyFault → List ℕ
fault_text of.TooShort = codes "L1 too short"
fault_text of.BadMagic = codes "L2 bad magic"
fault_text of.BadHeaderCrc = codes "L3 bad header CRC"
fault_text of.Truncated = codes "L4 truncated"
fault_text of.BadDataCrc = codes "L5 bad data CRC"
fault_text of.NoTableEnd = codes "L6 no table end"
fault_text of.PartOutside = codes "L7 part outside"
fault_text of.NoSuchPart = codes "L8 no such part"
fault_text of.EmptyPart = codes "L9 empty part"
fault_text of.TooLarge = codes "L10 too large"

-- its letter and number: the first word of the line
abbrev pub fault_code : LegacyFault → List ℕ
fault_code fault = take_while (λ byte. not (byte == 32)) (fault_text fault)

-- the line of a command that stopped
abbrev pub text_of : Fault → List ℕ
text_of (Legacy fault) = fault_text fault
text_of Read = codes "read failed"
text_of Put = codes "write failed"
