-- The texts of faults: the lines that the program prints.
use Rattle.std.specs.Prelude.{ℕ, List, codes, decimal, ◌++◌, ◌==◌, not}
use Rattle.std.specs.List.{take_while}
use Rattle.uimg_blob_reading.specs.declared.fault.{BlobFault.BlobFault, IndexFault.IndexFault}
use Rattle.uimg_blob_reading.specs.declared.fault.BlobFault.TheVariants as of
use Rattle.uimg_blob_reading.specs.declared.fault.IndexFault.TheVariants.{Blob, Read}

-- the beginning of the line of a blob's fault, without its offset
abbrev pub fault_text : BlobFault → List ℕ
fault_text of.TooShort = codes "B1 too short"
fault_text of.BadMagic = codes "B2 bad magic"
fault_text of.BadVersion = codes "B3 bad version"
fault_text of.BlockOutside = codes "B4 block outside"
fault_text of.BadToken = codes "B5 bad token"
fault_text of.Truncated = codes "B6 truncated"
fault_text of.BadNodeName = codes "B7 bad node name"
fault_text of.BadNesting = codes "B8 bad nesting"
fault_text of.BadPropertyName = codes "B9 bad property name"
fault_text of.TooLarge = codes "B10 too large"
fault_text of.OutOfMemory = codes "B11 out of memory"

-- its letter and number: the first word of the line
abbrev pub fault_code : BlobFault → List ℕ
fault_code fault = take_while (λ byte. not (byte == 32)) (fault_text fault)

-- the line of a blob's fault at an offset
abbrev pub blob_text : BlobFault → ℕ → List ℕ
blob_text fault offset = fault_text fault ++ codes " at " ++ decimal offset

-- the line of a blob that is not indexed
abbrev pub text_of : IndexFault → List ℕ
text_of (Blob fault offset) = blob_text fault offset
text_of Read = codes "read failed"
