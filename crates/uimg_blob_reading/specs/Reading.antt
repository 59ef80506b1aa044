-- The result of reading, or the first fault with its offset from the start of the file.
use Rattle.std.specs.Prelude.{ℕ}
use Rattle.uimg_blob_reading.specs.declared.fault.BlobFault.{BlobFault}

-- a fault and its offset
abbrev pub Fault : Type 0
Fault = BlobFault × ℕ
