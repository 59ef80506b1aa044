-- The numbers by which callers in C see how a command ended.
use Rattle.std.specs.Prelude.{ℕ, ◌+◌, ◌*◌, ◌==◌, find, Option, Some, None, Result, Ok, Err}
use Rattle.uimg_sums.specs.{Algorithms.{profile_algos, number}, declared.algo.Algo.Algo}
use Rattle.uimg_base.specs.{Outcome.{End, done, not_right, refused}, declared.status.Status.Status}
use Rattle.uimg_base.specs.declared.status.Status.TheVariants.{Done, NotRight}
use Rattle.uimg_blob_reading.specs.declared.fault.BlobFault.{BlobFault}
use Rattle.uimg_blob_reading.specs.declared.fault.BlobFault.TheVariants as blob
use Rattle.uimg_fit_base.specs.declared.fault.{FitFault.FitFault, Fault.Fault as FitEngineFault}
use Rattle.uimg_fit_base.specs.declared.fault.FitFault.TheVariants as fit
use Rattle.uimg_legacy.specs.declared.fault.LegacyFault.{LegacyFault}
use Rattle.uimg_legacy.specs.declared.fault.LegacyFault.TheVariants as legacy
use Rattle.uimg_engine.specs.{Faults.of_fit, declared.fault.Fault.Fault}
use Rattle.uimg_engine.specs.declared.fault.Fault.TheVariants.{Legacy, Blob, Fit}
use Rattle.uimg_c.specs.declared.codes.Code.{Code}

-- L1 to L10
abbrev pub legacy_number : LegacyFault → ℕ
legacy_number legacy.TooShort = 1
legacy_number legacy.BadMagic = 2
legacy_number legacy.BadHeaderCrc = 3
legacy_number legacy.Truncated = 4
legacy_number legacy.BadDataCrc = 5
legacy_number legacy.NoTableEnd = 6
legacy_number legacy.PartOutside = 7
legacy_number legacy.NoSuchPart = 8
legacy_number legacy.EmptyPart = 9
legacy_number legacy.TooLarge = 10

-- B1 to B11
abbrev pub blob_number : BlobFault → ℕ
blob_number blob.TooShort = 1
blob_number blob.BadMagic = 2
blob_number blob.BadVersion = 3
blob_number blob.BlockOutside = 4
blob_number blob.BadToken = 5
blob_number blob.Truncated = 6
blob_number blob.BadNodeName = 7
blob_number blob.BadNesting = 8
blob_number blob.BadPropertyName = 9
blob_number blob.TooLarge = 10
blob_number blob.OutOfMemory = 11

-- F1 to F10
abbrev pub fit_number : FitFault → ℕ
fit_number fit.NoImages = 1
fit_number fit.NoData = 2
fit_number fit.DataOutside = 3
fit_number fit.NoSuchImage = 4
fit_number fit.UnknownAlgo = 5
fit_number fit.PositionTooLow = 6
fit_number fit.TooLarge = 7
fit_number fit.OutOfMemory = 8
fit_number fit.NoFile = 9
fit_number fit.ReadFailed = 10

-- A refusal: the status 1, the letter of the fault as its ASCII code times 256 plus its number, and
-- its offset, which only a blob's fault has.
abbrev pub refusal : ℕ → ℕ → ℕ → Code
refusal letter number place = record { status = 1; fault = 256 * letter + number; place = place }

-- The numbers of a fault of an image or its blob, even one of making (L9, L10, B10, F5 to F10);
-- none if memory for the table was refused, a device failed, or a making's files are at fault.
abbrev pub code_of_fault : Fault → Option Code
code_of_fault (Legacy f) = Some (refusal 76 (legacy_number f) 0)
code_of_fault (Blob blob.OutOfMemory place) = None
code_of_fault (Blob f place) = Some (refusal 66 (blob_number f) place)
code_of_fault (Fit f) = Some (refusal 70 (fit_number f) 0)
code_of_fault _ = None

-- the numbers of a result: status 0 if all is done, 1 if something is wrong or the image refused
abbrev pub code_of_answer : Result Status Fault → Option Code
code_of_answer (Ok Done) = Some (record { status = 0; fault = 0; place = 0 })
code_of_answer (Ok NotRight) = Some (record { status = 1; fault = 0; place = 0 })
code_of_answer (Err fault) = code_of_fault fault

-- the numbers of what is found in a FIT image, or of the fault that refuses it
abbrev pub code_of_found : {X : Type 0} → Result X FitEngineFault → Option Code
code_of_found (Ok x) = code_of_answer (Ok Done)
code_of_found (Err fault) = code_of_fault (of_fit fault)

-- the numbers of the end of an outcome
abbrev pub code_of_end : End Fault → Option Code
code_of_end done = code_of_answer (Ok Done)
code_of_end not_right = code_of_answer (Ok NotRight)
code_of_end (refused fault) = code_of_fault fault

-- the algorithm of the profile of a strength, which is its number
abbrev pub strength : ℕ → Option Algo
strength n = find (λ algo. n == number algo) profile_algos
