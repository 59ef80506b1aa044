-- The faults that have a line, by their numbers: the letter as its ASCII code times 256, plus the
-- number.
use Rattle.std.specs.Prelude.{◌≡◌, ℕ, ◌+◌, ◌*◌, ◌==◌, List, [], ◌∷◌, find, Option, None}
use Rattle.uimg_blob_reading.specs.declared.fault.BlobFault.{BlobFault}
use Rattle.uimg_blob_reading.specs.declared.fault.BlobFault.TheVariants as blob
use Rattle.uimg_fit_base.specs.declared.fault.FitFault.{FitFault}
use Rattle.uimg_fit_base.specs.declared.fault.FitFault.TheVariants as fit
use Rattle.uimg_legacy.specs.declared.fault.LegacyFault.{LegacyFault}
use Rattle.uimg_legacy.specs.declared.fault.LegacyFault.TheVariants as legacy
use Rattle.uimg_strict.specs.declared.loose.Looseness.{Looseness}
use Rattle.uimg_strict.specs.declared.loose.Looseness.TheVariants as loose
use Rattle.uimg_c.specs.{Codes.{legacy_number, blob_number, fit_number}, Strict.loose_number}

abbrev pub legacy_faults : List LegacyFault
legacy_faults =
    legacy.TooShort ∷ legacy.BadMagic ∷ legacy.BadHeaderCrc ∷ legacy.Truncated ∷ legacy.BadDataCrc
    ∷ legacy.NoTableEnd ∷ legacy.PartOutside ∷ legacy.NoSuchPart ∷ legacy.EmptyPart
    ∷ legacy.TooLarge ∷ []

abbrev pub blob_faults : List BlobFault
blob_faults =
    blob.TooShort ∷ blob.BadMagic ∷ blob.BadVersion ∷ blob.BlockOutside ∷ blob.BadToken
    ∷ blob.Truncated ∷ blob.BadNodeName ∷ blob.BadNesting ∷ blob.BadPropertyName ∷ blob.TooLarge
    ∷ blob.OutOfMemory ∷ []

abbrev pub fit_faults : List FitFault
fit_faults =
    fit.NoImages ∷ fit.NoData ∷ fit.DataOutside ∷ fit.NoSuchImage ∷ fit.UnknownAlgo
    ∷ fit.PositionTooLow ∷ fit.TooLarge ∷ fit.OutOfMemory ∷ fit.NoFile ∷ fit.ReadFailed ∷ []

abbrev pub loosenesses : List Looseness
loosenesses =
    loose.NoDescription ∷ loose.NoTimestamp ∷ loose.UnitAddress ∷ loose.DoubledNode
    ∷ loose.DoubledProperty ∷ loose.IgnoredHash ∷ loose.OddCell ∷ loose.TwoPayloads
    ∷ loose.HalfPlace ∷ loose.UnsoundBlob ∷ loose.Misplaced ∷ loose.EmptyData ∷ loose.UnknownType
    ∷ loose.UnknownArchitecture ∷ loose.UnknownSystem ∷ loose.UnknownCompression
    ∷ loose.Unsigned ∷ loose.UnknownSignature ∷ loose.WeakSignature ∷ loose.SignedStrings
    ∷ loose.SignedNodes ∷ loose.SignatureLength ∷ loose.SignatureRange ∷ loose.BadSignature ∷ []

-- the fault of a legacy image, of a blob or of a FIT image, or what strictness refuses, with this
-- number
abbrev pub legacy_of : ℕ → Option LegacyFault
legacy_of number = find (λ fault. number == 256 * 76 + legacy_number fault) legacy_faults

abbrev pub blob_of : ℕ → Option BlobFault
blob_of number = find (λ fault. number == 256 * 66 + blob_number fault) blob_faults

abbrev pub fit_of : ℕ → Option FitFault
fit_of number = find (λ fault. number == 256 * 70 + fit_number fault) fit_faults

abbrev pub loose_of : ℕ → Option Looseness
loose_of number = find (λ why. number == 256 * 83 + loose_number why) loosenesses

-- No fault has this number.
pub record IsNoFault (number : ℕ) : Type 0 where
  pub legacy : legacy_of number ≡ None
  pub blob : blob_of number ≡ None
  pub fit : fit_of number ≡ None
  pub loose : loose_of number ≡ None
