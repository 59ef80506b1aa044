-- What is read of a built image.
use Rattle.std.specs.Prelude.{◌≡◌, ℕ, ◌<◌, List, ◌++◌, length, slice_index_or, codes, []}
use Rattle.uimg_base.specs.Outcome.{Outcome, done, told, line}
use Rattle.uimg_legacy.specs.{declared.fault.LegacyFault.LegacyFault, Report.verify_of}
use Rattle.uimg_legacy.specs.{Listing.list_of, Extraction.extract_of}
use Rattle.uimg_texts.specs.declared.naming.Naming.{Naming}

-- the report on an image whose checksums are right
abbrev pub right_report : Outcome LegacyFault
right_report = told (line (codes "header crc32 ok") ++ line (codes "data crc32 ok")) done

-- A built image's checksums are right, its listing is not refused, and extractions give its parts.
pub record ReadsBack (image : List ℕ) (parts : List (List ℕ)) : Type 0 where
  -- the report is the two `ok` lines
  pub report : verify_of image ≡ right_report
  pub listing : (naming : Naming) → (list_of naming image).end ≡ done
  pub extraction : (position : ℕ) → position < length parts →
      extract_of image position ≡ told (slice_index_or parts position []) done
