-- The report of a check, as a file.
use Rattle.std.specs.Prelude.{◌≡◌, ◌⊎◌, ◌==◌, ⊤, ℕ, List, [], ◌∷◌, codes, length, nat_lt, take, Option, Some, None, Result, Bool, true, false, if◌then◌else◌, IfSome, IsTrue, OnOk}
use Rattle.std.specs.{Borrow.Bor, Str.bytes_eq}
use Rattle.uimg_base.specs.Named.{FileMap}
use Rattle.uimg_checks.specs.TestReports.{Reported, nothing_reported, report_text}
use Rattle.uimg_tool.specs.Drawing.{DrawsTo, Overwrites}
use Rattle.uimg_world.specs.Deeds.{Closes, Deed, Finds, Opens, Renames, changes}
use Rattle.uimg_world.specs.declared.call.Answer.{Answer, TheVariants.Done}
use Rattle.uimg_world.specs.declared.kind.Target.{Target}
use Rattle.uimg_world.specs.declared.kind.Target.TheVariants as target

-- a file that a report may replace: an empty one, or one that begins as a report does
unfoldable pub begins_as_report : List ℕ → Bool
begins_as_report file = if length file == 0 then true
    else (if nat_lt (length file) 5 then false else bytes_eq (take 5 file) (codes "<?xml"))

-- If the files are honest, the file at a path, if there is one, may be replaced.
abbrev pub IsSpare : FileMap → List ℕ → Type 0
IsSpare files path =
    IsTrue files.honest → IfSome (files.bytes path) (λ file. begins_as_report file ≡ true)

-- What exists at a path is opened, and may be replaced; or it is no file, and cannot be opened.
abbrev pub OpensReport : FileMap → List ℕ → Bool → (before after : List Deed) → Type 0
OpensReport files path is_file before after = (IsSpare files path × (after ≡ Opens path true ∷ before))
    ⊎ ((is_file ≡ false) × (after ≡ Opens path false ∷ before))

-- A path is looked at, and what exists there is opened, but a pipe.
abbrev pub FindsAs : FileMap → List ℕ → Target → (before after : List Deed) → Type 0
FindsAs files path target.File before after = OpensReport files path true before after
FindsAs files path target.Other before after = OpensReport files path false before after
FindsAs files path found before after = after ≡ before

abbrev pub FindsReport : FileMap → List ℕ → (before after : List Deed) → Type 0
FindsReport files path before after =
    (found : Target) × FindsAs files path found (Finds path found ∷ before) after

-- the same, if a report is requested
abbrev pub FindsReportIf : FileMap → Option (Bor (List ℕ)) → (before after : List Deed) → Type 0
FindsReportIf files None before after = after ≡ before
FindsReportIf files (Some path) before after = FindsReport files path.now before after

-- A file holds this text, was closed, and got its path. What is written in place, to a device, a pipe or
-- where a link leads, is not said.
pub data HoldsReport (text : List ℕ) (after : List Deed) : Type 0 where
  beside_it : (new whole : List ℕ) (begun : List Deed) → after ≡ Renames new whole Done ∷ Closes new false (Some text) Done ∷ begun → HoldsReport text after
  in_place : (path : List ℕ) (seen : List Deed) → Overwrites path seen after → HoldsReport text after

-- The file at a path was closed. If a text was written to it, it holds the text where nothing was in it
-- and contracts know what new files hold.
pub record FillsReport {E : Type 0} (knows : Bool) (path text : List ℕ) (held : Option (List ℕ)) (result : Result ⊤ E) (before after : List Deed) : Type 0 where
  pub contents : Option (List ℕ)
  pub answer : Answer
  pub closes : after ≡ Closes path false contents answer ∷ before
  pub whole : OnOk result ((answer ≡ Done) × (IsTrue knows → held ≡ Some [] → contents ≡ Some text))

-- what a report has before a check, if one is requested
abbrev pub report_before : Option (Bor (List ℕ)) → Option Reported
report_before None = None
report_before (Some path) = Some nothing_reported

-- A report is written to a path. If the files are honest, the file holds just its text.
abbrev pub WritesReport : FileMap → List ℕ → Reported → (before after : List Deed) → Type 0
WritesReport files path report before after = DrawsTo path true before after
    × (IsTrue files.honest → HoldsReport (report_text report) after)

-- the same, if there is one
abbrev pub WritesReportIf : FileMap → Option (Bor (List ℕ)) → Option Reported → (before after : List Deed) → Type 0
WritesReportIf files None report before after = after ≡ before
WritesReportIf files (Some path) None before after = after ≡ before
WritesReportIf files (Some path) (Some report) before after = WritesReport files path.now report before after

-- The file of a report alone may be changed, if one is requested. A refused or failed check may leave
-- it as it is.
abbrev pub AsksToReport : Option (Bor (List ℕ)) → (before after : List Deed) → Type 0
AsksToReport None before after = after ≡ before
AsksToReport (Some path) before after = (after ≡ before) ⊎ DrawsTo path.now true before after

abbrev pub AsksToCheck : Option (Bor (List ℕ)) → (before after : List Deed) → Type 0
AsksToCheck asked before after =
    (seen : List Deed) × (changes seen ≡ changes before) × AsksToReport asked seen after
