-- What a result says about the files that were opened.
use Rattle.std.specs.Prelude.{◌≡◌, Bool, true, false, IsTrue, Result, Ok, Err}
use Rattle.uimg_base.specs.{Lent.Lent, Named.FileMap}
use Rattle.uimg_blob_writing.specs.UsingFiles.{UsesFiles}
use Rattle.uimg_dts.specs.declared.fault.DtsKind.{DtsKind, TheVariants.{Source, NoFile, ReadFailed}}
use Rattle.uimg_dts.specs.declared.{stop.FileStop.FileStop, fault.DtsFault.DtsFault}

-- the reason is a refused open
abbrev pub tells_no_file : DtsKind → Bool
tells_no_file (Source refusal) = false
tells_no_file NoFile = true
tells_no_file ReadFailed = false

-- the reason is a failed read of a file
abbrev pub tells_unread : DtsKind → Bool
tells_unread (Source refusal) = false
tells_unread NoFile = false
tells_unread ReadFailed = true

-- the result is a refused open
abbrev pub is_no_file : {X : Type 0} → Result X FileStop → Bool
is_no_file (Ok x) = false
is_no_file (Err stop) = tells_no_file stop.kind

-- the result is a failed read of a file
abbrev pub is_unread : {X : Type 0} → Result X FileStop → Bool
is_unread (Ok x) = false
is_unread (Err stop) = tells_unread stop.kind

-- Files were opened. They are unchanged, a refusal was counted if and only if an open was refused,
-- and no read of steady sources failed.
pub record OpensFilesBetween {X : Type 0} (never_fails : Bool) (result : Result X FileStop)
    (old new : FileMap) : Type 0 where
  pub files : UsesFiles (is_no_file result) old new
  pub steady : IsTrue never_fails → is_unread result ≡ false

abbrev pub OpensFiles : {F X : Type 0} → Bool → (F → FileMap) → Result X FileStop → Lent F → Type 0
OpensFiles never_fails map result files =
    OpensFilesBetween never_fails result (map files.entry.now) (map files.exit.now)

-- the compiled source is refused because of an open
abbrev pub finds_no_file : {X : Type 0} → Result X DtsFault → Bool
finds_no_file (Ok x) = false
finds_no_file (Err fault) = tells_no_file fault.kind

-- the compiled source is refused because of a read of a file
abbrev pub is_file_unread : {X : Type 0} → Result X DtsFault → Bool
is_file_unread (Ok x) = false
is_file_unread (Err fault) = tells_unread fault.kind
