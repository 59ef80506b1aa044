-- What a result says about the text that was read.
use Rattle.std.specs.Prelude.{◌≡◌, Bool, true, false, IsTrue, Option, Some, None, Result, Ok, Err}
use Rattle.std.specs.{Prelude.⊤, Bool.OnFalse}
use Rattle.uimg_base.specs.{Lent.Lent, Named.FileMap}
use Rattle.uimg_blob_writing.specs.UsingFiles.{UsesFiles}
use Rattle.uimg_its.specs.declared.fault.FaultKind.{FaultKind, TheVariants.OutOfMemory}
use Rattle.uimg_its.specs.declared.fault.FaultKind.TheVariants.{BadToken, BadSyntax, OutOfProfile}
use Rattle.uimg_its.specs.declared.fault.FaultKind.TheVariants.{BadNumber, NoFile, ReadFailed}
use Rattle.uimg_its.specs.declared.stop.Stop.{Stop}

-- the reason is outside the text: a file or memory
abbrev pub is_outside_text : FaultKind → Bool
is_outside_text BadToken = false
is_outside_text BadSyntax = false
is_outside_text (OutOfProfile construct) = false
is_outside_text BadNumber = false
is_outside_text NoFile = true
is_outside_text ReadFailed = true
is_outside_text OutOfMemory = true

-- the reason is a refused open
abbrev pub tells_no_file : FaultKind → Bool
tells_no_file BadToken = false
tells_no_file BadSyntax = false
tells_no_file (OutOfProfile construct) = false
tells_no_file BadNumber = false
tells_no_file NoFile = true
tells_no_file ReadFailed = false
tells_no_file OutOfMemory = false

-- the result is a refused open
abbrev pub is_no_file : {X : Type 0} → Result X Stop → Bool
is_no_file (Ok x) = false
is_no_file (Err stop) = tells_no_file stop.kind

-- the reason is a failed read of a file
abbrev pub tells_unread : FaultKind → Bool
tells_unread BadToken = false
tells_unread BadSyntax = false
tells_unread (OutOfProfile construct) = false
tells_unread BadNumber = false
tells_unread NoFile = false
tells_unread ReadFailed = true
tells_unread OutOfMemory = false

-- the result is a failed read of a file
abbrev pub is_unread : {X : Type 0} → Result X Stop → Bool
is_unread (Ok x) = false
is_unread (Err stop) = tells_unread stop.kind

-- the reason is not in a file
abbrev pub NotInFile : FaultKind → Type 0
NotInFile kind = (tells_no_file kind ≡ false) × (tells_unread kind ≡ false)

-- A refusal is never for a reason in a file.
abbrev pub NeverInFile : {X : Type 0} → Result X Stop → Type 0
NeverInFile result = (is_no_file result ≡ false) × (is_unread result ≡ false)

-- A refusal for a reason in the text means that reading finds nothing; any other says nothing of
-- it.
abbrev pub Refuses : {Y : Type 0} → FaultKind → Option Y → Type 0
Refuses kind read = OnFalse (is_outside_text kind) (read ≡ None)

-- The returned value, as `view` shows it, is what reading gives.
abbrev pub Gives : {X Y : Type 0} → (X → Y) → Result X Stop → Option Y → Type 0
Gives view (Ok x) read = read ≡ Some (view x)
Gives view (Err stop) read = Refuses stop.kind read

-- A refusal is for a reason outside the text.
abbrev pub IsOutside : {X : Type 0} → Result X Stop → Type 0
IsOutside (Ok x) = ⊤
IsOutside (Err stop) = is_outside_text stop.kind ≡ true

-- The reason is in the text, so not in a file.
pub record IsInText (kind : FaultKind) : Type 0 where
  pub in_text : is_outside_text kind ≡ false
  pub no_file : NotInFile kind

-- A refusal is only for refused memory: outside the text, and not in a file.
pub record OnlyMemory {X : Type 0} (result : Result X Stop) : Type 0 where
  pub outside : IsOutside result
  pub no_file : NeverInFile result

-- Files were opened. They are unchanged, a refusal was counted if and only if an open was refused,
-- and no read of steady sources failed.
pub record OpensFilesBetween {X : Type 0} (never_fails : Bool) (result : Result X Stop)
    (old new : FileMap) : Type 0 where
  pub files : UsesFiles (is_no_file result) old new
  pub steady : IsTrue never_fails → is_unread result ≡ false

abbrev pub OpensFiles : {F X : Type 0} → Bool → (F → FileMap) → Result X Stop → Lent F → Type 0
OpensFiles never_fails map result files =
    OpensFilesBetween never_fails result (map files.entry.now) (map files.exit.now)
