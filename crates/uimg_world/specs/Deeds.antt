-- What was requested of a world of files, and what it answered.
use Rattle.std.specs.Prelude.{◌≡◌, ℕ, List, [], ◌∷◌, Option, Some, None, Result, Ok, Err, Bool, true, false, ◌&&◌, IsTrue, Vec}
use Rattle.std.specs.Fs.{IsDir, IsSymlink, file_type}
use Rattle.std.specs.declared.fs.attrs.Metadata.{Metadata}
use Rattle.std.specs.declared.io.Error.{Error}
use Rattle.std.specs.declared.io.ErrorKind.{ErrorKind}
use Rattle.std.specs.declared.io.ErrorKind.TheVariants.{AlreadyExists}
use Rattle.std.specs.IoError.{error_kind}
use Rattle.std.specs.Path.{path_buf_bytes}
use Rattle.std.specs.declared.path.buf.PathBuf.{PathBuf}
use Rattle.uimg_world.specs.declared.kind.Kind.{Kind}
use Rattle.uimg_world.specs.declared.kind.Kind.TheVariants.{Nothing, File, Folder, Link}
use Rattle.uimg_world.specs.declared.kind.Target.{Target}
use Rattle.uimg_world.specs.declared.call.Answer.{Answer}
use Rattle.uimg_world.specs.declared.call.Answer.TheVariants.{Done, Exists, Failed}
use Rattle.uimg_world.specs.declared.call.Call.{Call}
use Rattle.uimg_world.specs.declared.call.Call.TheVariants as call
use Rattle.uimg_world.specs.declared.file_id.FileId.{FileId}

abbrev pub refusal : ErrorKind → Answer
refusal AlreadyExists = Exists
refusal _ = Failed

abbrev pub answer_of : {T : Type 0} → Result T Error → Answer
answer_of (Ok _) = Done
answer_of (Err error) = refusal (error_kind error)

-- what exists at a path, by its properties (POSIX, sys/stat.h), if it has any
abbrev pub IsKindOf : {E : Type 0} → Result Metadata E → Kind → Type 0
IsKindOf (Ok found) Folder = IsDir (file_type found)
IsKindOf (Ok found) Link = IsSymlink (file_type found)
IsKindOf (Ok found) File = (IsDir (file_type found) → ⊥) × (IsSymlink (file_type found) → ⊥)
IsKindOf (Ok found) Nothing = ⊥
IsKindOf (Err error) kind = kind ≡ Nothing

-- the path that a call answers, if it does
abbrev pub resolved : {Z E : Type 0} → Result (PathBuf Z) E → Option (List ℕ)
resolved (Ok path) = Some (path_buf_bytes path)
resolved (Err error) = None

-- the names that a call answers, if it does
abbrev pub listed : {Z E : Type 0} → Result (Vec ℕ Z) E → Option (List ℕ)
listed (Ok names) = Some names.items
listed (Err error) = None

-- a call, on which paths, and its answer
pub data Deed : Type 0 where
  Creates : List ℕ → Answer → Deed
  Links : List ℕ → List ℕ → Answer → Deed
  Renames : List ℕ → List ℕ → Answer → Deed
  Removes : List ℕ → Answer → Deed
  MakesFolder : List ℕ → Answer → Deed
  RemovesFolder : List ℕ → Answer → Deed
  RemovesAll : List ℕ → Answer → Deed
  Syncs : List ℕ → Answer → Deed
  Resolves : List ℕ → Option (List ℕ) → Deed
  Looks : List ℕ → Kind → Deed
  Identifies : List ℕ → Option FileId → Deed
  Opens : List ℕ → Bool → Deed
  Explains : List ℕ → Deed
  Reads : List ℕ → Answer → Deed
  Finds : List ℕ → Target → Deed
  Lists : List ℕ → Option (List ℕ) → Deed
  Overwrites : List ℕ → Answer → Deed
  LendsReader : Deed
  LendsShelf : List ℕ → Deed
  Closes : List ℕ → Bool → Option (List ℕ) → Answer → Deed

-- the path that a call answered, if it did
abbrev pub path_if : Bool → List ℕ → Option (List ℕ)
path_if true path = Some path
path_if false path = None

-- a call as it is noted
abbrev pub deed_of : Call → (path other : List ℕ) → Deed
deed_of (call.Creates answer) path other = Creates path answer
deed_of (call.Links answer) path other = Links path other answer
deed_of (call.Renames answer) path other = Renames path other answer
deed_of (call.Removes answer) path other = Removes path answer
deed_of (call.MakesFolder answer) path other = MakesFolder path answer
deed_of (call.RemovesFolder answer) path other = RemovesFolder path answer
deed_of (call.RemovesAll answer) path other = RemovesAll path answer
deed_of (call.Syncs answer) path other = Syncs path answer
deed_of (call.Resolves is_resolved) path other = Resolves path (path_if is_resolved other)
deed_of (call.Looks kind) path other = Looks path kind
deed_of (call.Identifies found) path other = Identifies path found
deed_of (call.Opens is_opened) path other = Opens path is_opened
deed_of call.Explains path other = Explains path
deed_of (call.Reads answer) path other = Reads path answer
deed_of (call.Finds target) path other = Finds path target
deed_of (call.Lists is_listed) path other = Lists path (path_if is_listed other)
deed_of (call.Overwrites answer) path other = Overwrites path answer
deed_of call.LendsReader path other = LendsReader
deed_of call.LendsShelf path other = LendsShelf path
deed_of (call.Closes is_synced is_known answer) path other = Closes path is_synced (path_if is_known other) answer

-- a call changes only what is at such paths
abbrev pub changes_only : (List ℕ → Bool) → Deed → Bool
changes_only ok (Creates path _) = ok path
changes_only ok (Links from to _) = ok from && ok to
changes_only ok (Renames from to _) = ok from && ok to
changes_only ok (Removes path _) = ok path
changes_only ok (MakesFolder path _) = ok path
changes_only ok (RemovesFolder path _) = ok path
changes_only ok (RemovesAll path _) = ok path
changes_only ok (Overwrites path _) = ok path
changes_only ok (LendsShelf path) = ok path
changes_only ok (Closes path _ _ _) = ok path
changes_only ok _ = true

-- the calls that may change files, the newest first: all that do more than read, look, or lend what reads
abbrev pub changes : List Deed → List Deed
changes [] = []
changes (Opens path opened ∷ before) = changes before
changes (Explains path ∷ before) = changes before
changes (Reads path answer ∷ before) = changes before
changes (Finds path found ∷ before) = changes before
changes (Lists path names ∷ before) = changes before
changes (Identifies path file ∷ before) = changes before
changes (Looks path kind ∷ before) = changes before
changes (Resolves path answer ∷ before) = changes before
changes (LendsReader ∷ before) = changes before
changes (deed ∷ before) = deed ∷ changes before

-- A file was closed at a path, after a wait for its bytes if it is synced. What it holds is noted, if contracts know that.
pub record ClosesFile (is_known : Bool) (path : List ℕ) (is_synced : Bool) (held : Option (List ℕ)) (answer : Answer) (old new : List Deed) : Type 0 where
  pub contents : Option (List ℕ)
  pub is : new ≡ Closes path is_synced contents answer ∷ old
  pub known : IsTrue is_known → contents ≡ held
