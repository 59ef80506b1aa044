-- Where the file for a path is written, and the requests to the world that find this.
use Rattle.std.specs.Prelude.{◌≡◌, ⊤, ◌⊎◌, ◌<◌, ◌+◌, ℕ, zero, suc, List, [], ◌∷◌, ◌++◌, codes, decimal, Option, Some, None, Result, Ok, Err, Bool, true, false, string_bytes}
use Rattle.std.specs.declared.io.Error.{Error}
use Rattle.uimg_world.specs.Deeds.{Deed, Creates, Finds, Looks, Resolves}
use Rattle.uimg_world.specs.declared.call.Answer.TheVariants.{Done, Exists, Failed}
use Rattle.uimg_world.specs.Kinds.{is_something}
use Rattle.uimg_world.specs.declared.kind.Kind.{Kind}
use Rattle.uimg_world.specs.declared.kind.Kind.TheVariants as kind
use Rattle.uimg_world.specs.declared.kind.Target.TheVariants as target
use Rattle.uimg_tool.specs.declared.safe_path.NewBeside.{NewBeside}
use Rattle.uimg_tool.specs.declared.safe_path.Writing.{Writing}
use Rattle.uimg_tool.specs.declared.safe_path.Writing.TheVariants as writing
use Rattle.uimg_tool.specs.declared.writing.Lead.{Lead}
use Rattle.uimg_tool.specs.declared.writing.Lead.TheVariants as lead

-- PATH.uimg-newN
abbrev pub beside : List ℕ → ℕ → List ℕ
beside path number = path ++ codes ".uimg-new" ++ decimal number

-- The first names beside a path, from number 1 on, were tried, and exist.
unfoldable pub tried : List ℕ → ℕ → List Deed → List Deed
tried path zero before = before
tried path (suc number) before = Creates (beside path (number + 1)) Exists ∷ tried path number before

-- A file was created beside a path, under the first name that is free.
abbrev pub CreatesNew : (path new : List ℕ) → (before after : List Deed) → Type 0
CreatesNew path new before after = (number : ℕ) × (number < 10000) × (new ≡ beside path (number + 1))
    × (after ≡ Creates new Done ∷ tried path number before)

-- None was, since the first free name cannot be created, or 10000 names exist.
abbrev pub CreatesNone : (path : List ℕ) → (before after : List Deed) → Type 0
CreatesNone path before after =
    ((number : ℕ) × (number < 10000) × (after ≡ Creates (beside path (number + 1)) Failed ∷ tried path number before))
    ⊎ (after ≡ tried path 10000 before)

-- Memory for the next name was refused.
abbrev pub StopsTrying : (path : List ℕ) → (before after : List Deed) → Type 0
StopsTrying path before after = (number : ℕ) × (number < 10000) × (after ≡ tried path number before)

abbrev pub CreatesBeside : {F Z : Type 0} → List ℕ → Result (Result (NewBeside F) Error) Z → (before after : List Deed) → Type 0
CreatesBeside path (Ok (Ok new)) before after = CreatesNew path (string_bytes new.path) before after
CreatesBeside path (Ok (Err reason)) before after = CreatesNone path before after
CreatesBeside path (Err refused) before after = StopsTrying path before after

-- what exists is a symbolic link
abbrev pub is_link : Kind → Bool
is_link kind.Link = true
is_link _ = false

-- What a path leads to is written in place: a device, a symbolic link whose file has no path, or what
-- exists though it leads nowhere, as a symbolic link.
pub data IsInPlace (path : List ℕ) (before after : List Deed) : Type 0 where
  other : after ≡ Finds path target.Other ∷ before → IsInPlace path before after
  lost : after ≡ Looks path kind.Link ∷ Resolves path None ∷ Finds path target.File ∷ before → IsInPlace path before after
  nowhere : (found : Kind) → is_something found ≡ true → after ≡ Looks path found ∷ Finds path target.Nothing ∷ before → IsInPlace path before after

-- the same, or a pipe
abbrev pub LeadsInPlace : List ℕ → (before after : List Deed) → Type 0
LeadsInPlace path before after = (after ≡ Finds path target.Pipe ∷ before) ⊎ IsInPlace path before after

-- A path leads to the file at another, through symbolic links, or nothing exists there.
pub data IsAt (path whole : List ℕ) (before after : List Deed) : Type 0 where
  resolved : after ≡ Resolves path (Some whole) ∷ Finds path target.File ∷ before → IsAt path whole before after
  unresolved : (found : Kind) → is_link found ≡ false → whole ≡ path → after ≡ Looks path found ∷ Resolves path None ∷ Finds path target.File ∷ before → IsAt path whole before after
  free : whole ≡ path → after ≡ Looks path kind.Nothing ∷ Finds path target.Nothing ∷ before → IsAt path whole before after

-- a path as that of a file, if there is memory for it
abbrev pub IsFile : {Z : Type 0} → List ℕ → Result Lead Z → Type 0
IsFile path (Ok (lead.File whole)) = string_bytes whole ≡ path
IsFile path (Ok lead) = ⊥
IsFile path (Err refused) = ⊤

-- what a path leads to
abbrev pub LeadsTo : {Z : Type 0} → List ℕ → Result Lead Z → (before after : List Deed) → Type 0
LeadsTo path (Ok lead.Pipe) before after = after ≡ Finds path target.Pipe ∷ before
LeadsTo path (Ok lead.InPlace) before after = IsInPlace path before after
LeadsTo path (Ok (lead.File whole)) before after = IsAt path (string_bytes whole) before after
LeadsTo path (Err refused) before after = (whole : List ℕ) × IsAt path whole before after

-- A pipe, what is written in place, or a new file beside the one that the path leads to, which was
-- created. If it could not be, or memory was refused, that was found in the same order.
abbrev pub WritesFor : {F Z : Type 0} → List ℕ → Result (Writing F) Z → (before after : List Deed) → Type 0
WritesFor path (Ok writing.Pipe) before after = after ≡ Finds path target.Pipe ∷ before
WritesFor path (Ok writing.InPlace) before after = IsInPlace path before after
WritesFor path (Ok (writing.Beside file safe)) before after = (seen : List Deed)
    × IsAt path (string_bytes safe.whole) before seen × CreatesNew (string_bytes safe.whole) (string_bytes safe.new) seen after
WritesFor path (Ok (writing.Nowhere reason)) before after = (whole : List ℕ) × (seen : List Deed)
    × IsAt path whole before seen × CreatesNone whole seen after
WritesFor path (Err refused) before after = (whole : List ℕ) × (seen : List Deed)
    × IsAt path whole before seen × ((seen ≡ after) ⊎ StopsTrying whole seen after)

-- Nothing is in a new file.
abbrev pub WritesNew : {F Z : Type 0} → (F → Option (List ℕ)) → Result (Writing F) Z → Type 0
WritesNew contents (Ok (writing.Beside file safe)) = contents file ≡ Some []
WritesNew contents result = ⊤
