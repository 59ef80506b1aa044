-- What the drawing of a map to a file asks of a world.
use Rattle.std.specs.Prelude.{◌≡◌, ◌⊎◌, ℕ, List, ◌∷◌, Bool, true, false, Option, Some, None}
use Rattle.std.specs.Borrow.{Bor}
use Rattle.uimg_cli.specs.declared.command_line.map.MapRequest.{MapRequest}
use Rattle.uimg_tool.specs.Images.{ClosesAt, Compares}
use Rattle.uimg_tool.specs.Writings.{CreatesNew, CreatesNone, IsAt, IsInPlace, StopsTrying}
use Rattle.uimg_world.specs.Deeds as deed
use Rattle.uimg_world.specs.Deeds.{Deed, Explains, Finds, Looks, Opens, Removes, changes}
use Rattle.uimg_world.specs.declared.call.Answer.{Answer}
use Rattle.uimg_world.specs.declared.call.Answer.TheVariants.{Done}
use Rattle.uimg_world.specs.Kinds.{is_something}
use Rattle.uimg_unpacking.specs.Naming.{GivesName, is_done}
use Rattle.uimg_world.specs.declared.kind.Kind.{Kind}
use Rattle.uimg_world.specs.declared.kind.Target.TheVariants as target

-- A path is looked at. A file there is replaced, and so is what exists though it leads nowhere; a pipe
-- or a device is written to.
pub data LooksTaken (path : List ℕ) (is_taken : Bool) (before after : List Deed) : Type 0 where
  a_file : is_taken ≡ true → after ≡ Finds path target.File ∷ before → LooksTaken path is_taken before after
  a_pipe : is_taken ≡ false → after ≡ Finds path target.Pipe ∷ before → LooksTaken path is_taken before after
  another : is_taken ≡ false → after ≡ Finds path target.Other ∷ before → LooksTaken path is_taken before after
  leads_nowhere : (found : Kind) → is_taken ≡ is_something found → after ≡ Looks path found ∷ Finds path target.Nothing ∷ before → LooksTaken path is_taken before after

-- A new file gets the path WHOLE. If it cannot get that, or is incomplete, it is removed.
pub data NamesPicture (new whole : List ℕ) (is_forced : Bool) (before after : List Deed) : Type 0 where
  named : GivesName new whole is_forced Done before after → NamesPicture new whole is_forced before after
  unnamed : (answer removed : Answer) (seen : List Deed) → is_done answer ≡ false → GivesName new whole is_forced answer before seen → after ≡ Removes new removed ∷ seen → NamesPicture new whole is_forced before after
  unfinished : (removed : Answer) → after ≡ Removes new removed ∷ before → NamesPicture new whole is_forced before after

-- what was written to the file at a path was closed, or it was not begun
abbrev pub Fills : List ℕ → (before after : List Deed) → Type 0
Fills path before after = (after ≡ before) ⊎ ClosesAt path before after

-- the file at a path was created or emptied, and filled; or it could not be created
abbrev pub Overwrites : List ℕ → (before after : List Deed) → Type 0
Overwrites path before after = (answer : Answer) × Fills path (deed.Overwrites path answer ∷ before) after

-- A picture is written to a new file beside the one that its path leads to, which gets that path; or in
-- place, to a device or a pipe. Nothing is changed if the new file cannot be created.
pub data DrawsTo (path : List ℕ) (is_forced : Bool) (before after : List Deed) : Type 0 where
  beside_it : (whole new : List ℕ) (seen begun filled : List Deed) → IsAt path whole before seen → CreatesNew whole new seen begun → Fills new begun filled → NamesPicture new whole is_forced filled after → DrawsTo path is_forced before after
  in_place : (seen : List Deed) → IsInPlace path before seen → Overwrites path seen after → DrawsTo path is_forced before after
  to_pipe : Overwrites path (Finds path target.Pipe ∷ before) after → DrawsTo path is_forced before after
  uncreated : (whole : List ℕ) (seen : List Deed) → IsAt path whole before seen → CreatesNone whole seen after → DrawsTo path is_forced before after
  no_memory : (whole : List ℕ) (seen : List Deed) → IsAt path whole before seen → (seen ≡ after) ⊎ StopsTrying whole seen after → DrawsTo path is_forced before after

-- if files are replaced, nothing is looked at before the picture is drawn
pub data DrawsUnlessTaken (path : List ℕ) (is_forced : Bool) (before after : List Deed) : Type 0 where
  forced : is_forced ≡ true → DrawsTo path is_forced before after → DrawsUnlessTaken path is_forced before after
  taken : is_forced ≡ false → LooksTaken path true before after → DrawsUnlessTaken path is_forced before after
  free : (seen : List Deed) → is_forced ≡ false → LooksTaken path false before seen → DrawsTo path is_forced seen after → DrawsUnlessTaken path is_forced before after

-- The image is opened once. Its map is drawn to the file at a path, unless that is the image's.
pub data Draws (image path : List ℕ) (is_forced : Bool) (before after : List Deed) : Type 0 where
  unread : after ≡ Explains image ∷ Opens image false ∷ before → Draws image path is_forced before after
  unmapped : after ≡ Opens image true ∷ before → Draws image path is_forced before after
  same : Compares path image true (Opens image true ∷ before) after → Draws image path is_forced before after
  apart : (seen : List Deed) → Compares path image false (Opens image true ∷ before) seen → DrawsUnlessTaken path is_forced seen after → Draws image path is_forced before after

-- What a map asks of a world: lines change no file.
abbrev pub AsksToMap : MapRequest → Option (Bor (List ℕ)) → (before after : List Deed) → Type 0
AsksToMap asked None before after = changes after ≡ changes before
AsksToMap asked (Some path) before after = Draws asked.image.now path.now asked.is_forced before after
