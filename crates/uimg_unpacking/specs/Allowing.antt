-- Which paths may be written.
use Rattle.std.specs.Prelude.{◌≡◌, ℕ, List, ◌∷◌, Bool, true, false, Option, Some, None}
use Rattle.uimg_world.specs.Deeds.{Deed, Looks, Identifies}
use Rattle.uimg_world.specs.declared.kind.Kind.{Kind}
use Rattle.uimg_world.specs.declared.kind.Kind.TheVariants.{Nothing, File, Folder, Link}
use Rattle.uimg_world.specs.FileIds.{is_image}
use Rattle.uimg_world.specs.declared.file_id.FileId.{FileId}

-- why a path may not be written
pub data Refused : Type 0 where
  Image : Refused
  AFolder : Refused
  There : Refused

-- by what exists at a path, and whether files are replaced
abbrev pub refused_for : Kind → Bool → Option Refused
refused_for Nothing is_forced = None
refused_for Folder is_forced = Some AFolder
refused_for File true = None
refused_for File false = Some There
refused_for Link true = None
refused_for Link false = Some There

-- The world is asked which file is at the path. If it is that of the image, the path is refused. Otherwise it is asked
-- what exists there, and the path is refused if that is a folder, or anything, unless files are replaced.
pub data Allows (image : Option FileId) (is_forced : Bool) (path : List ℕ) (refused : Option Refused) (before after : List Deed) : Type 0 where
  is_the_image : (found : Option FileId) → is_image found image ≡ true → refused ≡ Some Image → after ≡ Identifies path found ∷ before → Allows image is_forced path refused before after
  is_looked_at : (found : Option FileId) (kind : Kind) → is_image found image ≡ false → refused ≡ refused_for kind is_forced → after ≡ Looks path kind ∷ Identifies path found ∷ before → Allows image is_forced path refused before after
