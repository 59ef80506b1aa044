-- The files of a folder, without one that is left out.
use Rattle.std.specs.Prelude.{◌≡◌, ◌⊎◌, ◌||◌, ◌&&◌, ◌==◌, ℕ, List, [], Option, Bool, false, true}
use Rattle.std.specs.Path.{path_join}
use Rattle.uimg_base.specs.Named.{FileMap, SameFiles}
use Rattle.uimg_tool.specs.declared.lookup.Folders.{Folders}
use Rattle.uimg_world.specs.FileIds.{is_image}
use Rattle.uimg_world.specs.declared.file_id.FileId.{FileId}

-- the bytes at a name: those at the path of the name in a folder
abbrev pub in_folder : List ℕ → (List ℕ → Option (List ℕ)) → List ℕ → Option (List ℕ)
in_folder folder bytes = λ name. bytes (path_join folder name)

-- The files of a folder, none of them opened. Where other folders are searched too, they are not honest.
abbrev pub seen_in : (folder : List ℕ) (others : ℕ) → FileMap → FileMap
seen_in folder others files = record {
  bytes = in_folder folder files.bytes;
  honest = others == 0 && files.honest;
  complete = false;
  refusals = 0;
  opened = [];
}

-- The folders are the same, and so is what is found in them.
pub record SameFolders {R S : Type 0} (map : R → FileMap) (identities : R → List ℕ → Option FileId) (old new : Folders R S) : Type 0 where
  pub files : SameFiles (map old.reader) (map new.reader)
  pub kept : identities new.reader ≡ identities old.reader
  pub folder : new.folder ≡ old.folder
  pub others : new.others ≡ old.others
  pub left_out : new.left_out ≡ old.left_out

-- whether a name in a folder leads to the file at a path, by which file is at each path
unfoldable pub leads_to : (List ℕ → Option FileId) → (folder path : List ℕ) → List ℕ → Bool
leads_to identities folder path name = is_image (identities (path_join folder name)) (identities path)

-- It is noted that the file is met exactly if a name leads to it. If there is no path of the name, or
-- no memory for it, the open is refused, and nothing is noted.
abbrev pub NotesMet : (leads failed old new : Bool) → Type 0
NotesMet leads failed old new = (new ≡ (old || leads)) ⊎ ((failed ≡ true) × (new ≡ old))
