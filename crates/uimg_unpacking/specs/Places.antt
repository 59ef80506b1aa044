-- What an unpacking into a folder may change: files of the folder, when they get their names, and before that what is in
-- a temporary folder within it.
use Rattle.std.specs.Prelude.{◌≡◌, ℕ, nat_le, ◌-◌, List, [], ◌∷◌, ◌++◌, ◌==◌, length, take, codes, Bool, true, false, not, ◌&&◌, ◌||◌, if◌then◌else◌}
use Rattle.std.specs.Prelude.{Option, Some, None, string_bytes, bytes_eq}
use Rattle.std.specs.List.{list_all}
use Rattle.std.specs.Option.{option_map_or}
use Rattle.uimg_world.specs.Deeds.{Deed, Closes, LendsShelf, Looks, Overwrites, RemovesAll, Renames, changes, changes_only}
use Rattle.uimg_unpacking.specs.FileNames.{is_file_name}
use Rattle.uimg_unpacking.specs.declared.staged_file.StagedFile.{StagedFile}
use Rattle.uimg_unpacking.specs.declared.folder.Folder.{Folder}
use Rattle.uimg_world.specs.declared.kind.Kind.TheVariants.{Nothing}

-- what follows a text at the start of a path
abbrev pub behind : List ℕ → List ℕ → Option (List ℕ)
behind [] path = Some path
behind (byte ∷ text) [] = None
behind (byte ∷ text) (first ∷ rest) = if byte == first then behind text rest else None

abbrev pub is_digit : ℕ → Bool
is_digit byte = nat_le 48 byte && nat_le byte 57

abbrev pub past_digits : List ℕ → List ℕ
past_digits [] = []
past_digits (byte ∷ rest) = if is_digit byte then past_digits rest else byte ∷ rest

-- `FOLDER/NAME`, where NAME is a file name
unfoldable pub is_file_of : List ℕ → List ℕ → Bool
is_file_of folder path = option_map_or is_file_name (behind (folder ++ codes "/") path) false

-- `FOLDER/.uimg-newN`
unfoldable pub is_temporary_folder : List ℕ → List ℕ → Bool
is_temporary_folder folder path = option_map_or (list_all is_digit) (behind (folder ++ codes "/.uimg-new") path) false

-- `/new-K` or `/old-K`
abbrev pub is_inner : List ℕ → Bool
is_inner rest =
    option_map_or (list_all is_digit) (behind (codes "/new-") rest) false
    || option_map_or (list_all is_digit) (behind (codes "/old-") rest) false

-- `FOLDER/.uimg-newN/new-K` or `FOLDER/.uimg-newN/old-K`
unfoldable pub is_temporary_file : List ℕ → List ℕ → Bool
is_temporary_file folder path =
    option_map_or (λ rest. is_inner (past_digits rest)) (behind (folder ++ codes "/.uimg-new") path) false

-- `FOLDER/.uimg-newN/old-K`
unfoldable pub is_kept_file : List ℕ → List ℕ → Bool
is_kept_file folder path =
    option_map_or (λ rest. option_map_or (list_all is_digit) (behind (codes "/old-") (past_digits rest)) false)
    (behind (folder ++ codes "/.uimg-new") path) false

-- What may be changed. Files of the folder may be once files get their names.
unfoldable pub may_change : List ℕ → Bool → List ℕ → Bool
may_change folder is_naming path =
    is_temporary_folder folder path || is_temporary_file folder path || (is_naming && is_file_of folder path)

-- a world changed only that
abbrev pub stays_within : List ℕ → Bool → List Deed → Bool
stays_within folder is_naming = list_all (changes_only (may_change folder is_naming))

-- what was changed since is only that
pub record ChangesWithin (folder : List ℕ) (is_naming : Bool) (old new : List Deed) : Type 0 where
  pub made : List Deed
  pub is : changes new ≡ made ++ changes old
  pub within : stays_within folder is_naming made ≡ true

-- how files are written to a folder: its path, whether existing files are replaced, and whether files are synced
abbrev pub Terms : Type 0
Terms = List ℕ × Bool × Bool

abbrev pub terms_of : Folder → Terms
terms_of folder = (folder.path.now, folder.is_forced, folder.is_synced)

-- a look saw that nothing exists at a path
abbrev pub is_free : List ℕ → Deed → Bool
is_free path (Looks seen Nothing) = bytes_eq path seen
is_free path _ = false

-- the last of these calls was such a look
abbrev pub saw_nothing : List ℕ → List Deed → Bool
saw_nothing path [] = false
saw_nothing path (last ∷ before) = is_free path last

-- Which calls are made, after others: those that change what may be changed. A file is closed after a wait for its bytes
-- just if files are synced. Unless files are replaced, a rename, which replaces what exists, follows a look that saw
-- nothing there, or puts back what was kept. A link replaces nothing. No file is written over, and no folder removed with
-- what is in it.
abbrev pub may_call : Terms → Bool → Deed → List Deed → Bool
may_call terms is_naming (Closes path is_synced contents answer) before =
    may_change terms.0 is_naming path && (if is_synced then terms.2 else not terms.2)
may_call terms is_naming (Renames from to answer) before =
    may_change terms.0 is_naming from && may_change terms.0 is_naming to
    && (terms.1 || is_kept_file terms.0 from || saw_nothing to before)
may_call terms is_naming (RemovesAll path answer) before = false
may_call terms is_naming (Overwrites path answer) before = false
may_call terms is_naming (LendsShelf path) before = false
may_call terms is_naming deed before = changes_only (may_change terms.0 is_naming) deed

abbrev pub obeys : Terms → Bool → List Deed → Bool
obeys terms is_naming [] = true
obeys terms is_naming (deed ∷ before) = may_call terms is_naming deed before && obeys terms is_naming before

-- the calls that were made since
abbrev pub since : (old new : List Deed) → List Deed
since old new = take (length new - length old) new

-- What was called since is only that.
pub record Obeys (terms : Terms) (is_naming : Bool) (old new : List Deed) : Type 0 where
  pub is : new ≡ since old new ++ old
  pub rules : obeys terms is_naming (since old new) ≡ true

-- the paths of a file that was begun, which differ: `FOLDER/NAME` is that of its name
unfoldable pub is_begun_in : List ℕ → StagedFile → Bool
is_begun_in folder begun =
    is_temporary_file folder (string_bytes begun.new) && is_kept_file folder (string_bytes begun.old)
    && is_file_name (string_bytes begun.name)
    && bytes_eq (string_bytes begun.whole) (folder ++ codes "/" ++ string_bytes begun.name)
    && not (bytes_eq (string_bytes begun.old) (string_bytes begun.new))
