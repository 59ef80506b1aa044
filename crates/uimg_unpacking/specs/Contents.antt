-- What is at paths by the calls that were made, and what files hold, so far as the calls show it.
use Rattle.std.specs.Prelude.{◌≡◌, ⊤, ℕ, List, [], ◌∷◌, ◌++◌, map, codes, bytes_eq, Bool, true, ◌&&◌, not, is_some, Option, Some, None, if◌then◌else◌}
use Rattle.std.specs.List.{list_any}
use Rattle.uimg_world.specs.Deeds.{Deed, Creates, Closes, Links, Looks, Renames, Removes, MakesFolder, RemovesFolder, RemovesAll, Overwrites, LendsShelf}
use Rattle.uimg_world.specs.declared.call.Answer.TheVariants.{Done}
use Rattle.uimg_world.specs.Kinds.{is_something}

-- What is at each path: nothing, or something, with its bytes if these are known.
abbrev pub Files : Type 0
Files = List ℕ → Option (Option (List ℕ))

-- what is at each path, after something else is at one
abbrev pub at : List ℕ → Option (Option (List ℕ)) → Files → Files
at path found files asked = if bytes_eq path asked then found else files asked

-- The calls of POSIX that are done change this. A new file holds nothing that is known before it is closed. A link is
-- another path of its file, and a rename moves the path; of two links to one file, which it leaves both, the first is
-- taken to be gone. Where a call may change files at other paths than its own, nothing is known any more.
abbrev pub then_at : Deed → Files → Files
then_at (Creates path Done) files = at path (Some None) files
then_at (Closes path is_synced contents Done) files = at path (Some contents) files
then_at (Closes path is_synced contents _) files = at path (Some None) files
then_at (Links from to Done) files = at to (files from) files
then_at (Renames from to Done) files = at to (files from) (at from None files)
then_at (Removes path Done) files = at path None files
then_at (MakesFolder path Done) files = at path (Some None) files
then_at (RemovesFolder path Done) files = at path None files
then_at (RemovesAll path _) files = λ asked. Some None
then_at (Overwrites path _) files = λ asked. Some None
then_at (LendsShelf path) files = λ asked. Some None
then_at deed files = files

-- what is at each path after these calls, the newest of which comes first, by what was there before them
abbrev pub files_after : Files → List Deed → Files
files_after start [] = start
files_after start (deed ∷ before) = then_at deed (files_after start before)

-- What calls answered is true of the files: a look saw nothing just where nothing was, and a folder was made where
-- nothing was in it.
abbrev pub IsTrueTo : Files → List Deed → Type 0
IsTrueTo start [] = ⊤
IsTrueTo start (Looks path kind ∷ before) =
    (is_some (files_after start before path) ≡ is_something kind) × IsTrueTo start before
IsTrueTo start (MakesFolder path Done ∷ before) =
    ((rest : List ℕ) → files_after start before (path ++ codes "/" ++ rest) ≡ None) × IsTrueTo start before
IsTrueTo start (deed ∷ before) = IsTrueTo start before

-- the bytes of what is at a path, if these are known
abbrev pub bytes_in : Option (Option (List ℕ)) → Option (List ℕ)
bytes_in None = None
bytes_in (Some bytes) = bytes

-- the bytes of the file at a path after these calls, whatever was there before. None: that is not known
abbrev pub held : List Deed → List ℕ → Option (List ℕ)
held calls path = bytes_in (files_after (λ asked. Some None) calls path)

-- whether names differ from one another
abbrev pub is_in : List ℕ → List (List ℕ) → Bool
is_in name = list_any (bytes_eq name)

abbrev pub differ : List (List ℕ) → Bool
differ [] = true
differ (name ∷ names) = not (is_in name names) && differ names

-- what the files of some names in a folder hold
abbrev pub held_in : List ℕ → List Deed → List (List ℕ) → List (Option (List ℕ))
held_in folder calls = map (λ name. held calls (folder ++ codes "/" ++ name))
