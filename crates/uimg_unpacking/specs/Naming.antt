-- How a file gets its name, and how the name is taken back, by what is at its paths. A trace has the newest call first.
use Rattle.std.specs.Prelude.{◌≡◌, ℕ, zero, suc, List, [], ◌∷◌, bytes_eq, Bool, true, false, ◌&&◌, ◌||◌, is_some, if◌then◌else◌, Option, None, string_bytes}
use Rattle.uimg_unpacking.specs.Contents.{Files, IsTrueTo, files_after}
use Rattle.uimg_world.specs.Deeds.{Deed, Links, Renames, Removes, Looks}
use Rattle.uimg_world.specs.declared.call.Answer.{Answer}
use Rattle.uimg_world.specs.declared.call.Answer.TheVariants.{Done, Exists, Failed}
use Rattle.uimg_world.specs.Kinds.{is_something}
use Rattle.uimg_unpacking.specs.declared.staged_file.StagedFile.{StagedFile}
use Rattle.uimg_world.specs.declared.kind.Kind.{Kind}
use Rattle.uimg_world.specs.declared.kind.Kind.TheVariants.{Nothing}

abbrev pub is_done : Answer → Bool
is_done Done = true
is_done Exists = false
is_done Failed = false

-- A file at `new` gets the path `whole`. To replace what exists there, it is renamed. Otherwise it is linked there, and
-- loses its first path. Where it cannot be linked though nothing exists there, it is renamed.
pub data GivesName (new whole : List ℕ) (replaces : Bool) (answer : Answer) (before after : List Deed) : Type 0 where
  over : replaces ≡ true → after ≡ Renames new whole answer ∷ before → GivesName new whole replaces answer before after
  linked : (removed : Answer) → replaces ≡ false → answer ≡ Done → after ≡ Removes new removed ∷ Links new whole Done ∷ before → GivesName new whole replaces answer before after
  exists : replaces ≡ false → answer ≡ Exists → after ≡ Links new whole Exists ∷ before → GivesName new whole replaces answer before after
  taken : (kind : Kind) → replaces ≡ false → is_something kind ≡ true → answer ≡ Failed → after ≡ Looks whole kind ∷ Links new whole Failed ∷ before → GivesName new whole replaces answer before after
  moved : replaces ≡ false → after ≡ Renames new whole answer ∷ Looks whole Nothing ∷ Links new whole Failed ∷ before → GivesName new whole replaces answer before after

-- What was at one path is at another one, if that is done, and no third path is changed. Otherwise nothing is changed.
pub record Moves (from to : List ℕ) (is_moved : Bool) (before after : List Deed) : Type 0 where
  pub earlier : (start : Files) → IsTrueTo start after → IsTrueTo start before
  pub there : is_moved ≡ true → (start : Files) → files_after start after to ≡ files_after start before from
  pub rest : (start : Files) (path : List ℕ) → bytes_eq from path ≡ false → bytes_eq to path ≡ false
      → files_after start after path ≡ files_after start before path
  pub failed : is_moved ≡ false → (start : Files) (path : List ℕ) → files_after start after path ≡ files_after start before path

-- What a path gets back if names are taken back: what is kept at `old`. If nothing is kept, it has nothing afterwards, or
-- what it has if no file got its name.
abbrev pub recovered : Bool → Files → (old whole : List ℕ) → Option (Option (List ℕ))
recovered has_name files old whole = if has_name || is_some (files old) then files old else files whole

-- A file gets its name, or not. In both cases, what had the name can be put back.
pub record NamesIt (its : StagedFile) (is_named : Bool) (before after : List Deed) : Type 0 where
  pub earlier : (start : Files) → IsTrueTo start after → IsTrueTo start before
  pub there : is_named ≡ true → (start : Files)
      → files_after start after (string_bytes its.whole) ≡ files_after start before (string_bytes its.new)
  pub kept : (start : Files) → IsTrueTo start after → files_after start before (string_bytes its.old) ≡ None
      → recovered is_named (files_after start after) (string_bytes its.old) (string_bytes its.whole)
      ≡ files_after start before (string_bytes its.whole)
  pub rest : (start : Files) (path : List ℕ) → bytes_eq (string_bytes its.new) path ≡ false
      → bytes_eq (string_bytes its.old) path ≡ false → bytes_eq (string_bytes its.whole) path ≡ false
      → files_after start after path ≡ files_after start before path

-- What had the name of a file is put back, if that is done.
pub record PutsItBack (its : StagedFile) (has_name is_back : Bool) (before after : List Deed) : Type 0 where
  pub earlier : (start : Files) → IsTrueTo start after → IsTrueTo start before
  pub back : is_back ≡ true → (start : Files) → IsTrueTo start after → files_after start after (string_bytes its.whole)
      ≡ recovered has_name (files_after start before) (string_bytes its.old) (string_bytes its.whole)
  pub rest : (start : Files) (path : List ℕ) → bytes_eq (string_bytes its.old) path ≡ false
      → bytes_eq (string_bytes its.whole) path ≡ false → files_after start after path ≡ files_after start before path

-- Files get their names one after another, up to one that does not: `named` files have theirs.
abbrev pub NamesFiles : List StagedFile → ℕ → Bool → List Deed → List Deed → Type 0
NamesFiles [] named are_all before after = (named ≡ 0) × ((are_all ≡ true) × (after ≡ before))
NamesFiles (its ∷ files) zero are_all before after = (are_all ≡ false) × NamesIt its false before after
NamesFiles (its ∷ files) (suc named) are_all before after =
    (seen : List Deed) × (NamesIt its true before seen × NamesFiles files named are_all seen after)

-- The named files lose their names one after another, then the next one what was kept for it.
abbrev pub PutsBackFiles : List StagedFile → ℕ → Bool → List Deed → List Deed → Type 0
PutsBackFiles [] named are_back before after = (are_back ≡ true) × (after ≡ before)
PutsBackFiles (its ∷ files) zero are_back before after = PutsItBack its false are_back before after
PutsBackFiles (its ∷ files) (suc named) are_back before after =
    (is_back : Bool) × ((others : Bool) × ((seen : List Deed) × ((are_back ≡ (is_back && others))
    × (PutsItBack its true is_back before seen × PutsBackFiles files named others seen after))))

-- a file whose number is greater than how many have names is left as it is
abbrev pub UnlessLater : Bool → StagedFile → Bool → Bool → List Deed → List Deed → Type 0
UnlessLater true its has_name is_back before after = (is_back ≡ true) × (after ≡ before)
UnlessLater false its has_name is_back before after = PutsItBack its has_name is_back before after
