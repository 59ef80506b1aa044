-- Which files a build opens.
use Rattle.std.specs.Prelude.{◌≡◌, ℕ, List, [], ◌∷◌, ◌++◌, map, Option, Some, None, Bool, IsSome, IsTrue}
use Rattle.std.specs.Prelude.{Result, Ok, Err, unwrap_or}
use Rattle.std.specs.{Bool.OnFalse, Option.{IfSome, option_map_or}}
use Rattle.uimg_base.specs.{Named.FileMap}
use Rattle.uimg_blob_reading.specs.LookUps.{images}
use Rattle.uimg_blob_writing.specs.{Content.{Unread, in_full}, UsingFiles.OpensEach}
use Rattle.uimg_its.specs.{Grammar.Spells, Included.included, Words.words}
use Rattle.uimg_fit_base.specs.Placements.{aligned_by}
use Rattle.uimg_fit_base.specs.declared.placement.AlignedPlacement.{AlignedPlacement}
use Rattle.uimg_fit_building.specs.{DigestBytes.zeroed_tree, OpenedFiles.{summed_files, built_files}}
use Rattle.uimg_fit_building.specs.{PayloadSums.no_files, UnreadTrees.filled_unread}
use Rattle.uimg_texts.specs.declared.naming.Naming.TheVariants.{Profile}
use Rattle.uimg_requests.specs.declared.make_command.MakeCommand.{MakeCommand}
use Rattle.uimg_requests.specs.declared.make_command.MakeCommand.TheVariants.{Parts, Tree}

-- the files whose bytes are summed for the hash nodes of a tree, if there is one
abbrev pub summed_in : Option Unread → List (List ℕ)
summed_in tree = option_map_or (λ t. summed_files (images t)) tree []

-- the files that are written with a filled tree, if there is one
abbrev pub written_in : AlignedPlacement → Option Unread → List (List ℕ)
written_in placement filled = option_map_or (λ u. built_files u placement) filled []

-- The files that are opened to fill the tree of a source: the source, those that its text includes,
-- and those whose bytes are summed.
abbrev pub filling_opens : List ℕ → List ℕ → Option Unread → List (List ℕ)
filling_opens source text tree = source ∷ (included (words text) ++ summed_in tree)

-- a tree was filled at a time, up to the bytes of its digests
abbrev pub FillsAt : ℕ → Unread → Unread → Type 0
FillsAt time t u =
    zeroed_tree Profile u ≡ zeroed_tree Profile (filled_unread Profile no_files time t)

-- What was read of a source. Over honest files the text has its bytes, and if a tree was compiled,
-- the words of the text spell it. Unless the call failed, a tree was compiled and filled.
pub record ReadsFrom (source : List ℕ) (time : ℕ) (text : List ℕ) (tree filled : Option Unread)
    (failed : Bool) (old : FileMap) : Type 0 where
  pub text_is : IsTrue old.honest → text ≡ unwrap_or (old.bytes source) []
  pub spelled : IsTrue old.honest
      → IfSome tree (λ t. Spells (words text) old.bytes (in_full old.bytes t))
  pub fills : IfSome tree (λ t. IfSome filled (FillsAt time t))
  pub whole : OnFalse failed (IsSome tree × IsSome filled)

-- What filling opens: all files, in order, or the first ones if it failed.
pub record OpensToFill (source : List ℕ) (time : ℕ) (filled : Option Unread) (failed : Bool)
    (old new : FileMap) : Type 0 where
  pub text : List ℕ
  pub tree : Option Unread
  pub reads : ReadsFrom source time text tree filled failed old
  pub opened : OpensEach failed (filling_opens source text tree) old new

-- What the making of a FIT image opens: the files of filling, then those of the filled tree as it
-- is written, in order; or the first ones if it failed.
pub record OpensFrom (source : List ℕ) (time : ℕ) (placement : AlignedPlacement) (failed : Bool)
    (old new : FileMap) : Type 0 where
  pub text : List ℕ
  pub tree : Option Unread
  pub filled : Option Unread
  pub reads : ReadsFrom source time text tree filled failed old
  pub opened : OpensEach failed (filling_opens source text tree ++ written_in placement filled) old
      new

-- what was made, if it was
abbrev pub made : {X E : Type 0} → (X → Unread) → Result X E → Option Unread
made view (Ok x) = Some (view x)
made view (Err fault) = None

-- What the making of a command's image at a time, with an alignment, opens: the named files of a
-- legacy image, in order, or the files of a FIT image.
abbrev pub OpensCommand : MakeCommand → ℕ → ℕ → Bool → FileMap → FileMap → Type 0
OpensCommand (Parts options names) time align failed old new =
    OpensEach failed (map (λ name. name.items) names.items) old new
OpensCommand (Tree source placement) time align failed old new =
    OpensFrom source.items time (aligned_by placement align) failed old new
