-- The map of an image's file.
use Rattle.std.specs.Prelude.{◌≡◌, ℕ, List, length, map, if◌then◌else◌}
use Rattle.uimg_fit_base.specs.Files.{begins_as_blob}
use Rattle.uimg_map.specs.{declared.{map.Map.Map, thing.Thing.Thing}, Arranging.Arranges}
use Rattle.uimg_map.specs.{Contents.numbered_things, FitContents.fit_contents}
use Rattle.uimg_map.specs.{Found.{Told, read_label}, LegacyContents.legacy_contents}

-- the rows are those of some things in a file of this size
pub record IsMap (map : Map) : Type 0 where
  pub things : List Thing
  pub rows : Arranges map.size things map.rows.items

-- what is found in a file: in a FIT image if it begins as a blob, else in a legacy image
abbrev pub contents_of : List ℕ → Told
contents_of file = if begins_as_blob file then fit_contents file else legacy_contents file

-- The map is that of a file: its rows are those of the things found in it, thing i with number i;
-- label i says what that is; and the fault is the first one found.
pub record IsMapOf (file : List ℕ) (found : Map) : Type 0 where
  -- exactly the things that the definition finds, thing i with number i
  pub rows : Arranges (length file) (numbered_things 0 (contents_of file).found) found.rows.items
  -- each label, read in the file, names its thing
  pub labels : map (read_label file) found.labels.items ≡ map (λ f. f.what) (contents_of file).found
  -- the first fault, if there is one
  pub first : found.fault ≡ (contents_of file).fault
