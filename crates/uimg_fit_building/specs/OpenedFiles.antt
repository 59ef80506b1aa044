-- Which files filling and building open.
use Rattle.std.specs.Prelude.{List, [], ◌∷◌, ◌++◌, ℕ, Option, Some, None, Result, is_err, codes}
use Rattle.std.specs.List.{flat_map}
use Rattle.uimg_base.specs.{Lent.Lent, Named.FileMap}
use Rattle.uimg_blob_reading.specs.LookUps.{NodeOf, first, hashes}
use Rattle.uimg_blob_writing.specs.{Content.{Content, Unread, file_of, files_in}, UsingFiles.OpensEach}
use Rattle.uimg_fit_base.specs.declared.placement.AlignedPlacement.{AlignedPlacement}
use Rattle.uimg_fit_base.specs.declared.placement.AlignedPlacement.TheVariants.{Inside, After, At}
use Rattle.uimg_fit_building.specs.{Behind.images_in, UnreadTrees.moved_unread}

-- Of the files of these names all were opened, in order, and no other; or the first ones if the call
-- failed.
abbrev pub OpensNamed : {F X E : Type 0} → (F → FileMap) → List (List ℕ) → Result X E → Lent F
    → Type 0
OpensNamed map names result files =
    OpensEach (is_err result) names (map files.entry.now) (map files.exit.now)

-- the name of a payload that is a file
abbrev pub payload_file : Option Content → List (List ℕ)
payload_file None = []
payload_file (Some c) = file_of c

-- the same if there are hash nodes
abbrev pub file_if_hashed : List (NodeOf Content) → Option Content → List (List ℕ)
file_if_hashed [] payload = []
file_if_hashed (h ∷ hs) payload = payload_file payload

-- the file that filling opens for an image: its first `data`, if it has hash nodes
abbrev pub summed_file : NodeOf Content → List (List ℕ)
summed_file image = file_if_hashed (hashes image) (first image.own (codes "data"))

-- The files that filling opens, in the order of images.
abbrev pub summed_files : Option (List (NodeOf Content)) → List (List ℕ)
summed_files None = []
summed_files (Some images) = flat_map summed_file images

-- the files that are written after a blob: the payloads of all images, in order
abbrev pub files_behind : Unread → AlignedPlacement → List (List ℕ)
files_behind t (Inside least) = []
files_behind t (After align) =
    flat_map (λ i. payload_file (first i.own (codes "data"))) (images_in t)
files_behind t (At position align) =
    flat_map (λ i. payload_file (first i.own (codes "data"))) (images_in t)

-- The files that building opens, in the order of writing: those that stay in the blob, then those
-- after it.
abbrev pub built_files : Unread → AlignedPlacement → List (List ℕ)
built_files t placement = files_in (moved_unread t placement) ++ files_behind t placement
