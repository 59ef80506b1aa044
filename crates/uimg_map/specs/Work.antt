-- The most bytes that a map requests.
use Rattle.std.specs.Prelude.{ℕ, ◌+◌, ◌*◌, List, length, if◌then◌else◌, Bool, true, false, Result}
use Rattle.std.specs.Prelude.{Ok, Err}
use Rattle.uimg_blob_reading.specs.{Blob.tree, Counts.index_cost}
use Rattle.uimg_fit_base.specs.{declared.fault.Fault.Fault, Files.begins_as_blob}
use Rattle.uimg_fit_checking.specs.Survey.{Said, survey_of}
use Rattle.uimg_map.specs.Signatures.{covering_work}
use Rattle.uimg_legacy.specs.declared.{header.Header.Header, fault.LegacyFault.LegacyFault}
use Rattle.uimg_legacy.specs.{Header.header, Image.payload, Parts.{has_parts, sizes}}

-- the number of images of a file
abbrev pub image_count : Result Said Fault → ℕ
image_count (Ok said) = length said.images
image_count (Err fault) = 0

-- of a FIT image's tree: the index, and for each image what its signatures request
abbrev pub images_work : List ℕ → ℕ
images_work file =
    index_cost file + image_count (survey_of file) * covering_work file (tree file)

-- of a FIT image: the header's numbers, the reservation block in the file, the tree, 12 an image
abbrev pub fit_work : List ℕ → ℕ
fit_work file =
    40 + length file + (images_work file + 12 * image_count (survey_of file))

-- of the data of a legacy image: each size twice, and the word after them once
abbrev pub legacy_table_work : Bool → List ℕ → ℕ
legacy_table_work true data_bytes = 8 * length (sizes data_bytes) + 4
legacy_table_work false data_bytes = 0

abbrev pub legacy_data_work : List ℕ → Result Header LegacyFault → ℕ
legacy_data_work file (Ok h) = legacy_table_work (has_parts h.kind) (payload file h)
legacy_data_work file (Err fault) = 0

-- of a legacy image: the header, and the data
abbrev pub legacy_work : List ℕ → ℕ
legacy_work file = 64 + legacy_data_work file (header file)

-- of any file: the four bytes of the format, then those of the format
abbrev pub map_work : List ℕ → ℕ
map_work file = 4 + (if begins_as_blob file then fit_work file else legacy_work file)
