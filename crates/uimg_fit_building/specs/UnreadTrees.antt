-- Filling and placing if payloads stay in their files.
use Rattle.std.specs.Prelude.{ℕ, List, Option}
use Rattle.uimg_texts.specs.declared.naming.Naming.{Naming}
use Rattle.uimg_blob_reading.specs.Plain.{NamedOf}
use Rattle.uimg_blob_writing.specs.Content.{Content, Unread, bytes, content_bytes, size_of}
use Rattle.uimg_fit_base.specs.declared.placement.AlignedPlacement.{AlignedPlacement}
use Rattle.uimg_fit_building.specs.Building.{padded_size_by, moved_own_by, moved_from_by, moved_by}
use Rattle.uimg_fit_building.specs.Filling.{filled_by}

-- a tree with a timestamp and its images' digests, over files with these bytes; each file stays a
-- file
abbrev pub filled_unread : Naming → (List ℕ → Option (List ℕ)) → ℕ → Unread → Unread
filled_unread naming files time t = filled_by naming (content_bytes files) bytes time t

-- the size of an image's payload, rounded up to an alignment
abbrev pub padded_size_of : ℕ → List (NamedOf Content) → ℕ
padded_size_of align own = padded_size_by size_of align own

-- properties, with two cells in place of the first `data`
abbrev pub unread_own : List ℕ → ℕ → List (NamedOf Content) → List (NamedOf Content)
unread_own = moved_own_by size_of bytes

-- images, with cells in place of the first `data` of each
abbrev pub unread_from : ℕ → List ℕ → ℕ → Unread → Unread
unread_from = moved_from_by size_of bytes

-- a tree with its payloads placed, as it is written
abbrev pub moved_unread : Unread → AlignedPlacement → Unread
moved_unread = moved_by size_of bytes
