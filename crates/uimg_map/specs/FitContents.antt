-- FIT files (Devicetree Specification, section 5.1; Flattened Image Tree format, "External data").
use Rattle.std.specs.Prelude.{ℕ, ◌+◌, List, [], ◌∷◌, length, map, ◌==◌, ◌&&◌, if◌then◌else◌, Bool, false}
use Rattle.std.specs.Prelude.{Option, Some, None, Result, Ok, Err}
use Rattle.uimg_base.specs.declared.spans.Span.{Span}
use Rattle.uimg_fit_base.specs.declared.fault.{Fault.Fault, FitFault.FitFault}
use Rattle.uimg_fit_base.specs.declared.fault.FitFault.TheVariants.{DataOutside}
use Rattle.uimg_fit_base.specs.declared.fault.Fault.TheVariants as of
use Rattle.uimg_fit_checking.specs.Survey.{Said, survey_of}
use Rattle.uimg_fit_reading.specs.PayloadPlaces.{place_said}
use Rattle.uimg_map.specs.Images.{ImageTold, told_of}
use Rattle.uimg_map.specs.declared.{fault.MapFault.TheVariants.Fit, fdt_header.FdtHeader.FdtHeader}
use Rattle.uimg_map.specs.{declared.thing.Thing.Thing, Blocks.blocks_by, FdtHeader.fdt_header_of}
use Rattle.uimg_map.specs.Found.{What, the_header, the_reservations, the_structure, the_strings}
use Rattle.uimg_map.specs.Found.{payload_of, embedded_of, Found, Told, found_then, nothing, thing}
use Rattle.uimg_map.specs.{Found.{refused, refused_at, refused_behind}, Reservations.block_end}

-- things with what they are
abbrev pub found_as : List What → List Thing → List Found
found_as (w ∷ ws) (t ∷ ts) = record { what = w; place = t.place; end = t.end } ∷ found_as ws ts
found_as _ _ = []

-- the header of a blob, and the three blocks by its numbers
abbrev pub header_and_blocks : FdtHeader → Option ℕ → ℕ → Told
header_and_blocks n end size = record {
  found =
      found_as (the_header ∷ the_reservations ∷ the_structure ∷ the_strings ∷ [])
      (blocks_by n end size);
  fault = None;
}

-- the same for a file, if it has a header
abbrev pub blocks_told : List ℕ → Option FdtHeader → Told
blocks_told file None = nothing
blocks_told file (Some n) = header_and_blocks n (block_end file n.off_mem_rsvmap) (length file)

-- whether a payload at this span is the value of `data`
unfoldable pub is_value : Option Span → Span → Bool
is_value (Some value) span = value.place == span.place && value.length == span.length
is_value None span = false

-- the payload of an image, from its span; a payload that ends after the file is a fault too
abbrev pub what_payload : ImageTold → Span → What
what_payload image span =
    if is_value image.payload.embedded span then embedded_of image.name image.covered
    else payload_of image.name image.covered

abbrev pub payload_told : ℕ → ImageTold → Result Span FitFault → Told
payload_told size image (Ok span) = found_then
    (thing (what_payload image span) span.place (span.place + span.length))
    (refused_behind size (span.place + span.length) (Fit (of.Fit DataOutside)))
payload_told size image (Err fault) = refused (Fit (of.Fit fault))

-- the payloads of images, in a file of `size` bytes whose blob has this total size
abbrev pub image_told : ℕ → ℕ → ImageTold → Told
image_told size totalsize image = payload_told size image (place_said totalsize image.payload)

abbrev pub images_told : ℕ → ℕ → List ImageTold → Told
images_told size totalsize [] = nothing
images_told size totalsize (image ∷ images) =
    found_then (image_told size totalsize image) (images_told size totalsize images)

-- the payloads of a file with these facts, or its fault: a fault of the blob has an offset
abbrev pub survey_told : List ℕ → Result Said Fault → Told
survey_told file (Ok said) =
    images_told (length file) said.totalsize (map (told_of file) said.images)
survey_told file (Err (of.Blob fault at)) = refused_at at (Fit (of.Blob fault at))
survey_told file (Err fault) = refused (Fit fault)

-- the header and the blocks, then the payloads
unfoldable pub fit_contents : List ℕ → Told
fit_contents file =
    found_then (blocks_told file (fdt_header_of file)) (survey_told file (survey_of file))
