-- Where the payload of an image is, by the four properties that say it.
use Rattle.std.specs.Prelude.{◌≡◌, ◌≤◌, ◌<◌, ◌+◌, ◌^◌, ℕ, List, codes, false, Option, Some, None}
use Rattle.std.specs.Prelude.{Result, Err, IfOk, IfSome, IfErr}
use Rattle.std.specs.{List.slice_get, Option.{option_map, option_and_then}}
use Rattle.uimg_texts.specs.Numbers.{up4}
use Rattle.uimg_base.specs.{Results.◌>>=◌, declared.spans.Span.Span}
use Rattle.uimg_blob_reading.specs.{Indexed.value_span, LookUps.{NodeOf, first}, Spots.Spot}
use Rattle.uimg_fit_base.specs.{declared.fault.FitFault.FitFault, Faults.of_making}
use Rattle.uimg_fit_base.specs.declared.fault.{Fault.Fault, FitFault.TheVariants.NoSuchImage}
use Rattle.uimg_fit_base.specs.{Extraction.of_images, Files.{value_bytes, bytes_in, number}}
use Rattle.uimg_fit_base.specs.{Files.images_of, Places.{external, embedded, or_else, place}}
use Rattle.uimg_fit_reading.specs.declared.places.PayloadFacts.{PayloadFacts}

-- What an image says about where its payload is. Of the value `data` only the span counts.
pub record PayloadSaid : Type 0 where
  pub embedded : Option Span
  pub size : Option (List ℕ)
  pub offset : Option (List ℕ)
  pub position : Option (List ℕ)

abbrev pub payload_said : NodeOf Spot → PayloadSaid
payload_said image = record {
  embedded = option_map value_span (first image.own (codes "data"));
  size = value_bytes image.own (codes "data-size");
  offset = value_bytes image.own (codes "data-offset");
  position = value_bytes image.own (codes "data-position");
}

-- the values in a file at given spans
abbrev pub read_payload : List ℕ → PayloadFacts → PayloadSaid
read_payload file facts = record {
  embedded = facts.embedded;
  size = bytes_in file facts.size;
  offset = bytes_in file facts.offset;
  position = bytes_in file facts.position;
}

-- The span of a payload by what its image says, in a blob of this total size: the span by `place`.
abbrev pub place_said : ℕ → PayloadSaid → Result Span FitFault
place_said totalsize said =
    or_else (external 0 (option_and_then number said.position) (option_and_then number said.size))
    (external (up4 totalsize) (option_and_then number said.offset)
    (option_and_then number said.size))
    (embedded said.embedded)

-- the span of the payload of an image, or that there is no image
abbrev pub place_of : List ℕ → Option (NodeOf Spot) → Result Span FitFault
place_of file (Some image) = place file image
place_of file None = Err NoSuchImage

-- The span of the payload of the image at a position, or the first fault before it. It may end
-- after the file.
abbrev pub place_at : List ℕ → ℕ → Result Span Fault
place_at file position = do
  found ← images_of file
  of_images (place_of file (slice_get found position))

-- A value, if it is present, ends within `size` bytes.
abbrev pub Ends : ℕ → Option Span → Type 0
Ends size value = IfSome value (λ s. s.place + s.length ≤ size)

pub record PayloadInside (file_size : ℕ) (facts : PayloadFacts) : Type 0 where
  pub embedded : Ends file_size facts.embedded
  pub size : Ends file_size facts.size
  pub offset : Ends file_size facts.offset
  pub position : Ends file_size facts.position

-- A payload's offset is below 2^41 and its length below 2^32, or its fault is not of building.
pub record PlaceOrFault (found : Result Span FitFault) : Type 0 where
  pub small : IfOk found (λ p. (p.place < 2 ^ 41) × (p.length < 2 ^ 32))
  pub no_making : IfErr found (λ fault. of_making fault ≡ false)
