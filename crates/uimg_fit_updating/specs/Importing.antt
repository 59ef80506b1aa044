-- Payloads after a blob, in the tree.
use Rattle.std.specs.Prelude.{◌≡◌, ℕ, ◌+◌, List, [], ◌∷◌, ◌++◌, map, take, drop, Option, Some, None, codes, if◌then◌else◌}
use Rattle.std.specs.Str.{bytes_eq}
use Rattle.std.specs.Option.{option_and_then, option_map, is_some}
use Rattle.uimg_texts.specs.{Numbers.up4, Slices.slice}
use Rattle.uimg_base.specs.declared.spans.Span.{Span}
use Rattle.uimg_blob_reading.specs.{LookUps.{NodeOf, first}, Plain.NamedOf}
use Rattle.uimg_blob_writing.specs.Content.{Content, bytes, file}
use Rattle.uimg_blob_writing.specs.{declared.props.Prop.Prop, Properties.property}
use Rattle.uimg_fit_base.specs.Files.{number}

-- the number of a value in memory
abbrev pub number_of : Content → Option ℕ
number_of (bytes b) = number b
number_of (file name size) = None

-- the number in the first property of a name
abbrev pub cell_in : List (NamedOf Content) → List ℕ → Option ℕ
cell_in own key = option_and_then number_of (first own key)

-- where the payload of an image is, after a blob of a size: at an offset from the blob's end, which
-- is rounded up to a multiple of 4 (Flattened Image Tree format, "External data")
abbrev pub payload_after : ℕ → List (NamedOf Content) → Option Span
payload_after totalsize own =
    option_and_then (λ offset. option_map (λ size. record {
      place = up4 totalsize + offset;
      length = size;
    }) (cell_in own (codes "data-size"))) (cell_in own (codes "data-offset"))

-- properties, with another in place of the first of a name, or with one more
unfoldable pub replaced : List ℕ → NamedOf Content → List (NamedOf Content) → List (NamedOf Content)
replaced key q [] = q ∷ []
replaced key q (p ∷ own) = if bytes_eq key p.name then q ∷ own else p ∷ replaced key q own

-- What is put in place of the first property of a name gets this index.
abbrev pub IsReplacedAt : {A : Type 0} → List ℕ → List (Prop A) → ℕ → Type 0
IsReplacedAt key ps i =
    (q : NamedOf Content) → replaced key q (map property ps)
    ≡ map property (take i ps) ++ q ∷ map property (drop (i + 1) ps)

-- the name of the property that a payload replaces: `data`, or else `data-offset`
abbrev pub replaced_name : List (NamedOf Content) → List ℕ
replaced_name own =
    if is_some (first own (codes "data")) then codes "data" else codes "data-offset"

-- properties with a payload as their `data`, if there is one
abbrev pub with_payload : List ℕ → Option Span → List (NamedOf Content) → List (NamedOf Content)
with_payload from None own = own
with_payload from (Some s) own =
    replaced (replaced_name own) (record {
      name = codes "data";
      value = bytes (slice from s.place s.length);
    }) own

-- an image of a file with its payload in its node
abbrev pub imported : List ℕ → ℕ → NodeOf Content → NodeOf Content
imported from totalsize image = record image {
  own = with_payload from (payload_after totalsize image.own) image.own;
}
