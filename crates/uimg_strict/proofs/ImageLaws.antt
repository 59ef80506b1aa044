-- What is refused of an image, by the spans of its properties.
use Rattle.std.proofs.Common.{◌≡◌, ℕ, List, Option, Some, None, true, false, is_some, codes, refl, ap, sym, ◌∙◌}
use Rattle.std.specs.Option.{option_map}
use Rattle.std.proofs.lemmas.Bool.{false≢true}
use Rattle.uimg_base.specs.declared.spans.Span.{Span}
use Rattle.uimg_blob_reading.specs.LookUps.{NodeOf}
use Rattle.uimg_blob_reading.specs.Spots.{Spot}
use Rattle.uimg_fit_base.specs.Files.{bytes_in}
use Rattle.uimg_strict.specs.Looseness.{in_node, in_root, loose_place, loose_image, loose_root, span_of}
use Rattle.uimg_strict.specs.declared.loose.Looseness.{Looseness}
use Rattle.uimg_strict.specs.declared.loose.Looseness.TheVariants.{NoDescription, NoTimestamp}

pub place_told : (image : NodeOf Spot) (inside size offset position : Option Span) (why : Option Looseness) → why ≡ loose_place inside size offset position
    → inside ≡ span_of image (codes "data") → size ≡ span_of image (codes "data-size") → offset ≡ span_of image (codes "data-offset") → position ≡ span_of image (codes "data-position")
    → option_map (λ kind. in_node kind image.name) why ≡ loose_image image
place_told image inside size offset position why is a b c d =
    ap (option_map (λ kind. in_node kind image.name)) (is
    ∙ ap (λ (s : Option Span). loose_place s size offset position) a
    ∙ ap (λ (s : Option Span). loose_place (span_of image (codes "data")) s offset position) b
    ∙ ap (λ (s : Option Span). loose_place (span_of image (codes "data")) (span_of image (codes "data-size")) s position) c
    ∙ ap (λ (s : Option Span). loose_place (span_of image (codes "data")) (span_of image (codes "data-size")) (span_of image (codes "data-offset")) s) d)

-- the root lacks its description, or its timestamp, or neither
pub no_description : (file : List ℕ) (d : Option Span) (later : Option (List ℕ)) → is_some d ≡ false → Some (in_root NoDescription) ≡ loose_root (bytes_in file d) later
no_description file None later is = refl
no_description file (Some s) later is = absurd (false≢true (sym is))

pub no_timestamp : (file : List ℕ) (d t : Option Span) → is_some d ≡ true → is_some t ≡ false → Some (in_root NoTimestamp) ≡ loose_root (bytes_in file d) (bytes_in file t)
no_timestamp file None t is none = absurd (false≢true is)
no_timestamp file (Some s) None is none = refl
no_timestamp file (Some s) (Some u) is none = absurd (false≢true (sym none))

pub no_looseness : (file : List ℕ) (d t : Option Span) → is_some d ≡ true → is_some t ≡ true → None ≡ loose_root (bytes_in file d) (bytes_in file t)
no_looseness file None t is some = absurd (false≢true is)
no_looseness file (Some s) None is some = absurd (false≢true some)
no_looseness file (Some s) (Some u) is some = refl
