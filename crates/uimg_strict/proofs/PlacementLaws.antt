-- Payloads after the tree, in their order.
use Rattle.std.proofs.Common.{◌≡◌, ℕ, List, [], ◌∷◌, Option, Some, None, Result, Bool, true, false, is_some, if◌then◌else◌, codes, refl, ap, sym, ◌∙◌}
use Rattle.uimg_base.specs.declared.spans.Span.{Span}
use Rattle.uimg_blob_reading.specs.Grammar.{Siblings}
use Rattle.uimg_blob_reading.specs.LookUps.{NodeOf}
use Rattle.uimg_blob_reading.specs.Roles.{in_images}
use Rattle.uimg_blob_reading.specs.Spots.{Spot}
use Rattle.uimg_fit_base.specs.Files.{value_bytes, bytes_in}
use Rattle.uimg_fit_base.specs.Places.{place}
use Rattle.uimg_fit_base.specs.declared.fault.FitFault.{FitFault}
use Rattle.uimg_fit_reading.specs.Nodes.{AreFrom}
use Rattle.uimg_fit_reading.specs.PayloadPlaces.{PayloadSaid, payload_said, read_payload}
use Rattle.uimg_fit_reading.specs.declared.places.PayloadFacts.{PayloadFacts}
use Rattle.uimg_strict.specs.Looseness.{in_node, known, external_place, end_after, or_misplaced, first_misplaced}
use Rattle.uimg_strict.specs.declared.loose.Looseness.TheVariants.{Misplaced}

has_bytes : (file : List ℕ) (value : Option Span) → is_some (bytes_in file value) ≡ is_some value
has_bytes file None = refl
has_bytes file (Some s) = refl

-- an image with `data-size` or without it
size_told : (file : List ℕ) (image : NodeOf Spot) (facts : PayloadFacts) → read_payload file facts ≡ payload_said image → is_some (value_bytes image.own (codes "data-size")) ≡ is_some facts.size
size_told file image facts said = ap (λ (s : PayloadSaid). is_some s.size) (sym said) ∙ has_bytes file facts.size

pub no_external : (file : List ℕ) (image : NodeOf Spot) (facts : PayloadFacts) → read_payload file facts ≡ payload_said image → is_some facts.size ≡ false → None ≡ external_place file image
no_external file image facts said none =
    sym (ap (λ (b : Bool). if b then known (place file image) else None) (size_told file image facts said ∙ none))

pub an_external : (file : List ℕ) (image : NodeOf Spot) (facts : PayloadFacts) (p : Result Span FitFault) → read_payload file facts ≡ payload_said image → is_some facts.size ≡ true → p ≡ place file image
    → known p ≡ external_place file image
an_external file image facts p said some is =
    ap known is ∙ sym (ap (λ (b : Bool). if b then known (place file image) else None) (size_told file image facts said ∙ some))

-- The images from a number on, whose payloads may begin at an offset, of which the first misplaced one
-- is that of all.
pub record LeftPlaced (file : List ℕ) (t : Siblings) (start end : ℕ) (next : Option ℕ) (all : List (NodeOf Spot)) : Type 0 where
  pub left : List (NodeOf Spot)
  pub from : AreFrom t in_images next left
  pub is : first_misplaced file end left ≡ first_misplaced file start all

pub placed_later : (file : List ℕ) (end later : ℕ) (left more : List (NodeOf Spot)) (image : NodeOf Spot) → left ≡ image ∷ more → Some later ≡ end_after (external_place file image) end
    → first_misplaced file later more ≡ first_misplaced file end left
unfolding first_misplaced
placed_later file end later left more image are is =
    ap (λ (e : Option ℕ). or_misplaced image.name e (λ e. first_misplaced file e more)) is ∙ ap (first_misplaced file end) (sym are)

pub placed_wrong : (file : List ℕ) (end : ℕ) (left more : List (NodeOf Spot)) (image : NodeOf Spot) → left ≡ image ∷ more → None ≡ end_after (external_place file image) end
    → Some (in_node Misplaced image.name) ≡ first_misplaced file end left
unfolding first_misplaced
placed_wrong file end left more image are is =
    ap (λ (e : Option ℕ). or_misplaced image.name e (λ e. first_misplaced file e more)) is ∙ ap (first_misplaced file end) (sym are)

pub placed_all : (file : List ℕ) (end : ℕ) (left : List (NodeOf Spot)) → left ≡ [] → None ≡ first_misplaced file end left
unfolding first_misplaced
placed_all file end left none = ap (first_misplaced file end) (sym none)
