-- The first image of a name, among those that are left.
use Rattle.std.proofs.Common.{◌≡◌, ℕ, List, ◌∷◌, Option, Some, None, true, false, Result, Ok, Err, IfOk, ap, sym, ◌∙◌, subst, refl}
use Rattle.std.specs.List.{slice_get}
use Rattle.std.specs.Str.{bytes_eq}
use Rattle.uimg_texts.specs.Slices.{slice}
use Rattle.uimg_base.specs.Results.{◌>>=◌}
use Rattle.uimg_base.specs.declared.spans.Span.{Span}
use Rattle.uimg_blob_reading.specs.Blob.{tree}
use Rattle.uimg_blob_reading.specs.Grammar.{Siblings}
use Rattle.uimg_blob_reading.specs.LookUps.{NodeOf, images}
use Rattle.uimg_blob_reading.specs.Roles.{in_images, level_after}
use Rattle.uimg_blob_reading.specs.Spots.{Spot, spots}
use Rattle.uimg_fit_base.specs.declared.fault.Fault.{Fault}
use Rattle.uimg_fit_base.specs.Extraction.{of_images, payload_of}
use Rattle.uimg_fit_base.specs.Faults.{Gives}
use Rattle.uimg_fit_base.specs.Places.{payload, place, TellsPlace}
use Rattle.uimg_fit_base.proofs.FileLaws.{images_are}
use Rattle.uimg_fit_checking.specs.Named.{named, payload_named, place_named, image_name, name_at, HasNamed, LacksNamed}
use Rattle.uimg_fit_reading.specs.Nodes.{IsNode, AreFrom, HasImages, HasImage}
use Rattle.uimg_fit_reading.specs.PayloadPlaces.{place_of}
use Rattle.uimg_fit_reading.proofs.ExtractionLaws.{by_answer}
use Rattle.uimg_fit_reading.proofs.ImageLaws.{front, none_left}

-- The images from a number on, among which the first of a name is the first of all.
pub record LeftNamed (t : Siblings) (name : List ℕ) (next : Option ℕ) : Type 0 where
  pub found : List (NodeOf Spot)
  pub is : images (spots t) ≡ Some found
  pub left : List (NodeOf Spot)
  pub from : AreFrom t in_images next left
  pub same : named name found ≡ named name left

pub all_named : (t : Siblings) (name : List ℕ) (first : Option ℕ) → HasImages t first → LeftNamed t name first
all_named t name first h = record { found = h.found; is = h.is; left = h.found; from = h.from; same = refl }

named_front : (name : List ℕ) (image : NodeOf Spot) (more : List (NodeOf Spot)) → bytes_eq name image.name ≡ true → named name (image ∷ more) ≡ Some image
unfolding named
named_front name image more is = rw is refl

named_behind : (name : List ℕ) (image : NodeOf Spot) (more : List (NodeOf Spot)) → bytes_eq name image.name ≡ false → named name (image ∷ more) ≡ named name more
unfolding named
named_behind name image more is = rw is refl

-- the image that is next has the name
pub is_the_named : (t : Siblings) (name : List ℕ) (i : ℕ) → LeftNamed t name (Some i) → ((image : NodeOf Spot) → IsNode t in_images i image → true ≡ bytes_eq name image.name) → HasNamed t name i
is_the_named t name i left is =
    let f = front t in_images i left.left left.from in
    record {
      found = left.found;
      image = f.image;
      is = left.is;
      has = left.same ∙ ap (named name) f.are ∙ named_front name f.image f.more (sym (is f.image f.node));
      node = f.node;
    }

-- the image that is next has another name
pub passes_named : (t : Siblings) (name : List ℕ) (i : ℕ) (next : Option ℕ) → LeftNamed t name (Some i) → ((image : NodeOf Spot) → IsNode t in_images i image → false ≡ bytes_eq name image.name)
    → ((found : NodeOf Spot) (more : List (NodeOf Spot)) → AreFrom t in_images (Some i) (found ∷ more) → AreFrom t (level_after in_images found.name) next more) → LeftNamed t name next
passes_named t name i next left is follows =
    let f = front t in_images i left.left left.from in
    record {
      found = left.found;
      is = left.is;
      left = f.more;
      from = follows f.image f.more (subst (λ (l : List (NodeOf Spot)). AreFrom t in_images (Some i) l) f.are left.from);
      same = left.same ∙ ap (named name) f.are ∙ named_behind name f.image f.more (sym (is f.image f.node));
    }

-- where none is next no image has the name
pub none_named : (t : Siblings) (name : List ℕ) → LeftNamed t name None → LacksNamed t name
unfolding named
none_named t name left = record { found = left.found; is = left.is; lacks = left.same ∙ ap (named name) (none_left t in_images left.left left.from) }

-- the payload of the first image of a name
payload_is : (file : List ℕ) (t : Siblings) (name : List ℕ) (number : ℕ) → tree file ≡ Ok t → (h : HasNamed t name number) → payload_named file name ≡ of_images (payload file h.image)
payload_is file t name number is h =
    ap (λ (r : Result (List (NodeOf Spot)) Fault). r >>= (λ found. of_images (payload_of file (named name found)))) (images_are file t (Some h.found) is h.is)
    ∙ ap (λ (o : Option (NodeOf Spot)). of_images (payload_of file o)) h.has

-- what is told of that image's place is where its payload stands
pub gives_named : (file : List ℕ) (t : Siblings) (name : List ℕ) (number : ℕ) (result : Result Span Fault) → tree file ≡ Ok t → HasNamed t name number
    → ((found : NodeOf Spot) → IsNode t in_images number found → TellsPlace file found result) → Gives (λ (p : Span). slice file p.place p.length) result (payload_named file name)
gives_named file t name number result is h tells =
    subst (λ (r : Result (List ℕ) Fault). Gives (λ (p : Span). slice file p.place p.length) result r) (sym (payload_is file t name number is h)) (by_answer file h.image result (tells h.image h.node))

-- the span of the payload of that image
place_is : (file : List ℕ) (t : Siblings) (name : List ℕ) (number : ℕ) → tree file ≡ Ok t → (h : HasNamed t name number) → place_named file name ≡ of_images (place file h.image)
place_is file t name number is h =
    ap (λ (r : Result (List (NodeOf Spot)) Fault). r >>= (λ found. of_images (place_of file (named name found)))) (images_are file t (Some h.found) is h.is)
    ∙ ap (λ (o : Option (NodeOf Spot)). of_images (place_of file o)) h.has

pub found_named : (file : List ℕ) (t : Siblings) (name : List ℕ) (number : ℕ) (result : Result Span Fault) → tree file ≡ Ok t → HasNamed t name number
    → ((found : NodeOf Spot) → IsNode t in_images number found → IfOk result (λ p. place file found ≡ Ok p)) → IfOk result (λ p. place_named file name ≡ Ok p)
found_named file t name number (Ok p) is h tells = place_is file t name number is h ∙ ap of_images (tells h.image h.node)
found_named file t name number (Err fault) is h tells = tt

-- the name of the image at a position
name_is : (file : List ℕ) (t : Siblings) (position number : ℕ) → tree file ≡ Ok t → (h : HasImage t position number) → name_at file position ≡ Ok h.image.name
name_is file t position number is h =
    ap (λ (r : Result (List (NodeOf Spot)) Fault). r >>= (λ found. of_images (image_name (slice_get found position)))) (images_are file t (Some h.found) is h.is)
    ∙ ap (λ (o : Option (NodeOf Spot)). of_images (image_name o)) h.has

pub gives_name : (file : List ℕ) (t : Siblings) (position number : ℕ) (bytes : List ℕ) → tree file ≡ Ok t → HasImage t position number
    → ((found : NodeOf Spot) → IsNode t in_images number found → bytes ≡ found.name) → name_at file position ≡ Ok bytes
gives_name file t position number bytes is h named = name_is file t position number is h ∙ sym (ap (λ (name : List ℕ). Ok name) (named h.image h.node))
