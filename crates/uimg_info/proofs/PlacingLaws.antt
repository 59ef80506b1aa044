-- The first payload that is not in the file.
use Rattle.std.proofs.Common.{◌≡◌, ◌+◌, ◌<◌, ◌≤◌, ℕ, List, ◌∷◌, length, drop, map, slice_index_or, Option, Some, None, Result, true, false, is_some, drop_of_length-le, refl, ap, sym, ◌∙◌, subst}
use Rattle.std.proofs.lemmas.List.{drop_more}
use Rattle.std.proofs.lemmas.Bool.{false≢true}
use Rattle.uimg_base.specs.declared.spans.Span.{Span}
use Rattle.uimg_fit_base.specs.declared.fault.FitFault.{FitFault}
use Rattle.uimg_fit_checking.specs.declared.surveying.facts.ImageFacts.{ImageFacts}
use Rattle.uimg_fit_checking.specs.Survey.{read_image}
use Rattle.uimg_fit_reading.specs.PayloadPlaces.{read_payload, place_said}
use Rattle.uimg_info.specs.Placing.{fault_of, or_later, first_fault}

no_fault : (fault : Option FitFault) → is_some fault ≡ false → fault ≡ None
no_fault None is = refl
no_fault (Some fault) is = absurd (false≢true (sym is))

a_fault : (fault later : Option FitFault) → is_some fault ≡ true → or_later fault later ≡ fault
a_fault (Some fault) later is = refl
a_fault None later is = absurd (false≢true is)

-- the payload of the image at a position, as it was found, decides what is first from there on
module _ (file now : List ℕ) (size totalsize : ℕ) (images : List ImageFacts) (i : ℕ) (x : ImageFacts) (found : Result Span FitFault) (fault : Option FitFault) where
  found_here : x ≡ slice_index_or images i x → now ≡ file → i < length images → fault ≡ fault_of size found → found ≡ place_said totalsize (read_payload now x.payload)
      → first_fault size totalsize (map (read_image file) (drop i images)) ≡ or_later fault (first_fault size totalsize (map (read_image file) (drop (i + 1) images)))
  found_here is same within here told =
      let at = subst (λ (w : List ℕ). found ≡ place_said totalsize (read_payload w x.payload)) same told in
      let rest = first_fault size totalsize (map (read_image file) (drop (i + 1) images)) in
      ap (λ (l : List ImageFacts). first_fault size totalsize (map (read_image file) l)) (drop_more images i x within ∙ ap (λ (c : ImageFacts). c ∷ drop (i + 1) images) (sym is))
      ∙ ap (λ (o : Option FitFault). or_later o rest) (sym (here ∙ ap (fault_of size) at))

  pub passed : x ≡ slice_index_or images i x → now ≡ file → i < length images → fault ≡ fault_of size found → found ≡ place_said totalsize (read_payload now x.payload) → is_some fault ≡ false
      → first_fault size totalsize (map (read_image file) (drop (i + 1) images)) ≡ first_fault size totalsize (map (read_image file) (drop i images))
  passed is same within here told none =
      let rest = first_fault size totalsize (map (read_image file) (drop (i + 1) images)) in
      sym (found_here is same within here told ∙ ap (λ (o : Option FitFault). or_later o rest) (no_fault fault none))

  pub is_first : x ≡ slice_index_or images i x → now ≡ file → i < length images → fault ≡ fault_of size found → found ≡ place_said totalsize (read_payload now x.payload) → is_some fault ≡ true
      → fault ≡ first_fault size totalsize (map (read_image file) (drop i images))
  is_first is same within here told some =
      let rest = first_fault size totalsize (map (read_image file) (drop (i + 1) images)) in
      sym (found_here is same within here told ∙ a_fault fault rest some)

pub none_left : (file : List ℕ) (size totalsize : ℕ) (images : List ImageFacts) (i : ℕ) → length images ≤ i → None ≡ first_fault size totalsize (map (read_image file) (drop i images))
none_left file size totalsize images i h = ap (λ (l : List ImageFacts). first_fault size totalsize (map (read_image file) l)) (sym (drop_of_length-le images h))
