-- What is built with its payloads after the blob reads back.
use Rattle.std.proofs.Common.{◌≡◌, ◌≤◌, ◌<◌, ◌^◌, ℕ, ◌+◌, ◌-◌, List, [], ◌∷◌, ◌++◌, length, drop, map, replicate, Option, Some, None, Result, Ok, true, false, nat_lt, unwrap_or, refl, ap, sym, subst, ◌∙◌, codes, append_assoc, append-nil, length-append, arith}
use Rattle.std.specs.{List.{flat_map, AllByRecursion}, Option.{option_map, option_and_then}}
use Rattle.std.{specs.Str.bytes_eq, proofs.lemmas.{Bool.le-ltb, List.length-replicate}}
use Rattle.std.proofs.Math.Seq.{drop-append_seam}
use Rattle.uimg_texts.specs.declared.naming.Naming.TheVariants.{Profile}
use Rattle.uimg_texts.specs.Numbers.{be32, up4}
use Rattle.uimg_blob_reading.specs.{Plain.{Named, Nodes, no_node, a_node, AreNamed}, Spots.Spot}
use Rattle.uimg_blob_reading.specs.LookUps.{NodeOf, first, images, hashes}
use Rattle.uimg_blob_writing.{specs.Alignment.{ends_at, padding_by, padded_by}, proofs.TokenLaws.drop-piece}
use Rattle.uimg_blob_writing.specs.Encoding.{word, structure, structure_offset, strings, names_of, encode_with}
use Rattle.uimg_blob_writing.specs.declared.reservation.Reservation.{Reservation}
use Rattle.uimg_blob_writing.proofs.AlignmentLaws.{aligned-words}
use Rattle.uimg_blob_writing.proofs.ReadsBackLaw.{length-encode, totalsize}
use Rattle.uimg_fit_base.specs.{declared.fault.FitFault.FitFault, Files.{number, cell}}
use Rattle.uimg_fit_base.specs.declared.placement.AlignedPlacement.TheVariants.{After, At}
use Rattle.uimg_fit_base.specs.Places.{place, bytes_at}
use Rattle.uimg_base.specs.{Results.◌>>=◌, declared.spans.Span.Span}
use Rattle.uimg_fit_building.specs.Filling.{in_first, IsFilledImage, IsFilled, IsDigest}
use Rattle.uimg_fit_building.specs.ReadsBack.{ReadsBack}
use Rattle.uimg_fit_building.specs.Building.{data_of, padded_size, moved_own, moved_from, placed_with, payloads, built_with}
use Rattle.uimg_fit_building.proofs.{SpotLaws.{piece-within, piece-lies}, LookUpLaws.first-with}
use Rattle.uimg_fit_building.proofs.SoundLaws.{plain, IsSound, AreSound, reads_back-sound}
use Rattle.uimg_fit_building.proofs.InsideLaw.{images-read}
use Rattle.uimg_fit_building.proofs.MovedLaws.{moved_node, moved_nodes, images-moved, named-images, offset_is_name, position_is_name, number-word, padded-length, is_moved}

-- a number that is read is that of the value without its place
cell-plain : (i : NodeOf Spot) (key : List ℕ) → cell i.own key ≡ option_and_then number (first (plain i).own key)
cell-plain i key = ap (λ (o : Option (List ℕ)). option_and_then number o) (sym (first-with (λ (s : Spot). s.bytes) i.own key))

cell-word : (i : NodeOf Spot) (key : List ℕ) (own : List Named) (n : ℕ) → (plain i).own ≡ own → first own key ≡ Some (word n) → n < 2 ^ 32 → cell i.own key ≡ Some n
cell-word i key own n same is fits =
    cell-plain i key ∙ ap (λ (ps : List Named). option_and_then number (first ps key)) same
    ∙ ap (λ (o : Option (List ℕ)). option_and_then number o) is ∙ number-word n fits

cell-none : (i : NodeOf Spot) (key : List ℕ) (own : List Named) → (plain i).own ≡ own → first own key ≡ None → cell i.own key ≡ None
cell-none i key own same is =
    cell-plain i key ∙ ap (λ (ps : List Named). option_and_then number (first ps key)) same
    ∙ ap (λ (o : Option (List ℕ)). option_and_then number o) is

-- the payloads of images, each with zeros up to where an alignment has it end
abbrev stored : ℕ → List (NodeOf (List ℕ)) → List ℕ
stored align is = flat_map (λ image. padded_by align (data_of image.own)) is

-- an alignment, a key under which payloads are placed, the other key, and where their places are counted from
module _ (align : ℕ) (key other : List ℕ) (base : ℕ) (file : List ℕ)
    (key_key : bytes_eq key key ≡ true) (size_key : bytes_eq (codes "data-size") key ≡ false) (other_key : bytes_eq other key ≡ false) (other_size : bytes_eq other (codes "data-size") ≡ false)
    (no_key : (i : NodeOf (List ℕ)) → IsFilledImage Profile i → first i.own key ≡ None) (no_other : (i : NodeOf (List ℕ)) → IsFilledImage Profile i → first i.own other ≡ None)
    (placed : (i : NodeOf Spot) (at size : ℕ) → cell i.own key ≡ Some at → cell i.own (codes "data-size") ≡ Some size → cell i.own other ≡ None → place file i ≡ Ok (record { place = base + at; length = size }))
    (fits : length file < 2 ^ 32) where
  -- a payload that stands where it was placed is sound
  outside-image : (i : NodeOf Spot) (f : NodeOf (List ℕ)) (at : ℕ) (rest : List ℕ) → plain i ≡ moved_node key at f → IsFilledImage Profile f → base + at ≤ length file
      → drop (base + at) file ≡ padded_by align (data_of f.own) ++ rest → IsSound file i (data_of f.own)
  unfolding bytes_at
  outside-image i f at rest same filled within h =
      let message = data_of f.own in
      let pad : List ℕ = padding_by align (length message) in
      let here : drop (base + at) file ≡ message ++ (pad ++ rest) = h ∙ append_assoc message pad rest in
      let ends : base + at + length message ≤ length file = piece-within file (base + at) message (pad ++ rest) within here in
      let is_data : filled.message ≡ message = sym (ap (λ (o : Option (List ℕ)). unwrap_or o []) filled.has) in
      let has : first f.own (codes "data") ≡ Some message = filled.has ∙ ap (λ (w : List ℕ). let y : Option (List ℕ) = Some w in y) is_data in
      let m = is_moved key other at key_key size_key other_key other_size f.own message has (no_key f filled) filled.no_size (no_other f filled) in
      let own : (plain i).own ≡ moved_own key at f.own = ap (λ (n : NodeOf (List ℕ)). n.own) same in
      let at_cell = cell-word i key (moved_own key at f.own) at own m.place (omega (arith, within, fits)) in
      let size_cell = cell-word i (codes "data-size") (moved_own key at f.own) (length message) own m.size (omega (arith, ends, fits)) in
      let other_cell = cell-none i other (moved_own key at f.own) own m.none in
      let spot : place file i ≡ Ok (record { place = base + at; length = length message }) = placed i at (length message) at_cell size_cell other_cell in
      let inside : nat_lt (length file) (base + at + length message) ≡ false = le-ltb _ _ ends in
      let bytes : bytes_at file (record { place = base + at; length = length message }) ≡ Ok message = rw (inside, piece-lies file (base + at) message (pad ++ rest) here) refl in
      let digests : AllByRecursion (IsDigest Profile message) (hashes f) = subst (λ (w : List ℕ). AllByRecursion (IsDigest Profile w) (hashes f)) is_data filled.digests in
      record {
        is = ap (λ (r : Result Span FitFault). r >>= bytes_at file) spot ∙ bytes;
        digests = subst (λ (n : NodeOf (List ℕ)). AllByRecursion (IsDigest Profile message) (hashes n)) (sym same) digests;
      }

  pub outside-images : (is : List (NodeOf Spot)) (fs : List (NodeOf (List ℕ))) (at : ℕ) (rest : List ℕ) → map plain is ≡ moved_nodes align key at fs → AllByRecursion (IsFilledImage Profile) fs → base + at ≤ length file
      → drop (base + at) file ≡ stored align fs ++ rest → AreSound file is (map (λ f. data_of f.own) fs)
  unfolding moved_nodes
  outside-images [] [] at rest same filled within h = tt
  outside-images [] (f ∷ fs) at rest same filled within h = absurd (cc)
  outside-images (i ∷ is) [] at rest same filled within h = absurd (cc)
  outside-images (i ∷ is) (f ∷ fs) at rest same filled within h =
      let piece = padded_by align (data_of f.own) in
      let here : drop (base + at) file ≡ piece ++ (stored align fs ++ rest) = h ∙ append_assoc piece (stored align fs) rest in
      let first_same : plain i ≡ moved_node key at f = cc in
      let next_same : map plain is ≡ moved_nodes align key (at + padded_size align f.own) fs = cc in
      let more_same : map plain is ≡ moved_nodes align key (at + length piece) fs = next_same ∙ ap (λ (n : ℕ). moved_nodes align key (at + n) fs) (sym (padded-length align f.own)) in
      let place : base + at + length piece ≡ base + (at + length piece) = omega arith in
      let there : drop (base + (at + length piece)) file ≡ stored align fs ++ rest =
      ap (λ (k : ℕ). drop k file) (sym place) ∙ drop-piece file (base + at) piece (stored align fs ++ rest) (length piece) refl here in
      let past_it : base + (at + length piece) ≤ length file = omega (arith, place, piece-within file (base + at) piece (stored align fs ++ rest) within here) in (
        outside-image i f at (stored align fs ++ rest) first_same filled.0 within here,
        outside-images is fs (at + length piece) rest more_same filled.1 past_it there,
      )

-- the payloads of a tree whose images are known
payloads-found : (align : ℕ) (t : Nodes) (found : List (NodeOf (List ℕ))) → images t ≡ Some found → payloads align t ≡ stored align found ++ []
payloads-found align t found are =
    ap (λ (o : Option (List (NodeOf (List ℕ)))). stored align (unwrap_or o [])) are ∙ sym (append-nil (stored align found))

-- the length of a blob is a multiple of 4
encode-aligned : (align : ℕ) (rs : List Reservation) (t : Nodes) → up4 (length (encode_with (ends_at align) rs t)) ≡ length (encode_with (ends_at align) rs t)
encode-aligned align rs t = let end = structure_offset rs + length (structure t) + length (strings (names_of t)) in omega (arith, length-encode (ends_at align) rs t, aligned-words align end)

module _ (align : ℕ) (rs : List Reservation) (name : List ℕ) (own : List Named) (below : Nodes)
    (named : let t : Nodes = a_node name own below no_node in AreNamed t) (filled : let t : Nodes = a_node name own below no_node in IsFilled t) where
  abbrev t : Nodes
  t = a_node name own below no_node

  pub built-after : length (built_with rs t (After align)) < 2 ^ 32 → ReadsBack (built_with rs t (After align)) t
  built-after fits =
      let key = codes "data-offset" in
      let other = codes "data-position" in
      let moved_below = in_first (codes "images") (moved_from align key 0) below in
      let u : Nodes = a_node name own moved_below no_node in
      let more = payloads align t in
      let file = encode_with (ends_at align) rs u ++ more in
      let all : length file ≡ length (encode_with (ends_at align) rs u) + length more = length-append (encode_with (ends_at align) rs u) more in
      let blob_fits : length (encode_with (ends_at align) rs u) < 2 ^ 32 = omega (arith, all, fits) in
      let named_u : AreNamed u = named-images align key 0 t offset_is_name named in
      let are_u : images u ≡ Some (moved_nodes align key 0 filled.found) = images-moved align key 0 t ∙ ap (λ (o : Option (List (NodeOf (List ℕ)))). option_map (moved_nodes align key 0) o) filled.are_images in
      let r = images-read (ends_at align) rs name own moved_below more (moved_nodes align key 0 filled.found) named_u blob_fits are_u in
      let total : up4 (be32 file 4) ≡ length (encode_with (ends_at align) rs u) = ap (λ (n : ℕ). up4 n) (totalsize (ends_at align) rs name own moved_below named_u blob_fits more) ∙ encode-aligned align rs u in
      let none : length (encode_with (ends_at align) rs u) + 0 ≡ length (encode_with (ends_at align) rs u) = omega arith in
      let here : drop (length (encode_with (ends_at align) rs u) + 0) file ≡ stored align filled.found ++ [] =
      ap (λ (k : ℕ). drop k file) none ∙ drop-append_seam (encode_with (ends_at align) rs u) more ∙ payloads-found align t filled.found filled.are_images in
      let sound = outside-images align key other (length (encode_with (ends_at align) rs u)) file refl refl refl refl (λ i f. f.no_offset) (λ i f. f.no_position)
      (λ i at size at_cell size_cell other_cell. rw (other_cell, at_cell, size_cell, total) refl)
      fits r.placed filled.found 0 [] r.same filled.each_filled (omega (arith, all)) here in
      reads_back-sound file t r.placed filled.found r.are filled.are_images sound

  pub built-at : (p : ℕ) → length (placed_with rs t (At p align)) ≤ p → length (built_with rs t (At p align)) < 2 ^ 32 → ReadsBack (built_with rs t (At p align)) t
  built-at p above fits =
      let key = codes "data-position" in
      let other = codes "data-offset" in
      let moved_below = in_first (codes "images") (moved_from align key p) below in
      let u : Nodes = a_node name own moved_below no_node in
      let gap : List ℕ = replicate (p - length (encode_with (ends_at align) rs u)) 0 in
      let more = gap ++ payloads align t in
      let file = encode_with (ends_at align) rs u ++ more in
      let all : length file ≡ length (encode_with (ends_at align) rs u) + length more = length-append (encode_with (ends_at align) rs u) more in
      let all_more : length more ≡ length gap + length (payloads align t) = length-append gap (payloads align t) in
      let gap_length : length gap ≡ p - length (encode_with (ends_at align) rs u) = length-replicate {A = ℕ} (p - length (encode_with (ends_at align) rs u)) 0 in
      let front : length (encode_with (ends_at align) rs u ++ gap) ≡ p = omega (arith, length-append (encode_with (ends_at align) rs u) gap, gap_length, above) in
      let from_start : 0 + p ≡ length (encode_with (ends_at align) rs u ++ gap) = omega (arith, front) in
      let blob_fits : length (encode_with (ends_at align) rs u) < 2 ^ 32 = omega (arith, all, fits) in
      let named_u : AreNamed u = named-images align key p t position_is_name named in
      let are_u : images u ≡ Some (moved_nodes align key p filled.found) = images-moved align key p t ∙ ap (λ (o : Option (List (NodeOf (List ℕ)))). option_map (moved_nodes align key p) o) filled.are_images in
      let r = images-read (ends_at align) rs name own moved_below more (moved_nodes align key p filled.found) named_u blob_fits are_u in
      let here : drop (0 + p) file ≡ stored align filled.found ++ [] =
      ap (λ (k : ℕ). drop k file) from_start ∙ ap (λ (w : List ℕ). drop (length (encode_with (ends_at align) rs u ++ gap)) w) (sym (append_assoc (encode_with (ends_at align) rs u) gap (payloads align t)))
      ∙ drop-append_seam (encode_with (ends_at align) rs u ++ gap) (payloads align t) ∙ payloads-found align t filled.found filled.are_images in
      let sound = outside-images align key other 0 file refl refl refl refl (λ i f. f.no_position) (λ i f. f.no_offset)
      (λ i at size at_cell size_cell other_cell. rw (at_cell, size_cell) refl)
      fits r.placed filled.found p [] r.same filled.each_filled (omega (arith, all, all_more, gap_length, above)) here in
      reads_back-sound file t r.placed filled.found r.are filled.are_images sound
