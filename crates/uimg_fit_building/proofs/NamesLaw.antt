-- Placing neither adds nor loses a bad name, and keeps the files that are kept.
use Rattle.std.proofs.Common.{◌≡◌, ℕ, ◌+◌, List, [], ◌∷◌, map, Option, Some, Bool, true, false, if◌then◌else◌, refl, ap, sym, ◌∙◌, codes}
use Rattle.std.specs.{List.AllByRecursion, Option.option_or, Str.bytes_eq}
use Rattle.std.proofs.lemmas.Slice.Eq.{bytes_eq-Decides}
use Rattle.uimg_blob_reading.specs.declared.fault.BlobFault.{BlobFault}
use Rattle.uimg_blob_reading.specs.declared.fault.BlobFault.TheVariants.{BadNodeName, BadPropertyName}
use Rattle.uimg_blob_reading.specs.Plain.{NamedOf, NodesOf, no_node, a_node, with_value, with_values, AllValues}
use Rattle.uimg_blob_writing.specs.{Content.{Content, Unread, bytes, size_of}, Encoding.word}
use Rattle.uimg_blob_writing.specs.Measured.{is_name, bad_property, bad_name}
use Rattle.uimg_fit_building.specs.Building.{moved_from_by, moved_own_by}
use Rattle.uimg_fit_building.specs.Filling.{in_first, with_images}
use Rattle.uimg_fit_base.specs.declared.placement.AlignedPlacement.{AlignedPlacement}
use Rattle.uimg_fit_base.specs.declared.placement.AlignedPlacement.TheVariants.{Inside, After, At}
use Rattle.uimg_fit_building.specs.UnreadTrees.{unread_own, padded_size_of, unread_from, moved_unread}

-- names count, whatever the values are
property-values : {V W : Type 0} (f : V → W) (own : List (NamedOf V)) → bad_property (map (with_value f) own) ≡ bad_property own
unfolding bad_property
property-values f [] = refl
property-values f (p ∷ own) = ap (λ (o : Option BlobFault). if is_name p.name then o else Some BadPropertyName) (property-values f own)

pub name-values : {V W : Type 0} (f : V → W) (t : NodesOf V) → bad_name (with_values f t) ≡ bad_name t
unfolding bad_name with_values
name-values f no_node = refl
name-values f (a_node name own below after) =
    ap (λ (o : Option BlobFault). if is_name name then option_or o (option_or (bad_name (with_values f below)) (bad_name (with_values f after))) else Some BadNodeName) (property-values f own)
    ∙ ap (λ (o : Option BlobFault). if is_name name then option_or (bad_property own) (option_or o (bad_name (with_values f after))) else Some BadNodeName) (name-values f below)
    ∙ ap (λ (o : Option BlobFault). if is_name name then option_or (bad_property own) (option_or (bad_name below) o) else Some BadNodeName) (name-values f after)

size_is_name : is_name (codes "data-size") ≡ true
unfolding Rattle.uimg_texts.specs.Nul.before_nul
size_is_name = refl

data_is_name : is_name (codes "data") ≡ true
unfolding Rattle.uimg_texts.specs.Nul.before_nul
data_is_name = refl

offset_is_good : is_name (codes "data-offset") ≡ true
unfolding Rattle.uimg_texts.specs.Nul.before_nul
offset_is_good = refl

position_is_good : is_name (codes "data-position") ≡ true
unfolding Rattle.uimg_texts.specs.Nul.before_nul
position_is_good = refl

module _ (align : ℕ) (key : List ℕ) (good : is_name key ≡ true) where
  abbrev chain : Bool → Option BlobFault → Option BlobFault
  chain b o = if b then o else Some BadPropertyName

  own-step : (b : Bool) (at : ℕ) (p : NamedOf Content) (own source : List (NamedOf Content)) → (b ≡ true → is_name p.name ≡ true) → bad_property source ≡ bad_property own
      → bad_property (if b then record { name = key; value = bytes (word at) } ∷ record { name = codes "data-size"; value = bytes (word (size_of p.value)) } ∷ own else p ∷ source) ≡ chain (is_name p.name) (bad_property own)
  unfolding bad_property
  own-step true at p own source named h =
      ap (λ (b : Bool). chain b (chain (is_name (codes "data-size")) (bad_property own))) good
      ∙ ap (λ (b : Bool). chain b (bad_property own)) (size_is_name ∙ sym (named refl))
  own-step false at p own source named h = ap (λ (o : Option BlobFault). chain (is_name p.name) o) h

  own-names : (at : ℕ) (own : List (NamedOf Content)) → bad_property (unread_own key at own) ≡ bad_property own
  unfolding bad_property moved_own_by
  own-names at [] = refl
  own-names at (p ∷ own) =
      own-step (bytes_eq (codes "data") p.name) at p own (unread_own key at own)
      (λ here. ap (λ (n : List ℕ). is_name n) (sym ((bytes_eq-Decides (codes "data") p.name).0 here)) ∙ data_is_name) (own-names at own)

  from-names : (at : ℕ) (t : Unread) → bad_name (unread_from align key at t) ≡ bad_name t
  unfolding bad_name moved_from_by
  from-names at no_node = refl
  from-names at (a_node name own below after) =
      ap (λ (o : Option BlobFault). if is_name name then option_or o (option_or (bad_name below) (bad_name (unread_from align key (at + padded_size_of align own) after))) else Some BadNodeName) (own-names at own)
      ∙ ap (λ (o : Option BlobFault). if is_name name then option_or (bad_property own) (option_or (bad_name below) o) else Some BadNodeName) (from-names (at + padded_size_of align own) after)

  first-step : (b : Bool) (name : List ℕ) (own : List (NamedOf Content)) (below after new_below new_after : Unread) → bad_name new_below ≡ bad_name below → bad_name new_after ≡ bad_name after
      → bad_name (if b then a_node name own new_below after else a_node name own below new_after) ≡ bad_name (a_node name own below after)
  unfolding bad_name
  first-step true name own below after new_below new_after h k = ap (λ (o : Option BlobFault). if is_name name then option_or (bad_property own) (option_or o (bad_name after)) else Some BadNodeName) h
  first-step false name own below after new_below new_after h k = ap (λ (o : Option BlobFault). if is_name name then option_or (bad_property own) (option_or (bad_name below) o) else Some BadNodeName) k

  first-names : (first_key : List ℕ) (at : ℕ) (t : Unread) → bad_name (in_first first_key (unread_from align key at) t) ≡ bad_name t
  unfolding in_first
  first-names first_key at no_node = refl
  first-names first_key at (a_node name own below after) =
      first-step (bytes_eq first_key name) name own below after (unread_from align key at below) (in_first first_key (unread_from align key at) after) (from-names at below) (first-names first_key at after)

  images-names : (at : ℕ) (t : Unread) → bad_name (with_images (unread_from align key at) t) ≡ bad_name t
  unfolding bad_name
  images-names at no_node = refl
  images-names at (a_node name own below after) =
      ap (λ (o : Option BlobFault). if is_name name then option_or (bad_property own) (option_or o (bad_name after)) else Some BadNodeName) (first-names (codes "images") at below)

-- the bad name of a tree whose payloads are placed
pub placed-names : (t : Unread) (placement : AlignedPlacement) → bad_name (moved_unread t placement) ≡ bad_name t
placed-names t (Inside least) = refl
placed-names t (After align) = images-names align (codes "data-offset") offset_is_good 0 t
placed-names t (At p align) = images-names align (codes "data-position") position_is_good p t

module _ (P : Content → Type 0) (of-bytes : (b : List ℕ) → P (bytes b)) where
  abbrev all_own : List (NamedOf Content) → Type 0
  all_own own = AllByRecursion (λ p. P p.value) own

  kept-step : (b : Bool) (key : List ℕ) (at : ℕ) (p : NamedOf Content) (own source : List (NamedOf Content)) → P p.value → all_own own → all_own source
      → all_own (if b then record { name = key; value = bytes (word at) } ∷ record { name = codes "data-size"; value = bytes (word (size_of p.value)) } ∷ own else p ∷ source)
  kept-step true key at p own source here h k = (of-bytes (word at), (of-bytes (word (size_of p.value)), h))
  kept-step false key at p own source here h k = (here, k)

  kept-own : (key : List ℕ) (at : ℕ) (own : List (NamedOf Content)) → all_own own → all_own (unread_own key at own)
  unfolding moved_own_by
  kept-own key at [] h = tt
  kept-own key at (p ∷ own) h = kept-step (bytes_eq (codes "data") p.name) key at p own (unread_own key at own) h.0 h.1 (kept-own key at own h.1)

  kept-from : (align : ℕ) (key : List ℕ) (at : ℕ) (t : Unread) → AllValues P t → AllValues P (unread_from align key at t)
  unfolding moved_from_by
  kept-from align key at no_node h = tt
  kept-from align key at (a_node name own below after) h = (kept-own key at own h.0, h.1, kept-from align key (at + padded_size_of align own) after h.2)

  kept-choice : (b : Bool) (t u : Unread) → AllValues P t → AllValues P u → AllValues P (if b then t else u)
  kept-choice true t u h k = h
  kept-choice false t u h k = k

  kept-first : (align : ℕ) (first_key key : List ℕ) (at : ℕ) (t : Unread) → AllValues P t → AllValues P (in_first first_key (unread_from align key at) t)
  unfolding in_first
  kept-first align first_key key at no_node h = tt
  kept-first align first_key key at (a_node name own below after) h =
      let here : Unread = a_node name own (unread_from align key at below) after in
      let there : Unread = a_node name own below (in_first first_key (unread_from align key at) after) in
      kept-choice (bytes_eq first_key name) here there (h.0, kept-from align key at below h.1, h.2) (h.0, h.1, kept-first align first_key key at after h.2)

  kept-images : (align : ℕ) (key : List ℕ) (at : ℕ) (t : Unread) → AllValues P t → AllValues P (with_images (unread_from align key at) t)
  kept-images align key at no_node h = tt
  kept-images align key at (a_node name own below after) h = (h.0, kept-first align (codes "images") key at below h.1, h.2)

  -- a fact on all values is one on those of the tree whose payloads are placed
  pub placed-values : (t : Unread) (placement : AlignedPlacement) → AllValues P t → AllValues P (moved_unread t placement)
  placed-values t (Inside least) h = h
  placed-values t (After align) h = kept-images align (codes "data-offset") 0 t h
  placed-values t (At p align) h = kept-images align (codes "data-position") p t h
