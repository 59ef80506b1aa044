-- Placing before the files are read is placing after.
use Rattle.std.proofs.Common.{◌≡◌, ℕ, ◌+◌, List, [], ◌∷◌, length, map, Option, Some, None, Bool, true, false, if◌then◌else◌, refl, ap, ◌∙◌, codes}
use Rattle.std.specs.{List.AllByRecursion, Option.{option_map, option_map_or, IfSome}, Str.bytes_eq}
use Rattle.uimg_blob_reading.specs.Plain.{NamedOf, Named, Nodes, no_node, a_node, with_value, with_values, AllValues}
use Rattle.uimg_blob_writing.{specs.{Alignment.aligned, Encoding.word}, proofs.SizeLaws.kept-size}
use Rattle.uimg_blob_writing.specs.Content.{Content, Unread, IsKept, bytes, content_bytes, size_of}
use Rattle.uimg_fit_base.specs.declared.placement.AlignedPlacement.{AlignedPlacement}
use Rattle.uimg_fit_base.specs.declared.placement.AlignedPlacement.TheVariants.{Inside, After, At}
use Rattle.uimg_blob_reading.specs.LookUps.{first}
use Rattle.uimg_fit_building.specs.Filling.{in_first, with_images}
use Rattle.uimg_fit_building.specs.Building.{padded_size, moved_own, moved_from, moved, moved_from_by, moved_own_by}
use Rattle.uimg_fit_building.specs.UnreadTrees.{unread_own, padded_size_of, unread_from, moved_unread}
use Rattle.uimg_fit_building.proofs.LookUpLaws.{first-with, first-has}

module _ (files : List ℕ → Option (List ℕ)) where
  abbrev read : Content → List ℕ
  read = content_bytes files

  abbrev cells : List ℕ → ℕ → ℕ → List Named → List Named
  cells key at size own = record { name = key; value = word at } ∷ record { name = codes "data-size"; value = word size } ∷ own

  own-step : (b : Bool) (key : List ℕ) (at : ℕ) (p : NamedOf Content) (own : List (NamedOf Content)) (source : List (NamedOf Content)) (moved : List Named) → IsKept files p.value → moved ≡ map (with_value read) source
      → (if b then cells key at (length (read p.value)) (map (with_value read) own) else with_value read p ∷ moved)
      ≡ map (with_value read) (if b then record { name = key; value = bytes (word at) } ∷ record { name = codes "data-size"; value = bytes (word (size_of p.value)) } ∷ own else p ∷ source)
  own-step true key at p own source moved kept h = ap (λ (n : ℕ). cells key at n (map (with_value read) own)) (kept-size files p.value kept)
  own-step false key at p own source moved kept h = ap (λ (l : List Named). with_value read p ∷ l) h

  own-moved : (key : List ℕ) (at : ℕ) (own : List (NamedOf Content)) → AllByRecursion (λ p. IsKept files p.value) own → moved_own key at (map (with_value read) own) ≡ map (with_value read) (unread_own key at own)
  unfolding moved_own_by
  own-moved key at [] kept = refl
  own-moved key at (p ∷ own) kept =
      own-step (bytes_eq (codes "data") p.name) key at p own (unread_own key at own) (moved_own key at (map (with_value read) own)) kept.0 (own-moved key at own kept.1)

  padded-step : (align : ℕ) (o : Option Content) → IfSome o (IsKept files)
      → option_map_or (λ (payload : List ℕ). aligned align (length payload)) (option_map read o) 0 ≡ option_map_or (λ (c : Content). aligned align (size_of c)) o 0
  padded-step align None kept = refl
  padded-step align (Some c) kept = ap (λ (n : ℕ). aligned align n) (kept-size files c kept)

  pub padded-same : (align : ℕ) (own : List (NamedOf Content)) → AllByRecursion (λ p. IsKept files p.value) own → padded_size align (map (with_value read) own) ≡ padded_size_of align own
  padded-same align own kept =
      ap (λ (o : Option (List ℕ)). option_map_or (λ (payload : List ℕ). aligned align (length payload)) o 0) (first-with read own (codes "data"))
      ∙ padded-step align (first own (codes "data")) (first-has (IsKept files) own (codes "data") kept)

  from-moved : (align : ℕ) (key : List ℕ) (at : ℕ) (t : Unread) → AllValues (IsKept files) t → moved_from align key at (with_values read t) ≡ with_values read (unread_from align key at t)
  unfolding moved_from_by with_values
  from-moved align key at no_node kept = refl
  from-moved align key at (a_node name own below after) kept =
      let same = padded-same align own kept.0 in
      ap (λ (l : List Named). a_node name l (with_values read below) (moved_from align key (at + padded_size align (map (with_value read) own)) (with_values read after))) (own-moved key at own kept.0)
      ∙ ap (λ (n : ℕ). a_node name (map (with_value read) (unread_own key at own)) (with_values read below) (moved_from align key (at + n) (with_values read after))) same
      ∙ ap (λ (u : Nodes). a_node name (map (with_value read) (unread_own key at own)) (with_values read below) u) (from-moved align key (at + padded_size_of align own) after kept.2)

  first-step : (b : Bool) (name : List ℕ) (own : List (NamedOf Content)) (below after new_below new_after : Unread) (f_below g_after : Nodes) → f_below ≡ with_values read new_below → g_after ≡ with_values read new_after
      → (if b then a_node name (map (with_value read) own) f_below (with_values read after) else a_node name (map (with_value read) own) (with_values read below) g_after)
      ≡ with_values read (if b then a_node name own new_below after else a_node name own below new_after)
  unfolding with_values
  first-step true name own below after new_below new_after f_below g_after h k = ap (λ (u : Nodes). a_node name (map (with_value read) own) u (with_values read after)) h
  first-step false name own below after new_below new_after f_below g_after h k = ap (λ (u : Nodes). a_node name (map (with_value read) own) (with_values read below) u) k

  in-moved : (align : ℕ) (first_key key : List ℕ) (at : ℕ) (t : Unread) → AllValues (IsKept files) t → in_first first_key (moved_from align key at) (with_values read t) ≡ with_values read (in_first first_key (unread_from align key at) t)
  unfolding in_first with_values
  in-moved align first_key key at no_node kept = refl
  in-moved align first_key key at (a_node name own below after) kept =
      first-step (bytes_eq first_key name) name own below after (unread_from align key at below) (in_first first_key (unread_from align key at) after)
      (moved_from align key at (with_values read below)) (in_first first_key (moved_from align key at) (with_values read after))
      (from-moved align key at below kept.1) (in-moved align first_key key at after kept.2)

  images-moved : (align : ℕ) (key : List ℕ) (at : ℕ) (t : Unread) → AllValues (IsKept files) t → with_images (moved_from align key at) (with_values read t) ≡ with_values read (with_images (unread_from align key at) t)
  unfolding with_values
  images-moved align key at no_node kept = refl
  images-moved align key at (a_node name own below after) kept = ap (λ (u : Nodes). a_node name (map (with_value read) own) u (with_values read after)) (in-moved align (codes "images") key at below kept.1)

  pub moved-unread : (t : Unread) (placement : AlignedPlacement) → AllValues (IsKept files) t → moved (with_values read t) placement ≡ with_values read (moved_unread t placement)
  moved-unread t (Inside least) kept = refl
  moved-unread t (After align) kept = images-moved align (codes "data-offset") 0 t kept
  moved-unread t (At p align) kept = images-moved align (codes "data-position") p t kept
