-- The files of a tree are kept where those of its blob are, and those of what stands behind it.
use Rattle.std.proofs.Common.{ℕ, ◌+◌, List, [], ◌∷◌, Option, Some, Result, Ok, Err, Bool, true, false, is_err, if◌then◌else◌, cond, find, unwrap_or, codes}
use Rattle.std.specs.{Bool.OnFalse, List.{flat_map, AllByRecursion}, Option.option_map, Result.OnOk}
use Rattle.std.specs.Str.{bytes_eq}
use Rattle.uimg_blob_reading.specs.Plain.{NamedOf, no_node, a_node}
use Rattle.uimg_blob_reading.specs.LookUps.{NodeOf, listed, first}
use Rattle.uimg_blob_writing.specs.{declared.fault.TreeFault.TreeFault, Encoding.word}
use Rattle.uimg_blob_writing.specs.Content.{Content, Unread, IsKept, AreKept, bytes, size_of}
use Rattle.uimg_blob_writing.proofs.WritesLaws.{all-first, all-second}
use Rattle.uimg_fit_building.specs.Building.{moved_from_by, moved_own_by}
use Rattle.uimg_fit_building.specs.Behind.{padded_pieces, payload_pieces, behind_pieces, images_in}
use Rattle.uimg_fit_building.specs.Filling.{in_first, with_images}
use Rattle.uimg_fit_base.specs.declared.placement.AlignedPlacement.{AlignedPlacement}
use Rattle.uimg_fit_base.specs.declared.placement.AlignedPlacement.TheVariants.{Inside, After, At}
use Rattle.uimg_fit_building.specs.UnreadTrees.{unread_own, padded_size_of, unread_from, moved_unread}

module _ (files : List ℕ → Option (List ℕ)) where
  abbrev all_own : List (NamedOf Content) → Type 0
  all_own own = AllByRecursion (λ p. IsKept files p.value) own

  abbrev all_pieces : List Content → Type 0
  all_pieces pieces = AllByRecursion (IsKept files) pieces

  own-step : (align : ℕ) (b : Bool) (key : List ℕ) (at : ℕ) (p : NamedOf Content) (own source : List (NamedOf Content))
      → all_own (if b then record { name = key; value = bytes (word at) } ∷ record { name = codes "data-size"; value = bytes (word (size_of p.value)) } ∷ own else p ∷ source)
      → all_pieces (padded_pieces align (option_map (λ q. q.value) (cond b (Some p) (find (λ q. bytes_eq (codes "data") q.name) own))))
      → (all_own source → all_pieces (padded_pieces align (first own (codes "data"))) → all_own own)
      → all_own (p ∷ own)
  own-step align true key at p own source placed behind more = (behind.0, placed.1.1)
  own-step align false key at p own source placed behind more = (placed.0, more placed.1 behind)

  own-kept : (align : ℕ) (key : List ℕ) (at : ℕ) (own : List (NamedOf Content)) → all_own (unread_own key at own) → all_pieces (padded_pieces align (first own (codes "data"))) → all_own own
  unfolding moved_own_by
  own-kept align key at [] placed behind = tt
  own-kept align key at (p ∷ own) placed behind =
      own-step align (bytes_eq (codes "data") p.name) key at p own (unread_own key at own) placed behind (own-kept align key at own)

  images-kept : (align : ℕ) (key : List ℕ) (at : ℕ) (t : Unread) → AreKept files (unread_from align key at t) → all_pieces (flat_map (payload_pieces align) (listed t)) → AreKept files t
  unfolding moved_from_by listed
  images-kept align key at no_node placed behind = tt
  images-kept align key at (a_node name own below after) placed behind =
      let here : NodeOf Content = record { name = name; own = own; below = below } in
      let rest = flat_map (payload_pieces align) (listed after) in (
        own-kept align key at own placed.0 (all-first (IsKept files) (payload_pieces align here) rest behind),
        placed.1,
        images-kept align key (at + padded_size_of align own) after placed.2 (all-second (IsKept files) (payload_pieces align here) rest behind),
      )

  -- the payloads of the images below a node, if there is one
  abbrev pieces_below : ℕ → Option (NodeOf Content) → List Content
  pieces_below align o = flat_map (payload_pieces align) (unwrap_or (option_map (λ c. listed c.below) o) [])

  first-step : (align : ℕ) (b : Bool) (name : List ℕ) (own : List (NamedOf Content)) (below after new_below new_after : Unread) (o : Option (NodeOf Content))
      → AreKept files (if b then a_node name own new_below after else a_node name own below new_after)
      → all_pieces (pieces_below align (cond b (Some (record { name = name; own = own; below = below })) o))
      → (AreKept files new_below → all_pieces (flat_map (payload_pieces align) (listed below)) → AreKept files below)
      → (AreKept files new_after → all_pieces (pieces_below align o) → AreKept files after)
      → AreKept files (a_node name own below after)
  first-step align true name own below after new_below new_after o placed behind here there = (placed.0, here placed.1 behind, placed.2)
  first-step align false name own below after new_below new_after o placed behind here there = (placed.0, placed.1, there placed.2 behind)

  first-kept : (align : ℕ) (key : List ℕ) (at : ℕ) (t : Unread) → AreKept files (in_first (codes "images") (unread_from align key at) t)
      → all_pieces (pieces_below align (find (λ c. bytes_eq (codes "images") c.name) (listed t))) → AreKept files t
  unfolding in_first listed
  first-kept align key at no_node placed behind = tt
  first-kept align key at (a_node name own below after) placed behind =
      first-step align (bytes_eq (codes "images") name) name own below after (unread_from align key at below) (in_first (codes "images") (unread_from align key at) after)
      (find (λ c. bytes_eq (codes "images") c.name) (listed after)) placed behind (images-kept align key at below) (first-kept align key at after)

  tree-kept : (align : ℕ) (key : List ℕ) (at : ℕ) (t : Unread) → AreKept files (with_images (unread_from align key at) t) → all_pieces (flat_map (payload_pieces align) (images_in t)) → AreKept files t
  tree-kept align key at no_node placed behind = tt
  tree-kept align key at (a_node name own below after) placed behind = (placed.0, first-kept align key at below placed.1 behind, placed.2)

  -- the files of a tree are kept where those of its blob are, and those of what stands behind it
  pub both-kept : (size : ℕ) (t : Unread) (placement : AlignedPlacement) → AreKept files (moved_unread t placement) → all_pieces (behind_pieces size t placement) → AreKept files t
  both-kept size t (Inside least) placed behind = placed
  both-kept size t (After align) placed behind = tree-kept align (codes "data-offset") 0 t placed behind
  both-kept size t (At p align) placed behind = tree-kept align (codes "data-position") p t placed behind.1

  -- the same where the blob was written, of what writing the rest answers
  pub kept-then : (r : Result (Unit {0}) TreeFault) (size : ℕ) (t : Unread) (placement : AlignedPlacement) → AreKept files (moved_unread t placement)
      → OnFalse (is_err r) (all_pieces (behind_pieces size t placement)) → OnOk r (AreKept files t)
  kept-then (Ok x) size t placement placed behind = both-kept size t placement placed behind
  kept-then (Err e) size t placement placed behind = tt
