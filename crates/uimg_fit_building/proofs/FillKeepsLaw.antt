-- Filling leaves each file as it stands: what is so of each value, and of any bytes, is so of each value of the filled tree.
use Rattle.std.proofs.Common.{ℕ, List, [], ◌∷◌, Option, Some, None, Bool, true, false, not, cond, if◌then◌else◌, codes}
use Rattle.std.specs.{List.{list_any, AllByRecursion}, Option.option_map_or, Str.bytes_eq}
use Rattle.uimg_texts.specs.declared.naming.Naming.{Naming}
use Rattle.uimg_sums.specs.{declared.algo.Algo.Algo, Algorithms.digest_by}
use Rattle.uimg_blob_reading.specs.{Roles.is_hash, Plain.{NamedOf, no_node, a_node, AllValues}}
use Rattle.uimg_blob_reading.specs.LookUps.{NodeOf, first}
use Rattle.uimg_blob_writing.specs.Encoding.{word}
use Rattle.uimg_blob_writing.specs.Content.{Content, Unread, bytes, content_bytes, IsKept, AreKept}
use Rattle.uimg_fit_building.specs.Filling.{with, external_names, without_external, each, in_first, with_images, with_root, hash_algo, with_digest_by, hashed_by, filled_image_by}
use Rattle.uimg_fit_building.specs.UnreadTrees.{filled_unread}
use Rattle.uimg_fit_building.proofs.LookUpLaws.{NodeHas}

module _ (naming : Naming) (files : List ℕ → Option (List ℕ)) where
  abbrev Has : List (NamedOf Content) → Type 0
  Has own = AllByRecursion (λ p. IsKept files p.value) own

  abbrev AllHave : Unread → Type 0
  AllHave t = AllValues (IsKept files) t

  abbrev HasBoth : NodeOf Content → Type 0
  HasBoth n = NodeHas (IsKept files) n

  set-step : (b : Bool) (key value : List ℕ) (p : NamedOf Content) (own more : List (NamedOf Content)) → IsKept files p.value → Has own → Has more
      → Has (if b then record { name = key; value = bytes value } ∷ own else p ∷ more)
  set-step true key value p own more here h k = (tt, h)
  set-step false key value p own more here h k = (here, k)

  with-kept : (key value : List ℕ) (own : List (NamedOf Content)) → Has own → Has (with key (bytes value) own)
  unfolding with
  with-kept key value [] h = (tt, tt)
  with-kept key value (p ∷ own) h = set-step (bytes_eq key p.name) key value p own (with key (bytes value) own) h.0 h.1 (with-kept key value own h.1)

  left-step : (b : Bool) (p : NamedOf Content) (more : List (NamedOf Content)) → IsKept files p.value → Has more → Has (cond b (p ∷ more) more)
  left-step true p more h k = (h, k)
  left-step false p more h k = k

  without-kept : (own : List (NamedOf Content)) → Has own → Has (without_external own)
  without-kept [] h = tt
  without-kept (p ∷ own) h = left-step (not (list_any (bytes_eq p.name) external_names)) p (without_external own) h.0 (without-kept own h.1)

  digest-step : (message : List ℕ) (h : NodeOf Content) (o : Option Algo) → HasBoth h
      → HasBoth (option_map_or (λ algo. record h { own = with (codes "value") (bytes (digest_by algo message)) h.own }) o h)
  digest-step message h None k = k
  digest-step message h (Some algo) k = (with-kept (codes "value") (digest_by algo message) h.own k.0, k.1)

  hashed-step : (b : Bool) (message : List ℕ) (h : NodeOf Content) → HasBoth h → HasBoth (if b then with_digest_by naming (content_bytes files) bytes message h else h)
  hashed-step true message h k = digest-step message h (hash_algo naming (content_bytes files) h.own) k
  hashed-step false message h k = k

  each-kept : (f : NodeOf Content → NodeOf Content) → ((n : NodeOf Content) → HasBoth n → HasBoth (f n)) → (t : Unread) → AllHave t → AllHave (each f t)
  unfolding each
  each-kept f keeps no_node h = tt
  each-kept f keeps (a_node name own below after) h =
      let n : NodeOf Content = record { name = name; own = own; below = below } in
      let k = keeps n (h.0, h.1) in
      (k.0, k.1, each-kept f keeps after h.2)

  below-step : (image : NodeOf Content) (o : Option Content) → AllHave image.below
      → AllHave (option_map_or (λ c. each (hashed_by naming (content_bytes files) bytes (content_bytes files c)) image.below) o image.below)
  below-step image None h = h
  below-step image (Some c) h =
      each-kept (hashed_by naming (content_bytes files) bytes (content_bytes files c)) (λ n k. hashed-step (is_hash n.name) (content_bytes files c) n k) image.below h

  image-kept : (image : NodeOf Content) → HasBoth image → HasBoth (filled_image_by naming (content_bytes files) bytes image)
  image-kept image h = (without-kept image.own h.0, below-step image (first image.own (codes "data")) h.1)

  in-step : (b : Bool) (name : List ℕ) (own : List (NamedOf Content)) (below after changed more : Unread) → Has own → AllHave below → AllHave after → AllHave changed → AllHave more
      → AllHave (if b then a_node name own changed after else a_node name own below more)
  in-step true name own below after changed more h k l m n = (h, m, l)
  in-step false name own below after changed more h k l m n = (h, k, n)

  in-kept : (key : List ℕ) (f : Unread → Unread) → ((t : Unread) → AllHave t → AllHave (f t)) → (t : Unread) → AllHave t → AllHave (in_first key f t)
  unfolding in_first
  in-kept key f keeps no_node h = tt
  in-kept key f keeps (a_node name own below after) h =
      in-step (bytes_eq key name) name own below after (f below) (in_first key f after) h.0 h.1 h.2 (keeps below h.1) (in-kept key f keeps after h.2)

  images-kept : (t : Unread) → AllHave t → AllHave (with_images (each (filled_image_by naming (content_bytes files) bytes)) t)
  images-kept no_node h = tt
  images-kept (a_node name own below after) h =
      (h.0, in-kept (codes "images") (each (filled_image_by naming (content_bytes files) bytes)) (each-kept (filled_image_by naming (content_bytes files) bytes) image-kept) below h.1, h.2)

  root-kept : (key value : List ℕ) (t : Unread) → AllHave t → AllHave (with_root key (bytes value) t)
  root-kept key value no_node h = tt
  root-kept key value (a_node name own below after) h = (with-kept key value own h.0, h.1, h.2)

  pub filled-kept : (time : ℕ) (t : Unread) → AreKept files t → AreKept files (filled_unread naming files time t)
  filled-kept time t h =
      root-kept (codes "timestamp") (word time) (with_images (each (filled_image_by naming (content_bytes files) bytes)) t) (images-kept t h)
