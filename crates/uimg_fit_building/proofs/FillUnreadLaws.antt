-- Filling before the files are read is filling after, and each file stays.
use Rattle.std.proofs.Common.{◌≡◌, ℕ, List, [], ◌∷◌, map, Option, Some, None, Bool, true, false, not, cond, if◌then◌else◌, refl, ap, ◌∙◌, codes}
use Rattle.std.specs.{List.list_any, Option.{option_map, option_map_or, option_and_then}}
use Rattle.std.specs.Str.{bytes_eq}
use Rattle.uimg_texts.specs.declared.naming.Naming.{Naming}
use Rattle.uimg_sums.specs.{declared.algo.Algo.Algo, Algorithms.digest_by}
use Rattle.uimg_texts.specs.Nul.{text}
use Rattle.uimg_blob_reading.specs.{Roles.is_hash, LookUps.{NodeOf, first}}
use Rattle.uimg_blob_reading.specs.Plain.{NamedOf, Named, Nodes, no_node, a_node, with_value, with_values}
use Rattle.uimg_blob_writing.specs.{Encoding.word, Content.{Content, Unread, bytes, content_bytes}}
use Rattle.uimg_fit_base.specs.AlgoNames.{algo_by}
use Rattle.uimg_fit_building.specs.Filling.{with, external_names, without_external, each, in_first, with_images, with_root, hash_algo, algo_in, with_digest_by, hashed_by, hashed, filled_image_by, filled_image, filled}
use Rattle.uimg_fit_building.specs.{UnreadTrees.filled_unread, FillAnswers.node_in_full}
use Rattle.uimg_fit_building.proofs.LookUpLaws.{first-with}

module _ (naming : Naming) (files : List ℕ → Option (List ℕ)) where
  abbrev read : Content → List ℕ
  read = content_bytes files

  abbrev reads : List (NamedOf Content) → List Named
  reads own = map (with_value read) own

  -- a property that is set
  set-step : (b : Bool) (key value : List ℕ) (p : NamedOf Content) (own more : List (NamedOf Content)) (others : List Named) → others ≡ reads more
      → (if b then record { name = key; value = value } ∷ reads own else with_value read p ∷ others)
      ≡ reads (if b then record { name = key; value = bytes value } ∷ own else p ∷ more)
  set-step true key value p own more others h = refl
  set-step false key value p own more others h = ap (λ (l : List Named). with_value read p ∷ l) h

  pub with-read : (key value : List ℕ) (own : List (NamedOf Content)) → with key value (reads own) ≡ reads (with key (bytes value) own)
  unfolding with
  with-read key value [] = refl
  with-read key value (p ∷ own) = set-step (bytes_eq key p.name) key value p own (with key (bytes value) own) (with key value (reads own)) (with-read key value own)

  -- properties without those that tell a place outside the blob
  left-step : (b : Bool) (p : NamedOf Content) (more : List (NamedOf Content)) (others : List Named) → others ≡ reads more
      → cond b (with_value read p ∷ others) others ≡ reads (cond b (p ∷ more) more)
  left-step true p more others h = ap (λ (l : List Named). with_value read p ∷ l) h
  left-step false p more others h = h

  pub without-read : (own : List (NamedOf Content)) → without_external (reads own) ≡ reads (without_external own)
  without-read [] = refl
  without-read (p ∷ own) =
      left-step (not (list_any (bytes_eq p.name) external_names)) p (without_external own) (without_external (reads own)) (without-read own)

  -- the algorithm of a hash node
  named-read : (o : Option Content) → option_and_then (λ (v : List ℕ). algo_by naming (text v)) (option_map read o) ≡ option_and_then (λ c. algo_by naming (text (read c))) o
  named-read None = refl
  named-read (Some c) = refl

  pub algo-read : (own : List (NamedOf Content)) → algo_in naming (reads own) ≡ hash_algo naming read own
  algo-read own =
      ap (λ (o : Option (List ℕ)). option_and_then (λ (v : List ℕ). algo_by naming (text v)) o) (first-with read own (codes "algo"))
      ∙ named-read (first own (codes "algo"))

  -- a hash node with its digest
  digest-step : (message : List ℕ) (h : NodeOf Content) (o : Option Algo)
      → option_map_or (λ algo. record (node_in_full files h) { own = with (codes "value") (digest_by algo message) (reads h.own) }) o (node_in_full files h)
      ≡ node_in_full files (option_map_or (λ algo. record h { own = with (codes "value") (bytes (digest_by algo message)) h.own }) o h)
  digest-step message h None = refl
  digest-step message h (Some algo) =
      ap (λ (l : List Named). record (node_in_full files h) { own = l }) (with-read (codes "value") (digest_by algo message) h.own)

  digest-read : (message : List ℕ) (h : NodeOf Content) → with_digest_by naming (λ value. value) (λ value. value) message (node_in_full files h) ≡ node_in_full files (with_digest_by naming read bytes message h)
  digest-read message h =
      ap (λ (o : Option Algo). option_map_or (λ algo. record (node_in_full files h) { own = with (codes "value") (digest_by algo message) (reads h.own) }) o (node_in_full files h)) (algo-read h.own)
      ∙ digest-step message h (hash_algo naming read h.own)

  hashed-step : (message : List ℕ) (h : NodeOf Content) (b : Bool)
      → (if b then with_digest_by naming (λ value. value) (λ value. value) message (node_in_full files h) else node_in_full files h)
      ≡ node_in_full files (if b then with_digest_by naming read bytes message h else h)
  hashed-step message h true = digest-read message h
  hashed-step message h false = refl

  pub hashed-read : (message : List ℕ) (h : NodeOf Content) → hashed naming message (node_in_full files h) ≡ node_in_full files (hashed_by naming read bytes message h)
  hashed-read message h = hashed-step message h (is_hash h.name)

  -- nodes, each by a function
  pub each-read : (f : NodeOf Content → NodeOf Content) (g : NodeOf (List ℕ) → NodeOf (List ℕ)) → ((n : NodeOf Content) → g (node_in_full files n) ≡ node_in_full files (f n))
      → (t : Unread) → each g (with_values read t) ≡ with_values read (each f t)
  unfolding each with_values
  each-read f g same no_node = refl
  each-read f g same (a_node name own below after) =
      let n : NodeOf Content = record { name = name; own = own; below = below } in
      ap (λ (m : NodeOf (List ℕ)). a_node m.name m.own m.below (each g (with_values read after))) (same n)
      ∙ ap (λ (u : Nodes). a_node (f n).name (reads (f n).own) (with_values read (f n).below) u) (each-read f g same after)

  -- an image
  below-step : (image : NodeOf Content) (o : Option Content)
      → option_map_or (λ (payload : List ℕ). each (hashed naming payload) (with_values read image.below)) (option_map read o) (with_values read image.below)
      ≡ with_values read (option_map_or (λ c. each (hashed_by naming read bytes (read c)) image.below) o image.below)
  below-step image None = refl
  below-step image (Some c) = each-read (hashed_by naming read bytes (read c)) (hashed naming (read c)) (hashed-read (read c)) image.below

  pub image-read : (image : NodeOf Content) → filled_image naming (node_in_full files image) ≡ node_in_full files (filled_image_by naming read bytes image)
  image-read image =
      ap (λ (l : List Named). record (node_in_full files image) {
        own = l;
        below = option_map_or (λ (payload : List ℕ). each (hashed naming payload) (with_values read image.below)) (first (reads image.own) (codes "data")) (with_values read image.below);
      }) (without-read image.own)
      ∙ ap (λ (u : Nodes). record (node_in_full files image) { own = reads (without_external image.own); below = u })
      (ap (λ (o : Option (List ℕ)). option_map_or (λ (payload : List ℕ). each (hashed naming payload) (with_values read image.below)) o (with_values read image.below)) (first-with read image.own (codes "data"))
      ∙ below-step image (first image.own (codes "data")))

  -- the images of a tree
  in-step : (b : Bool) (name : List ℕ) (own : List (NamedOf Content)) (below after changed more : Unread) (there rest : Nodes) → there ≡ with_values read changed → rest ≡ with_values read more
      → (if b then a_node name (reads own) there (with_values read after) else a_node name (reads own) (with_values read below) rest)
      ≡ with_values read (if b then a_node name own changed after else a_node name own below more)
  unfolding with_values
  in-step true name own below after changed more there rest h k = ap (λ (u : Nodes). a_node name (reads own) u (with_values read after)) h
  in-step false name own below after changed more there rest h k = ap (λ (u : Nodes). a_node name (reads own) (with_values read below) u) k

  in-read : (key : List ℕ) (f : Unread → Unread) (g : Nodes → Nodes) → ((t : Unread) → g (with_values read t) ≡ with_values read (f t))
      → (t : Unread) → in_first key g (with_values read t) ≡ with_values read (in_first key f t)
  unfolding in_first with_values
  in-read key f g same no_node = refl
  in-read key f g same (a_node name own below after) =
      in-step (bytes_eq key name) name own below after (f below) (in_first key f after) (g (with_values read below)) (in_first key g (with_values read after))
      (same below) (in-read key f g same after)

  images-read : (t : Unread) → with_images (each (filled_image naming)) (with_values read t) ≡ with_values read (with_images (each (filled_image_by naming read bytes)) t)
  unfolding with_values
  images-read no_node = refl
  images-read (a_node name own below after) =
      ap (λ (u : Nodes). a_node name (reads own) u (with_values read after))
      (in-read (codes "images") (each (filled_image_by naming read bytes)) (each (filled_image naming)) (each-read (filled_image_by naming read bytes) (filled_image naming) image-read) below)

  root-read : (key value : List ℕ) (t : Unread) → with_root key value (with_values read t) ≡ with_values read (with_root key (bytes value) t)
  unfolding with_values
  root-read key value no_node = refl
  root-read key value (a_node name own below after) =
      ap (λ (l : List Named). a_node name l (with_values read below) (with_values read after)) (with-read key value own)

  pub filled-read : (time : ℕ) (t : Unread) → filled naming time (with_values read t) ≡ with_values read (filled_unread naming files time t)
  filled-read time t =
      ap (λ (u : Nodes). with_root (codes "timestamp") (word time) u) (images-read t)
      ∙ root-read (codes "timestamp") (word time) (with_images (each (filled_image_by naming read bytes)) t)
