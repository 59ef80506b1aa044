-- Where only `data` is in files, what filling decides is in memory.
use Rattle.std.proofs.Common.{◌≡◌, ℕ, List, [], ◌∷◌, find, Option, Some, None, Bool, true, false, cond, if◌then◌else◌, refl, ap, sym, ◌∙◌, codes}
use Rattle.std.specs.{List.AllByRecursion, Option.{option_map, option_map_or, option_and_then}}
use Rattle.std.specs.Str.{bytes_eq}
use Rattle.uimg_texts.specs.declared.naming.Naming.{Naming}
use Rattle.uimg_sums.specs.{declared.algo.Algo.Algo, Algorithms.digest_by}
use Rattle.uimg_texts.specs.Nul.{text}
use Rattle.uimg_blob_reading.specs.{Roles.is_hash, Plain.{NamedOf, no_node, a_node}}
use Rattle.uimg_blob_reading.specs.LookUps.{NodeOf, first}
use Rattle.uimg_blob_writing.specs.Content.{Content, Unread, bytes, file, content_bytes, StandsAtData, FilesAtData}
use Rattle.uimg_fit_base.specs.AlgoNames.{algo_by}
use Rattle.uimg_fit_building.specs.Filling.{with, without_external, each, hash_algo, hashed_by, filled_image_by}
use Rattle.uimg_fit_building.specs.{ImageFillings.{hashed_in, filled_over}, PayloadSums.in_memory}

module _ (naming : Naming) (files : List ℕ → Option (List ℕ)) where
  abbrev read : Content → List ℕ
  read = content_bytes files

  abbrev via : (Content → List ℕ) → Option (NamedOf Content) → Option Algo
  via f o = option_and_then (λ c. algo_by naming (text (f c))) (option_map (λ (p : NamedOf Content). p.value) o)

  value-same : (name : List ℕ) (c : Content) → bytes_eq (codes "algo") name ≡ true → StandsAtData name c → in_memory c ≡ read c
  value-same name (bytes b) is at = refl
  value-same name (file n size) is at =
      absurd (let clash : false ≡ true = sym (ap (λ (w : List ℕ). bytes_eq (codes "algo") w) at) ∙ is in cc)

  algo-step : (b : Bool) (p : NamedOf Content) (found : Option (NamedOf Content)) → b ≡ bytes_eq (codes "algo") p.name → StandsAtData p.name p.value
      → via in_memory found ≡ via read found → via in_memory (cond b (Some p) found) ≡ via read (cond b (Some p) found)
  algo-step true p found e at h = ap (λ (w : List ℕ). algo_by naming (text w)) (value-same p.name p.value (sym e) at)
  algo-step false p found e at h = h

  pub algo-same : (own : List (NamedOf Content)) → AllByRecursion (λ p. StandsAtData p.name p.value) own → hash_algo naming in_memory own ≡ hash_algo naming read own
  algo-same [] at = refl
  algo-same (p ∷ own) at = algo-step (bytes_eq (codes "algo") p.name) p (find (λ q. bytes_eq (codes "algo") q.name) own) refl at.0 (algo-same own at.1)

  -- a child of an image, and an image
  hashed-step : (message : List ℕ) (h : NodeOf Content) (o q : Option Algo) → o ≡ q → (b : Bool)
      → (if b then option_map_or (λ algo. record h { own = with (codes "value") (bytes (digest_by algo message)) h.own }) o h else h)
      ≡ (if b then option_map_or (λ algo. record h { own = with (codes "value") (bytes (digest_by algo message)) h.own }) q h else h)
  hashed-step message h o q e b =
      ap (λ (a : Option Algo). if b then option_map_or (λ algo. record h { own = with (codes "value") (bytes (digest_by algo message)) h.own }) a h else h) e

  pub hashed-same : (message : List ℕ) (h : NodeOf Content) → AllByRecursion (λ p. StandsAtData p.name p.value) h.own → hashed_in naming message h ≡ hashed_by naming read bytes message h
  hashed-same message h at = hashed-step message h (hash_algo naming in_memory h.own) (hash_algo naming read h.own) (algo-same h.own at) (is_hash h.name)

  pub each-same : (message : List ℕ) (t : Unread) → FilesAtData t → each (hashed_in naming message) t ≡ each (hashed_by naming read bytes message) t
  unfolding each
  each-same message no_node at = refl
  each-same message (a_node name own below after) at =
      let h : NodeOf Content = record { name = name; own = own; below = below } in
      ap (λ (n : NodeOf Content). a_node n.name n.own n.below (each (hashed_in naming message) after)) (hashed-same message h at.0)
      ∙ ap (λ (u : Unread). a_node (hashed_by naming read bytes message h).name (hashed_by naming read bytes message h).own (hashed_by naming read bytes message h).below u) (each-same message after at.2)

  payload-step : (o : Option Content) (below : Unread) → FilesAtData below
      → option_map_or (λ c. each (hashed_in naming (read c)) below) o below ≡ option_map_or (λ c. each (hashed_by naming read bytes (read c)) below) o below
  payload-step None below at = refl
  payload-step (Some c) below at = each-same (read c) below at

  pub image-same : (image : NodeOf Content) → FilesAtData image.below → filled_over naming files image ≡ filled_image_by naming read bytes image
  image-same image at =
      ap (λ (t : Unread). let n : NodeOf Content = record { name = image.name; own = without_external image.own; below = t } in n)
      (payload-step (first image.own (codes "data")) image.below at)
