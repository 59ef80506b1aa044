-- Where each image has its payload and its digests, the report is right and each payload is extracted.
use Rattle.std.proofs.Common.{◌≡◌, ℕ, zero, suc, List, [], ◌∷◌, length, map, Option, Some, None, Result, Ok, true, ◌==◌, refl, ap, sym, subst, ◌∙◌, codes}
use Rattle.std.specs.{Bool.⊤, List.{slice_get, AllByRecursion}, Str.bytes_eq}
use Rattle.std.{specs.Option.{option_map, option_and_then}, proofs.lemmas.Bool.eq-eqb}
use Rattle.std.proofs.lemmas.{Option.slice_get-map, Slice.Eq.bytes_eq-Decides}
use Rattle.uimg_texts.specs.declared.naming.Naming.TheVariants.{Profile}
use Rattle.uimg_sums.{specs.declared.algo.Algo.Algo, proofs.DigestSizes.length-digest_by}
use Rattle.uimg_sums.specs.Algorithms.{algo_named, digest_size, digest_by}
use Rattle.uimg_base.specs.{Outcome.{done, told, unless_refused}, Results.◌>>=◌}
use Rattle.uimg_texts.specs.Nul.{text}
use Rattle.uimg_blob_reading.specs.{LookUps.{NodeOf, images, hashes}, Spots.Spot, Plain.Nodes}
use Rattle.uimg_fit_base.specs.{declared.fault.{Fault.Fault, FitFault.FitFault}, Places.payload}
use Rattle.uimg_fit_base.specs.{Files.{images_of, value_bytes}, Extraction.{of_images, payload_of}}
use Rattle.uimg_fit_base.specs.declared.verdicts.Verdict.TheVariants.{Right}
use Rattle.uimg_fit_base.specs.Report.{compared, by_value, by_algo, by_name, word_of, are_right, report}
use Rattle.uimg_fit_building.specs.{Building.data_of, ReadsBack.ReadsBack, Filling.IsDigest}
use Rattle.uimg_fit_building.proofs.LookUpLaws.{node_with, first-with, hashes-with}

-- a node that was read, without its places
abbrev pub plain : NodeOf Spot → NodeOf (List ℕ)
plain n = node_with (λ s. s.bytes) n

-- a digest is right
compared-digest : (algo : Algo) (value message : List ℕ) → value ≡ digest_by algo message → compared algo value message ≡ Right
unfolding compared
compared-digest algo value message e =
    let len : length value ≡ digest_size algo = ap (λ (w : List ℕ). length w) e ∙ length-digest_by algo message in
    let is_size : (length value == digest_size algo) ≡ true = eq-eqb _ _ len in
    let same : bytes_eq value (digest_by algo message) ≡ true = (bytes_eq-Decides value (digest_by algo message)).1 e in
    rw (is_size, same) refl

by_known : (name : Option (List ℕ)) (value : Option (List ℕ)) (message : List ℕ) (algo : Algo) → option_and_then (λ n. algo_named (text n)) name ≡ Some algo → value ≡ Some (digest_by algo message)
    → by_name Profile (option_map text name) value message ≡ Right
by_known None value message algo known is = absurd (cc)
by_known (Some n) value message algo known is =
    ap (λ (a : Option Algo). by_algo a value message) known
    ∙ ap (λ (v : Option (List ℕ)). by_value algo v message) is
    ∙ compared-digest algo (digest_by algo message) message refl

-- the word of a hash node that has the digest
word-right : (message : List ℕ) (h : NodeOf Spot) → IsDigest Profile message (plain h) → word_of message h ≡ Right
word-right message h d =
    let name : option_and_then (λ n. algo_named (text n)) (value_bytes h.own (codes "algo")) ≡ Some d.algo =
    ap (λ (o : Option (List ℕ)). option_and_then (λ n. algo_named (text n)) o) (sym (first-with (λ s. s.bytes) h.own (codes "algo"))) ∙ d.known in
    let value : value_bytes h.own (codes "value") ≡ Some (digest_by d.algo message) = sym (first-with (λ s. s.bytes) h.own (codes "value")) ∙ d.value in
    by_known (value_bytes h.own (codes "algo")) (value_bytes h.own (codes "value")) message d.algo name value

all-right : (message : List ℕ) (hs : List (NodeOf Spot)) → AllByRecursion (IsDigest Profile message) (map plain hs) → are_right message hs ≡ true
all-right message [] d = refl
all-right message (h ∷ hs) d =
    rw (word-right message h d.0, all-right message hs d.1) refl

-- An image's payload is this, and its hash nodes have its digests.
pub record IsSound (file : List ℕ) (image : NodeOf Spot) (message : List ℕ) : Type 0 where
  pub is : payload file image ≡ Ok message
  pub digests : AllByRecursion (IsDigest Profile message) (hashes (plain image))

-- The same of images and payloads, one by one.
abbrev pub AreSound : List ℕ → List (NodeOf Spot) → List (List ℕ) → Type 0
AreSound file [] [] = ⊤
AreSound file [] (m ∷ ms) = ⊥
AreSound file (i ∷ is) [] = ⊥
AreSound file (i ∷ is) (m ∷ ms) = IsSound file i m × AreSound file is ms

image-right : (file : List ℕ) (image : NodeOf Spot) (message : List ℕ) → IsSound file image message → are_right message (hashes image) ≡ true
image-right file image message s =
    let over : AllByRecursion (IsDigest Profile message) (map plain (hashes image)) =
    subst (λ (l : List (NodeOf (List ℕ))). AllByRecursion (IsDigest Profile message) l) (hashes-with (λ s. s.bytes) image) s.digests in
    all-right message (hashes image) over

pub report-done : (file : List ℕ) (is : List (NodeOf Spot)) (ms : List (List ℕ)) → AreSound file is ms → (report file is).end ≡ done
unfolding report
report-done file [] ms h = refl
report-done file (i ∷ is) [] h = absurd h
report-done file (i ∷ is) (m ∷ ms) h =
    rw (h.0.is, image-right file i m h.0, report-done file is ms h.1) refl

pub payload-at : (file : List ℕ) (is : List (NodeOf Spot)) (ms : List (List ℕ)) → AreSound file is ms → (position : ℕ) (message : List ℕ) → slice_get ms position ≡ Some message
    → payload_of file (slice_get is position) ≡ Ok message
payload-at file [] [] h position message at = absurd (cc)
payload-at file [] (m ∷ ms) h position message at = absurd h
payload-at file (i ∷ is) [] h position message at = absurd h
payload-at file (i ∷ is) (m ∷ ms) h zero message at = h.0.is ∙ (let e : m ≡ message = cc in ap (λ (w : List ℕ). Ok w) e)
payload-at file (i ∷ is) (m ∷ ms) h (suc position) message at = payload-at file is ms h.1 position message at

-- a file whose images are sound, with the payloads of a tree, reads back
pub reads_back-sound : (file : List ℕ) (t : Nodes) (is : List (NodeOf Spot)) (found : List (NodeOf (List ℕ))) → images_of file ≡ Ok is → images t ≡ Some found
    → AreSound file is (map (λ i. data_of i.own) found) → ReadsBack file t
reads_back-sound file t is found read are sound =
    let ms = map (λ (i : NodeOf (List ℕ)). data_of i.own) found in
    record {
      report = ap (λ (r : Result (List (NodeOf Spot)) Fault). (unless_refused r (report file)).end) read ∙ report-done file is ms sound;
      extraction = λ position others image are_too at.
          let same : others ≡ found = cc in
          let here : slice_get ms position ≡ Some (data_of image.own) =
          slice_get-map (λ (i : NodeOf (List ℕ)). data_of i.own) found position
          ∙ ap (λ (l : List (NodeOf (List ℕ))). option_map (λ (i : NodeOf (List ℕ)). data_of i.own) (slice_get l position)) (sym same)
          ∙ ap (λ (o : Option (NodeOf (List ℕ))). option_map (λ (i : NodeOf (List ℕ)). data_of i.own) o) at in
          ap (λ (r : Result (List (NodeOf Spot)) Fault). unless_refused (r >>= (λ all. of_images (payload_of file (slice_get all position)))) (λ bytes. told bytes done)) read
          ∙ ap (λ (r : Result (List ℕ) FitFault). unless_refused (of_images r) (λ bytes. told bytes done)) (payload-at file is ms sound position (data_of image.own) here);
    }
