-- The payloads of images, one at a time, and why there are none.
use Rattle.std.proofs.Common.{◌≡◌, ◌≤◌, ◌<◌, ℕ, ◌+◌, ◌*◌, List, ◌∷◌, length, map, drop, get_or, false, Option, Some, None, Result, Ok, Err, OnOk, IfErr, IsTrue, le_refl, ◌∙◌, ap, sym, subst, arith}
use Rattle.std.proofs.{lemmas.List.{drop_more, length-map}, Math.ListN.drop_of_length-le}
use Rattle.uimg_base.specs.{Device.{Device, RisesIf}, Using.{Asks, UsesAtMost}}
use Rattle.uimg_fit_checking.specs.declared.surveying.facts.Survey.{Survey}
use Rattle.uimg_fit_checking.specs.declared.surveying.fault.SurveyFault.{SurveyFault}
use Rattle.uimg_fit_checking.specs.Survey.{survey_of}
use Rattle.uimg_fit_checking.specs.SurveyParts.{is_unread, Surveys}
use Rattle.uimg_map.specs.Images.{AreImages, ImageTold, read_image, told_of}
use Rattle.uimg_map.specs.declared.images.{Image.Image, Images.Images}
use Rattle.uimg_map.specs.declared.{contents.Contents.Contents, fault.MapFault.MapFault}
use Rattle.uimg_map.specs.{Contents.{GrowsBy, Gathers}, Faults.{is_read, stops}, Work.{image_count, images_work}}
use Rattle.uimg_map.specs.{declared.fdt_header.FdtHeader.FdtHeader, FdtHeader.fdt_header_of}
use Rattle.uimg_map.specs.Reservations.{EndsBlock, block_end}
use Rattle.uimg_map.specs.FitContents.{header_and_blocks, blocks_told, image_told, images_told, survey_told}
use Rattle.uimg_map.proofs.ContentsLaws.{grows_none, grows_then, reads_then, reads_and_grows, gathers_as, at_most}
use Rattle.uimg_map.proofs.ReservationsLaws.{end_is}

-- what a loop takes where there is no image
abbrev pub no_image : Image
no_image = record {
  name = record { place = 0; length = 0 };
  payload = record { embedded = None; size = None; offset = None; position = None };
  covered = None;
}

module _ (file : List ℕ) (size totalsize : ℕ) (images : List Image) (i : ℕ) where
  pub image_then : (a b c : Contents) → i < length images → GrowsBy file (image_told size totalsize (read_image file (get_or images i no_image))) a b → GrowsBy file (images_told size totalsize (map (read_image file) (drop (i + 1) images))) b c → GrowsBy file (images_told size totalsize (map (read_image file) (drop i images))) a c
  image_then a b c there p q = subst (λ (xs : List Image). GrowsBy file (images_told size totalsize (map (read_image file) xs)) a c) (sym (drop_more images i no_image there)) (grows_then p q)

  pub images_end : (a : Contents) → length images ≤ i → GrowsBy file (images_told size totalsize (map (read_image file) (drop i images))) a a
  images_end a h = subst (λ (xs : List Image). GrowsBy file (images_told size totalsize (map (read_image file) xs)) a a) (sym (drop_of_length-le images h)) (grows_none file a)

-- the images of a file, and then their payloads
module _ {Y : Type 0} {r : Result Y MapFault} {d e f : Device} {a b : Contents} where
  pub images_then : (found : Images) → UsesAtMost (images_work d.bytes) false d e → (IsTrue d.honest → AreImages d.bytes found)
      → Gathers (λ _. 12 * length found.images.items) (λ file. images_told (length file) found.totalsize (map (read_image file) found.images.items)) r e f a b
      → Gathers (λ file. images_work file + 12 * image_count (survey_of file)) (λ file. survey_told file (survey_of file)) r d f a b
  images_then found p are q =
      gathers_as
      (λ h.
      let it = are h in
      omega (arith, ap (λ (l : List ImageTold). length l) it.images, length-map found.images.items (read_image d.bytes), length-map it.said.images (told_of d.bytes), ap image_count it.is))
      (λ h.
      let it = are h in
      ap (images_told (length d.bytes) found.totalsize) it.images
      ∙ ap (λ (n : ℕ). images_told (length d.bytes) n (map (told_of d.bytes) it.said.images)) it.totalsize
      ∙ sym (ap (survey_told d.bytes) it.is))
      (reads_then images_work p q)

-- why there are no payloads
module _ {X : Type 0} {r : Result X MapFault} {d e : Device} {a b : Contents} where
  pub refused_by : (fault : SurveyFault) → UsesAtMost (images_work d.bytes) (is_unread {X = Survey} (Err fault)) d e → (IsTrue d.honest → Surveys d.bytes (Err fault)) → a.size ≡ length d.bytes
      → b.size ≡ a.size → is_read r ≡ is_unread {X = Survey} (Err fault)
      → ((file : List ℕ) → Surveys file (Err fault) → OnOk r (GrowsBy file (survey_told file (survey_of file)) a b))
      → ((file : List ℕ) → Surveys file (Err fault) → IfErr r (λ fault. IsTrue (stops fault)))
      → Gathers (λ file. images_work file + 12 * image_count (survey_of file)) (λ file. survey_told file (survey_of file)) r d e a b
  refused_by fault p told is size read grows stopped = record {
    uses = record {
      same = p.same;
      asked = λ h. let first = p.asked h in omega (arith, first);
      failures = subst (λ failed. RisesIf failed d.failures e.failures) (sym read) p.failures;
    };
    size = size;
    grows = λ h. grows d.bytes (told h);
    stops = λ h. stopped d.bytes (told h);
  }

-- the numbers of a header, the end of its reservation block, and the blocks
module _ {X : Type 0} {x : X} {d e f : Device} {a b : Contents} where
  pub blocks_then : (n : FdtHeader) (end : Option ℕ) → Asks 40 false d e → Asks (length e.bytes) false e f → (IsTrue d.honest → Some n ≡ fdt_header_of d.bytes)
      → (IsTrue e.honest → EndsBlock e.bytes n.off_mem_rsvmap end) → a.size ≡ length d.bytes
      → ((file : List ℕ) → GrowsBy file (header_and_blocks n end a.size) a b) → Gathers (λ file. 40 + length file) (λ file. blocks_told file (fdt_header_of file)) (Ok x) d f a b
  blocks_then n end p q are ends is grows =
      let named_at : IsTrue d.honest → header_and_blocks n end a.size ≡ blocks_told d.bytes (fdt_header_of d.bytes) = λ h.
      let there : EndsBlock d.bytes n.off_mem_rsvmap end = subst (λ (file : List ℕ). EndsBlock file n.off_mem_rsvmap end) p.same.bytes (ends (subst IsTrue (sym p.same.honest) h)) in
      ap (λ (k : Option ℕ). header_and_blocks n k a.size) (end_is d.bytes n.off_mem_rsvmap end there)
      ∙ ap (λ (k : ℕ). header_and_blocks n (block_end d.bytes n.off_mem_rsvmap) k) is
      ∙ ap (λ (found : Option FdtHeader). blocks_told d.bytes found) (are h) in
      gathers_as (λ h. le_refl _) named_at
      (reads_then (λ _. 40) (at_most p) (reads_and_grows {v = λ file. length file} {n = λ _. header_and_blocks n end a.size} (at_most q) grows))
