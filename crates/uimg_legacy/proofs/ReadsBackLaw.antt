-- What is built reads back: the report, the listing, and each part.
use Rattle.std.proofs.Common.{◌≡◌, ◌≤◌, ◌<◌, ℕ, zero, suc, ◌+◌, List, [], ◌∷◌, ◌++◌, length, map, get_or, Bool, true, false, nat_lt, ◌==◌, ◌&&◌, if◌then◌else◌, Result, Ok, Err, length-append, ◌∙◌, ap, sym, refl, arith}
use Rattle.std.proofs.lemmas.Bool.{le-ltb, ltb-false, eq-eqb}
use Rattle.std.proofs.lemmas.List.{take_all, take_at, drop_at, length-map}
use Rattle.uimg_base.specs.{Outcome.done, Results.◌>>=◌}
use Rattle.uimg_sums.specs.Crc.{crc}
use Rattle.uimg_legacy.specs.declared.{header.Header.Header, options.Options.Options}
use Rattle.uimg_legacy.specs.{declared.fault.LegacyFault.LegacyFault, Parts.{has_parts, is_outside}}
use Rattle.uimg_legacy.specs.declared.fault.LegacyFault.TheVariants.{EmptyPart, TooLarge}
use Rattle.uimg_legacy.specs.Header.{head, has_right_crc, fields, header_with, header, spelled}
use Rattle.uimg_legacy.specs.{Image.{payload, has_right_data, legacy}, Report.verify_of}
use Rattle.uimg_legacy.specs.{Listing.{part_lines, tail_with}, Extraction.{single, part_of_data}}
use Rattle.uimg_legacy.specs.ReadsBack.{right_report, ReadsBack}
use Rattle.uimg_legacy.specs.Building.{joined, size_table, data_of, header_for, legacy_image, has_empty, data_to_build}
use Rattle.uimg_legacy.proofs.{TableLaws.parts-table, PlacedPartsLaws.{part_inside, part-slice}}

-- the head of 64 bytes is that of an image that begins with them
pub head-append : (bytes rest : List ℕ) → length bytes ≡ 64 → head (bytes ++ rest) ≡ head bytes
unfolding head
head-append bytes rest len =
    let all = length-append bytes rest in
    let long : nat_lt (length (bytes ++ rest)) 64 ≡ false = le-ltb _ _ (omega (arith, all)) in
    let few : nat_lt (length bytes) 64 ≡ false = le-ltb _ _ (omega arith) in
    rw (long, few, take_at bytes rest 64 len, take_all 64 bytes (omega arith)) refl

-- a header that is read has a head whose CRC is right
with_cases : (bytes : List ℕ) (right : Bool) (h : Header) → header_with bytes right ≡ Ok h → (right ≡ true) × (fields bytes ≡ h)
with_cases bytes true h e = (refl, cc)
with_cases bytes false h e = absurd (cc)

-- the header of a head, or its fault
abbrev pub header_from : Result (List ℕ) LegacyFault → Result Header LegacyFault
header_from found = do
  bytes ← found
  header_with bytes (has_right_crc bytes)

from_cases : (found : Result (List ℕ) LegacyFault) (h : Header) → header_from found ≡ Ok h → (bytes : List ℕ) × (found ≡ Ok bytes) × (has_right_crc bytes ≡ true) × (fields bytes ≡ h)
from_cases (Ok bytes) h e = let f = with_cases bytes (has_right_crc bytes) h e in (bytes, refl, f.0, f.1)
from_cases (Err fault) h e = absurd (cc)

-- the parts that are built: no part is empty, and the data are not too many
data_cases : (empty large : Bool) (body made : List ℕ) → (if empty then Err EmptyPart else if large then Err TooLarge else Ok body) ≡ Ok made → (empty ≡ false) × (large ≡ false) × (body ≡ made)
data_cases true large body made e = absurd (cc)
data_cases false true body made e = absurd (cc)
data_cases false false body made e = (refl, refl, cc)

data-ok : (kind : ℕ) (ps : List (List ℕ)) (made : List ℕ) → data_to_build kind ps ≡ Ok made → ((has_parts kind && has_empty ps) ≡ false) × (length made ≤ 4294967295) × (data_of (has_parts kind) ps ≡ made)
unfolding data_to_build
data-ok kind ps made e =
    let f = data_cases (has_parts kind && has_empty ps) (nat_lt 4294967295 (length (data_of (has_parts kind) ps))) (data_of (has_parts kind) ps) made e in
    let small = ltb-false _ _ f.1 in
    (f.0, rw f.2 at small, f.2)

-- an image whose header is that of its data
module _ (h : Header) (body : List ℕ) (read : header (spelled h) ≡ Ok h) (len : length (spelled h) ≡ 64) (size : h.size ≡ length body) (sum : h.dcrc ≡ crc body) where
  header-image : header (spelled h ++ body) ≡ Ok h
  header-image = ap (λ (r : Result (List ℕ) LegacyFault). header_from r) (head-append (spelled h) body len) ∙ read

  payload-image : payload (spelled h ++ body) h ≡ body
  payload-image = rw (drop_at (spelled h) body 64 len) (take_all h.size body (omega arith))

  data-image : has_right_data (spelled h ++ body) h ≡ Ok true
  unfolding has_right_data
  data-image =
      let all = length-append (spelled h) body in
      let whole : nat_lt (length (spelled h ++ body)) (64 + h.size) ≡ false = le-ltb _ _ (omega (arith, all)) in
      let right : (crc (payload (spelled h ++ body) h) == h.dcrc) ≡ true = eq-eqb _ _ (ap (λ (d : List ℕ). crc d) payload-image ∙ sym sum) in
      rw (whole, right) refl

  legacy-image : legacy (spelled h ++ body) ≡ Ok (record { header = h; payload = body })
  legacy-image = rw (header-image, data-image, payload-image) refl

  verify-image : verify_of (spelled h ++ body) ≡ right_report
  verify-image =
      let f = from_cases (head (spelled h ++ body)) h header-image in
      rw (f.1, f.2, f.3, data-image) refl

-- the lines of parts that end inside the data
lines-done : (body table : List ℕ) (n i : ℕ) → ((k : ℕ) → k < i + n → is_outside body table k ≡ false) → (part_lines body table n i).end ≡ done
unfolding part_lines
lines-done body table zero i inside = refl
lines-done body table (suc n) i inside = rw (inside i (omega arith)) (lines-done body table n (suc i) (λ k h. inside k (omega arith)))

-- the listing's end, and each part, by whether the type has parts
tail-done : (has : Bool) (ps : List (List ℕ)) → (has && has_empty ps) ≡ false → length (data_of has ps) ≤ 4294967295 → (tail_with has (data_of has ps)).end ≡ done
tail-done true ps none small =
    let all = length-append (size_table ps) (joined ps) in
    let table = parts-table ps (joined ps) none (omega (arith, all)) in
    let count = length-map ps length in
    rw table (lines-done (size_table ps ++ joined ps) (map length ps) (length (map length ps)) 0 (λ k h. part_inside ps k (omega (arith, count))))
tail-done false ps none small = refl

sub-slice : (has : Bool) (ps : List (List ℕ)) (i : ℕ) → (has && has_empty ps) ≡ false → length (data_of has ps) ≤ 4294967295 → (has ≡ false → length ps ≡ 1) → i < length ps → part_of_data has (data_of has ps) i ≡ Ok (get_or ps i [])
unfolding single joined
sub-slice true ps i none small one h =
    let all = length-append (size_table ps) (joined ps) in
    let table = parts-table ps (joined ps) none (omega (arith, all)) in
    rw table (part-slice ps i h)
sub-slice false [] i none small one h = absurd (omega arith)
sub-slice false (p ∷ []) zero none small one h = refl
sub-slice false (p ∷ []) (suc i) none small one h = absurd (omega arith)
sub-slice false (p ∷ q ∷ more) i none small one h = absurd (let e = one refl in omega (arith, e))

-- what is built reads back
pub reads_back : (options : Options) (parts : List (List ℕ)) (payload : List ℕ) → data_to_build options.kind parts ≡ Ok payload → header (spelled (header_for options payload)) ≡ Ok (header_for options payload) → length (spelled (header_for options payload)) ≡ 64 → (has_parts options.kind ≡ false → length parts ≡ 1) → ReadsBack (legacy_image options payload) parts
reads_back options ps body built read len one =
    let h = header_for options body in
    let f = data-ok options.kind ps body built in
    let whole = legacy-image h body read len refl refl in
    let small : length (data_of (has_parts options.kind) ps) ≤ 4294967295 = rw f.2 f.1 in
    record {
      report = verify-image h body read len refl refl;
      listing = λ naming. rw (whole, ← f.2) (tail-done (has_parts options.kind) ps f.0 small);
      extraction = λ i inside. rw (whole, ← f.2, sub-slice (has_parts options.kind) ps i f.0 small one inside) refl;
    }
