-- The parts that are kept are those that extractions write.
use Rattle.std.proofs.Common.{◌≡◌, ◌≤◌, ◌<◌, ◌+◌, ◌-◌, ◌*◌, ℕ, zero, suc, List, [], ◌∷◌, ◌++◌, length, take, drop, get_or, Bool, true, false, nat_lt, nat_le, ◌==◌, Option, Some, Result, Ok, Err, refl, ap, sym, subst, ◌∙◌, arith}
use Rattle.std.specs.{Prelude.{sum_by, if◌then◌else◌}, List.{AllByRecursion, list_any}}
use Rattle.std.proofs.lemmas.{Bool.{lt-leb, le-ltb, ltb-false}, List.{length-drop, drop-drop}}
use Rattle.std.proofs.lemmas.List.Sums.{sum_by-cons}
use Rattle.uimg_sums.specs.Crc.{crc}
use Rattle.uimg_texts.specs.{Slices.slice, Numbers.up4}
use Rattle.uimg_base.specs.{Outcome.{done, told}, Results.◌>>=◌}
use Rattle.uimg_legacy.specs.declared.{header.Header.Header, fault.LegacyFault.LegacyFault}
use Rattle.uimg_legacy.specs.{declared.fault.Fault.Fault, Words.whole_words, Header.header}
use Rattle.uimg_legacy.specs.Image.{payload, has_right_data}
use Rattle.uimg_legacy.specs.Parts.{has_parts, sizes, part_sizes, start, is_outside}
use Rattle.uimg_legacy.specs.Extraction.{listed_part, single, part_of_data, extract_of}
use Rattle.uimg_legacy.specs.declared.fault.LegacyFault.TheVariants.{NoTableEnd, NoSuchPart, Truncated}
use Rattle.uimg_legacy.specs.Unpacking.{Part, parts_by, parts_in, part_if, is_part_asked, is_there, chosen_parts, kept_if, data_there, unpack_of, UnpacksBetween, ExtractsBetween}
use Rattle.uimg_legacy.proofs.{PartsLaws.{sizes-at, sizes_end}, ChunkLaws.sizes-le-words}
use Rattle.uimg_legacy.proofs.CuttingLaws.{cut_first, positive}

-- there are as many parts as sizes
none_of : (bytes : List ℕ) (parts : List (List ℕ)) → parts_by [] bytes ≡ Ok parts → length parts ≡ 0
unfolding parts_by
none_of bytes [] e = refl
none_of bytes (p ∷ ps) e = absurd (cc)

cut_count : (ws bytes : List ℕ) (parts : List (List ℕ)) → parts_by ws bytes ≡ Ok parts → length parts ≡ length ws
cut_count [] bytes parts e = none_of bytes parts e
cut_count (w ∷ ws) bytes parts e =
    let f = cut_first w ws bytes parts e in
    let rest = cut_count ws (drop (up4 w) bytes) f.1 f.2 in
    ap (λ (ps : List (List ℕ)). length ps) (sym f.3) ∙ omega (arith, rest)

-- where a part was cut
cut_at : (ws bytes : List ℕ) (parts : List (List ℕ)) (i : ℕ) → parts_by ws bytes ≡ Ok parts → i < length ws → 0 < get_or ws i 0 → (sum_by up4 (take i ws) + get_or ws i 0 ≤ length bytes) × (slice bytes (sum_by up4 (take i ws)) (get_or ws i 0) ≡ get_or parts i [])
cut_at [] bytes parts i e h some = absurd (omega (arith, h))
cut_at (w ∷ ws) bytes parts zero e h some =
    let f = cut_first w ws bytes parts e in
    (omega (arith, f.0), ap (λ (ps : List (List ℕ)). get_or ps 0 []) f.3)
cut_at (w ∷ ws) bytes parts (suc i) e h some =
    let f = cut_first w ws bytes parts e in
    let rest = cut_at ws (drop (up4 w) bytes) f.1 i f.2 (omega (arith, h)) some in
    let sum : sum_by up4 (w ∷ take i ws) ≡ up4 w + sum_by up4 (take i ws) = sum_by-cons up4 w (take i ws) in
    let left = length-drop (up4 w) bytes in (
      omega (arith, sum, left, rest.0, some),
      ap (λ (k : ℕ). slice bytes k (get_or ws i 0)) sum ∙ ap (λ (xs : List ℕ). take (get_or ws i 0) xs) (sym (drop-drop (sum_by up4 (take i ws)) (up4 w) bytes)) ∙ rest.1 ∙ ap (λ (ps : List (List ℕ)). get_or ps (suc i) []) f.3,
    )

-- a size is not zero
size_some : (d : List ℕ) (i : ℕ) → i < length (sizes d) → 0 < get_or (sizes d) i 0
size_some d i h = positive _ (λ e.
    let few = sizes-le-words d in
    let word = sizes-at d i h in
    let end = sizes_end d i (omega (arith, h)) (omega (arith, h, few)) (sym word ∙ e) in
    absurd (omega (arith, end, h)))

-- what was found behind something
then_ok : {A B : Type 0} (r : Result A LegacyFault) (f : A → Result B LegacyFault) (y : B) → (r >>= f) ≡ Ok y → (x : A) × (r ≡ Ok x) × (f x ≡ Ok y)
then_ok (Ok x) f y e = (x, refl, e)
then_ok (Err fault) f y e = absurd (cc)

if_ok : {A : Type 0} (b : Bool) (r : Result A LegacyFault) (fault : LegacyFault) (y : A) → (if b then r else Err fault) ≡ Ok y → r ≡ Ok y
if_ok true r fault y e = e
if_ok false r fault y e = absurd (cc)

unless : {A : Type 0} (b : Bool) (r : Result A LegacyFault) (fault : LegacyFault) (y : A) → (if b then Err fault else r) ≡ Ok y → (b ≡ false) × (r ≡ Ok y)
unless true r fault y e = absurd (cc)
unless false r fault y e = (refl, e)

table_is : (d table : List ℕ) → part_sizes d ≡ Ok table → sizes d ≡ table
unfolding part_sizes
table_is d table e = let found = if_ok (list_any (λ w. w == 0) (whole_words d)) (Ok (sizes d)) NoTableEnd table e in cc

-- a part by its position
listed : (d table : List ℕ) (parts : List (List ℕ)) (i : ℕ) → part_sizes d ≡ Ok table → parts_by table (drop (4 * (length table + 1)) d) ≡ Ok parts → i < length table → listed_part d table i ≡ Ok (get_or parts i [])
unfolding listed_part is_outside start
listed d table parts i sized cut h =
    let is = table_is d table sized in
    let some : 0 < get_or table i 0 = subst (λ (ws : List ℕ). 0 < get_or ws i 0) is (size_some d i (subst (λ (ws : List ℕ). i < length ws) (sym is) h)) in
    let base = 4 * (length table + 1) in
    let found = cut_at table (drop base d) parts i cut h some in
    let left = length-drop base d in
    let there : nat_le (length table) i ≡ false = lt-leb _ _ h in
    let ends : nat_lt (length d) (base + sum_by up4 (take i table) + get_or table i 0) ≡ false = le-ltb _ _ (omega (arith, found.0, left, some)) in
    let same : slice d (base + sum_by up4 (take i table)) (get_or table i 0) ≡ get_or parts i [] = ap (λ (xs : List ℕ). take (get_or table i 0) xs) (sym (drop-drop (sum_by up4 (take i table)) base d)) ∙ found.1 in
    rw (there, ends, same) refl

-- the parts of data by their positions
each_in : (only : Option ℕ) (has : Bool) (d : List ℕ) (parts : List (List ℕ)) (i : ℕ) → parts_in only has d ≡ Ok parts → i < length parts → part_of_data has d i ≡ Ok (get_or parts i [])
unfolding single
each_in only true d parts i e h =
    let table = then_ok (part_sizes d) _ parts e in
    let cut = if_ok (is_there only (length table.0)) _ NoSuchPart parts table.2 in
    let count = cut_count table.0 _ parts cut in
    rw table.1 (listed d table.0 parts i table.1 cut (omega (arith, h, count)))
each_in only false d parts i e h =
    let one : d ∷ [] ≡ parts = let found = if_ok (is_there only 1) (Ok (d ∷ [])) NoSuchPart parts e in cc in
    let first : i ≡ 0 = let count = ap (λ (ps : List (List ℕ)). length ps) one in omega (arith, count, h) in
    rw (first, sym one) refl

-- what holds of each part holds of those that are chosen
part_all : (P : Part → Type 0) (b : Bool) (number : ℕ) (bytes : List ℕ) (rest : List Part) → P (record { number = number; bytes = bytes }) → AllByRecursion P rest → AllByRecursion P (part_if b number bytes ++ rest)
part_all P true number bytes rest p all = (p, all)
part_all P false number bytes rest p all = all

chosen_all : (P : Part → Type 0) (only : Option ℕ) (number : ℕ) (parts : List (List ℕ)) → ((i : ℕ) → i < length parts → P (record { number = number + i; bytes = get_or parts i [] })) → AllByRecursion P (chosen_parts only number parts)
unfolding chosen_parts
chosen_all P only number [] each = tt
chosen_all P only number (bytes ∷ more) each =
    let here : number + 0 ≡ number = omega arith in
    let first = subst (λ (n : ℕ). P (record { number = n; bytes = bytes })) here (each 0 (omega arith)) in
    part_all P (is_part_asked only number) number bytes (chosen_parts only (suc number) more) first
    (chosen_all P only (suc number) more (λ i h.
    let next : number + suc i ≡ suc number + i = omega arith in
    subst (λ (n : ℕ). P (record { number = n; bytes = get_or more i [] })) next (each (suc i) (omega (arith, h)))))

-- data that are there
there_ok : (image : List ℕ) (h : Header) (bytes : List ℕ) → data_there image h ≡ Ok bytes → (64 + h.size ≤ length image) × (payload image h ≡ bytes)
unfolding data_there
there_ok image h bytes e =
    let found = unless (nat_lt (length image) (64 + h.size)) (Ok (payload image h)) Truncated bytes e in
    (ltb-false _ _ found.0, let is = found.1 in cc)

abbrev given : Option (List Part) → Result (Option (List Part)) LegacyFault
given found = Ok found

kept_cases : (b : Bool) (all parts : List Part) → given (kept_if b all) ≡ given (Some parts) → (b ≡ true) × (all ≡ parts)
kept_cases true all parts e = (refl, cc)
kept_cases false all parts e = absurd (cc)

-- an extraction of an image whose checksums are right
one_extracted : (image : List ℕ) (h : Header) (i : ℕ) (bytes : List ℕ) → header image ≡ Ok h → 64 + h.size ≤ length image → (crc (payload image h) == h.dcrc) ≡ true → part_of_data (has_parts h.kind) (payload image h) i ≡ Ok bytes → extract_of image i ≡ told bytes done
unfolding has_right_data
one_extracted image h i bytes read inside right part =
    let whole : nat_lt (length image) (64 + h.size) ≡ false = le-ltb _ _ inside in
    rw (read, whole, right, part) refl

-- what is told of an image
pub are_extracted : (only : Option ℕ) (image : List ℕ) (parts : List Part) → unpack_of only image ≡ Ok (Some parts) → AllByRecursion (λ part. extract_of image part.number ≡ told part.bytes done) parts
are_extracted only image parts e =
    let h = then_ok (header image) _ (Some parts) e in
    let d = then_ok (data_there image h.0) _ (Some parts) h.2 in
    let ps = then_ok (parts_in only (has_parts h.0.kind) d.0) _ (Some parts) d.2 in
    let kept = kept_cases (crc d.0 == h.0.dcrc) (chosen_parts only 0 ps.0) parts ps.2 in
    let there = there_ok image h.0 d.0 d.1 in
    let right : (crc (payload image h.0) == h.0.dcrc) ≡ true = ap (λ (xs : List ℕ). crc xs == h.0.dcrc) there.1 ∙ kept.0 in
    let cut : parts_in only (has_parts h.0.kind) (payload image h.0) ≡ Ok ps.0 = ap (λ (xs : List ℕ). parts_in only (has_parts h.0.kind) xs) there.1 ∙ ps.1 in
    subst (λ (all : List Part). AllByRecursion (λ part. extract_of image part.number ≡ told part.bytes done) all) kept.1
    (chosen_all (λ part. extract_of image part.number ≡ told part.bytes done) only 0 ps.0 (λ i inside.
    let same : 0 + i ≡ i = omega arith in
    ap (λ (n : ℕ). extract_of image n) same
    ∙ one_extracted image h.0 i (get_or ps.0 i []) h.1 there.0 right (each_in only (has_parts h.0.kind) (payload image h.0) ps.0 i cut inside)))

-- and of an answer
pub extracts : (only : Option ℕ) (image : List ℕ) (r : Result Bool Fault) (old new : List Part) → UnpacksBetween r (unpack_of only image) old new → ExtractsBetween image r old new
extracts only image (Ok true) old new k = record { parts = k.parts; kept = k.kept; each = are_extracted only image k.parts k.is }
extracts only image (Ok false) old new k = tt
extracts only image (Err fault) old new k = tt
