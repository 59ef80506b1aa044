-- A header's bytes and its fields, each from the other.
use Rattle.std.proofs.Common.{◌≡◌, ◌≤◌, ◌<◌, ℕ, ◌+◌, ◌-◌, ◌^◌, List, ◌∷◌, ◌++◌, length, take, drop, replicate, min, get_or, Bool, true, false, Ok, Err, nat_lt, ◌==◌, if◌then◌else◌, inl, inr, lit<, append-nil, append_assoc, length-take, length-drop, ◌∙◌, ap, sym, refl, arith, take-append-drop}
use Rattle.std.{specs.Int.{to_be_bytes, w32}, proofs.lemmas.Bool.{cases_lt, eq-eqb, eqb-true}}
use Rattle.std.proofs.lemmas.Nat.{be_bytes_4, from_be_bytes-to_be_bytes_4}
use Rattle.std.proofs.Math.Seq.{take-append-add}
use Rattle.std.proofs.lemmas.List.{take_all, take-append-le, take-replicate, drop-replicate, drop-drop, get_or-take, get_or-drop, drop_more, get_or_past}
use Rattle.uimg_texts.specs.{Slices.slice, Numbers.be32}
use Rattle.uimg_base.proofs.Slices.{length-slice}
use Rattle.uimg_sums.{specs.Crc.crc, proofs.CrcLaw.crc_fits}
use Rattle.uimg_legacy.specs.declared.header.Header.{Header}
use Rattle.uimg_legacy.specs.declared.fault.LegacyFault.TheVariants.{TooShort, BadMagic}
use Rattle.uimg_legacy.specs.Header.{magic, head, has_right_crc, without_crc, fields, header, spelled_with, spelled, padded_name}

-- a part of a list, and what stands after it
pub slice-drop : (xs : List ℕ) (at n : ℕ) → drop at xs ≡ slice xs at n ++ drop (at + n) xs
slice-drop xs at n = sym (take-append-drop n (drop at xs)) ∙ ap (λ (w : List ℕ). slice xs at n ++ w) (drop-drop n at xs)

-- the bytes of a part are bytes
small_part : (bytes : List ℕ) (at n : ℕ) → ((i : ℕ) → get_or bytes i 0 < 256) → (i : ℕ) → get_or (slice bytes at n) i 0 < 256
small_part bytes at n small i = elim (cases_lt i n) [ inl h ↦ rw (get_or-take n (drop at bytes) i 0 h, get_or-drop at bytes i 0) (small (at + i)) | inr h ↦ rw (get_or_past (slice bytes at n) i 0 (simp length-take (omega arith))) (lit< tt) ]

-- the four bytes of a number that was read
pub bytes-be32 : (bytes : List ℕ) (at : ℕ) → at + 4 ≤ length bytes → ((i : ℕ) → get_or bytes i 0 < 256) → to_be_bytes w32 (be32 bytes at) ≡ slice bytes at 4
unfolding be32
bytes-be32 bytes at h small = be_bytes_4 (slice bytes at 4) (be32 bytes at) (length-slice bytes at 4 h) (small_part bytes at 4 small) refl

-- what stands behind the header's CRC, field by field
rest_parts : (bytes : List ℕ) → length bytes ≡ 64 → drop 8 bytes ≡ slice bytes 8 4 ++ (slice bytes 12 4 ++ (slice bytes 16 4 ++ (slice bytes 20 4 ++ (slice bytes 24 4 ++ (get_or bytes 28 0 ∷ get_or bytes 29 0 ∷ get_or bytes 30 0 ∷ get_or bytes 31 0 ∷ slice bytes 32 32)))))
rest_parts bytes len =
    let e28 : drop 28 bytes ≡ get_or bytes 28 0 ∷ drop 29 bytes = drop_more bytes 28 0 (omega arith) in
    let e29 : drop 29 bytes ≡ get_or bytes 29 0 ∷ drop 30 bytes = drop_more bytes 29 0 (omega arith) in
    let e30 : drop 30 bytes ≡ get_or bytes 30 0 ∷ drop 31 bytes = drop_more bytes 30 0 (omega arith) in
    let e31 : drop 31 bytes ≡ get_or bytes 31 0 ∷ drop 32 bytes = drop_more bytes 31 0 (omega arith) in
    let e32 : slice bytes 32 32 ≡ drop 32 bytes = take_all 32 (drop 32 bytes) (simp length-drop (omega arith)) in
    let e8 : drop 8 bytes ≡ slice bytes 8 4 ++ drop 12 bytes = slice-drop bytes 8 4 in
    let e12 : drop 12 bytes ≡ slice bytes 12 4 ++ drop 16 bytes = slice-drop bytes 12 4 in
    let e16 : drop 16 bytes ≡ slice bytes 16 4 ++ drop 20 bytes = slice-drop bytes 16 4 in
    let e20 : drop 20 bytes ≡ slice bytes 20 4 ++ drop 24 bytes = slice-drop bytes 20 4 in
    let e24 : drop 24 bytes ≡ slice bytes 24 4 ++ drop 28 bytes = slice-drop bytes 24 4 in
    cc

-- the same pieces, joined from the left
join_left : (m s a b c d e rest m' a' b' c' d' e' : List ℕ) → m ≡ m' → a ≡ a' → b ≡ b' → c ≡ c' → d ≡ d' → e ≡ e' → m ++ s ++ a ++ b ++ c ++ d ++ e ++ rest ≡ m' ++ (s ++ (a' ++ (b' ++ (c' ++ (d' ++ (e' ++ rest))))))
join_left m s a b c d e rest m' a' b' c' d' e' pm pa pb pc pd pe =
    let same : m ++ s ++ a ++ b ++ c ++ d ++ e ++ rest ≡ m' ++ s ++ a' ++ b' ++ c' ++ d' ++ e' ++ rest = cc in
    same ∙ simp append_assoc

-- a header's bytes from its fields, but for its CRC
pub spelled_with-fields : (sum : ℕ) (bytes : List ℕ) → length bytes ≡ 64 → ((i : ℕ) → get_or bytes i 0 < 256) → be32 bytes 0 ≡ magic → spelled_with sum (fields bytes) ≡ take 4 bytes ++ (to_be_bytes w32 sum ++ drop 8 bytes)
unfolding spelled_with
spelled_with-fields sum bytes len small m =
    let here : to_be_bytes w32 magic ≡ take 4 bytes = ap (λ (n : ℕ). to_be_bytes w32 n) (sym m) ∙ bytes-be32 bytes 0 (omega arith) small in
    join_left _ (to_be_bytes w32 sum) _ _ _ _ _ _ _ _ _ _ _ _ here
    (bytes-be32 bytes 8 (omega arith) small) (bytes-be32 bytes 12 (omega arith) small) (bytes-be32 bytes 16 (omega arith) small)
    (bytes-be32 bytes 20 (omega arith) small) (bytes-be32 bytes 24 (omega arith) small)
    ∙ ap (λ (w : List ℕ). take 4 bytes ++ (to_be_bytes w32 sum ++ w)) (sym (rest_parts bytes len))

-- the bytes of a header whose CRC is right are the spelling of its fields
pub spelled-fields : (bytes : List ℕ) → length bytes ≡ 64 → ((i : ℕ) → get_or bytes i 0 < 256) → be32 bytes 0 ≡ magic → has_right_crc bytes ≡ true → spelled (fields bytes) ≡ bytes
unfolding has_right_crc
spelled-fields bytes len small m right =
    let cleared : spelled_with 0 (fields bytes) ≡ without_crc bytes = spelled_with-fields 0 bytes len small m in
    let sum : be32 bytes 4 ≡ crc (without_crc bytes) = eqb-true _ _ right in
    let e4 : drop 4 bytes ≡ slice bytes 4 4 ++ drop 8 bytes = slice-drop bytes 4 4 in
    ap (λ (w : List ℕ). spelled_with (crc w) (fields bytes)) cleared
    ∙ ap (λ (n : ℕ). spelled_with n (fields bytes)) (sym sum)
    ∙ spelled_with-fields (be32 bytes 4) bytes len small m
    ∙ ap (λ (w : List ℕ). take 4 bytes ++ (w ++ drop 8 bytes)) (bytes-be32 bytes 4 (omega arith) small)
    ∙ ap (λ (w : List ℕ). take 4 bytes ++ w) (sym e4)
    ∙ take-append-drop 4 bytes

made : ℕ → ℕ → ℕ → ℕ → ℕ → ℕ → ℕ → ℕ → ℕ → List ℕ → Header
made time size load ep dcrc os arch kind comp name = record { time = time; size = size; load = load; ep = ep; dcrc = dcrc; os = os; arch = arch; kind = kind; comp = comp; name = name }

made_same : (time size load ep dcrc os arch kind comp time' size' load' ep' dcrc' : ℕ) (name name' : List ℕ) → time ≡ time' → size ≡ size' → load ≡ load' → ep ≡ ep' → dcrc ≡ dcrc' → name ≡ name' → made time size load ep dcrc os arch kind comp name ≡ made time' size' load' ep' dcrc' os arch kind comp name'
made_same time size load ep dcrc os arch kind comp time' size' load' ep' dcrc' name name' a b c d e f = cc

-- a header's fields from its bytes
pub fields-spelled : (sum : ℕ) (h : Header) → h.time < 2 ^ 32 → h.size < 2 ^ 32 → h.load < 2 ^ 32 → h.ep < 2 ^ 32 → h.dcrc < 2 ^ 32 → length h.name ≡ 32 → fields (spelled_with sum h) ≡ h
unfolding be32 spelled_with made
fields-spelled sum h time size load ep dcrc name =
    made_same _ _ _ _ _ h.os h.arch h.kind h.comp _ _ _ _ _ _ _
    (from_be_bytes-to_be_bytes_4 h.time time) (from_be_bytes-to_be_bytes_4 h.size size) (from_be_bytes-to_be_bytes_4 h.load load)
    (from_be_bytes-to_be_bytes_4 h.ep ep) (from_be_bytes-to_be_bytes_4 h.dcrc dcrc) (take_all 32 h.name (omega arith))

pub without_crc-spelled : (sum : ℕ) (h : Header) → without_crc (spelled_with sum h) ≡ spelled_with 0 h
unfolding spelled_with
without_crc-spelled sum h = refl

pub length-spelled : (sum : ℕ) (h : Header) → length h.name ≡ 32 → length (spelled_with sum h) ≡ 64
unfolding spelled_with
length-spelled sum h e = omega arith

pub magic-spelled : (sum : ℕ) (h : Header) → be32 (spelled_with sum h) 0 ≡ magic
unfolding be32 spelled_with
magic-spelled sum h = refl

pub sum-spelled : (sum : ℕ) (h : Header) → sum < 2 ^ 32 → be32 (spelled_with sum h) 4 ≡ sum
unfolding be32 spelled_with
sum-spelled sum h small = from_be_bytes-to_be_bytes_4 sum small

-- the spelling of a header is read as that header
pub header-spelled : (h : Header) (sum : ℕ) → sum ≡ crc (spelled_with 0 h) → fields (spelled_with sum h) ≡ h → length h.name ≡ 32 → header (spelled_with sum h) ≡ Ok h
unfolding head has_right_crc
header-spelled h sum e back name =
    let len : length (spelled_with sum h) ≡ 64 = length-spelled sum h name in
    let fits : sum < 2 ^ 32 = rw e (crc_fits (spelled_with 0 h)) in
    let whole : take 64 (spelled_with sum h) ≡ spelled_with sum h = take_all 64 (spelled_with sum h) (omega arith) in
    let first : head (spelled_with sum h) ≡ Ok (spelled_with sum h) = rw (len, whole, magic-spelled sum h) refl in
    let right : has_right_crc (spelled_with sum h) ≡ true = rw (sum-spelled sum h fits, without_crc-spelled sum h) (eq-eqb sum _ e) in
    rw (first, right, back) refl

-- the head of an image is its first 64 bytes, and they begin with the magic number
head_cases : (short right : Bool) (image bytes : List ℕ) → (if short then Err TooShort else if right then Ok (take 64 image) else Err BadMagic) ≡ Ok bytes → (bytes ≡ take 64 image) × (right ≡ true)
head_cases true right image bytes e = absurd (cc)
head_cases false true image bytes e = (cc, refl)
head_cases false false image bytes e = absurd (cc)

pub head-ok : (image bytes : List ℕ) → head image ≡ Ok bytes → (bytes ≡ take 64 image) × (be32 bytes 0 ≡ magic)
unfolding head
head-ok image bytes e =
    let both = head_cases (nat_lt (length image) 64) (be32 (take 64 image) 0 == magic) image bytes e in
    (both.0, rw both.0 (eqb-true _ _ both.1))

-- a short name before what is left of the zeros
name_padded : (name field : List ℕ) (n : ℕ) → n ≡ length name → n ≤ 32 → field ≡ take n name → field ++ drop {A = ℕ} n (replicate 32 0) ≡ padded_name name
name_padded name field n all few cut =
    let zeros : List ℕ = replicate 32 0 in
    let whole : field ≡ name = cut ∙ take_all n name (omega arith) in
    let fill : take (n + (32 - n)) (name ++ zeros) ≡ name ++ take (32 - n) zeros = rw all (take-append-add name zeros (32 - length name)) in
    let count : n + (32 - n) ≡ 32 = omega arith in
    let left : drop n zeros ≡ replicate (32 - n) 0 = drop-replicate n 32 0 in
    let prefix : take (32 - n) zeros ≡ replicate (32 - n) 0 = take-replicate (32 - n) 32 0 (omega arith) in
    rw (whole, left, sym prefix, sym fill, count) refl

-- a cut name before what is left of the zeros
pub name_cut : (name field : List ℕ) (n : ℕ) → n ≡ min (length name) 32 → field ≡ take n name → field ++ drop n (replicate 32 0) ≡ padded_name name
name_cut name field n few cut = elim (cases_lt (length name) 32) [
  | inl short ↦ name_padded name field n (omega arith) (omega arith) cut
  | inr long ↦
      let all : n ≡ 32 = omega arith in
      rw (cut, all, take-append-le 32 name (replicate 32 0) long) (append-nil (take 32 name))
]
