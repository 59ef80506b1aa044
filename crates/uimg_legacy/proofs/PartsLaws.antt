-- The table of sizes: its words, its end, and where parts start.
use Rattle.std.proofs.Common.{◌≡◌, ◌≢◌, ◌≤◌, ◌<◌, ℕ, zero, suc, ◌+◌, ◌-◌, ◌*◌, ◌^◌, List, [], ◌∷◌, length, take, drop, get_or, Bool, true, false, not, cond, nat_lt, nat_le, ◌==◌, Ok, Err, ◌∙◌, ap, sym, subst, refl, arith, length-take}
use Rattle.std.specs.{Prelude.sum_by, Int.{from_be_bytes, w32}, List.{prefix_len, list_any}}
use Rattle.std.proofs.{lemmas.Bool.{not-false, lt-leb, lt-ltb, le-ltb}, Math.Dec.eqb-suc-zero}
use Rattle.std.proofs.lemmas.{Grind.common_steps, List.Folds.list_any_at}
use Rattle.std.proofs.lemmas.List.{take-take, drop-take, drop-drop, get_or-take, take_more}
use Rattle.std.proofs.lemmas.List.Sums.{prefix_len-le-length, prefix_len_stops, sum_by_push}
use Rattle.uimg_texts.specs.{Slices.slice, Numbers.{be32, up4}}
use Rattle.uimg_base.proofs.Slices.{length-slice}
use Rattle.uimg_legacy.specs.declared.fault.LegacyFault.TheVariants.{NoTableEnd, PartOutside, NoSuchPart}
use Rattle.uimg_legacy.specs.{Words.whole_words, Parts.{sizes, part_sizes, start, is_outside}}
use Rattle.uimg_legacy.specs.Extraction.{listed_part}

-- word i is the number at its place
pub words-at : (d : List ℕ) (i : ℕ) → 4 * i + 4 ≤ length d → get_or (whole_words d) i 0 ≡ be32 d (4 * i)
unfolding whole_words be32
words-at [] i h = absurd (omega arith)
words-at (a ∷ []) i h = absurd (omega arith)
words-at (a ∷ b ∷ []) i h = absurd (omega arith)
words-at (a ∷ b ∷ c ∷ []) i h = absurd (omega arith)
words-at (a ∷ b ∷ c ∷ d ∷ rest) zero h = refl
words-at (a ∷ b ∷ c ∷ d ∷ rest) (suc i) h =
    let e : suc (suc (suc (suc (4 * i)))) ≡ 4 * suc i = omega arith in
    words-at rest i (omega arith) ∙ ap (λ (n : ℕ). be32 (a ∷ b ∷ c ∷ d ∷ rest) n) e

-- there are as many words as fit
pub length-words : (d : List ℕ) → (4 * length (whole_words d) ≤ length d) × (length d < 4 * length (whole_words d) + 4)
unfolding whole_words
length-words [] = (omega arith, omega arith)
length-words (a ∷ []) = (omega arith, omega arith)
length-words (a ∷ b ∷ []) = (omega arith, omega arith)
length-words (a ∷ b ∷ c ∷ []) = (omega arith, omega arith)
length-words (a ∷ b ∷ c ∷ d ∷ rest) = let h = length-words rest in (omega (arith, h.0), omega (arith, h.1))

-- a part of a part
pub slice-slice : (xs : List ℕ) (at n from m : ℕ) → from + m ≤ n → slice (slice xs at n) from m ≡ slice xs (at + from) m
slice-slice xs at n from m h =
    let whole : from + (n - from) ≡ n = omega arith in
    let back : drop from (slice xs at n) ≡ take (n - from) (drop from (drop at xs)) = subst (λ (k : ℕ). drop from (take k (drop at xs)) ≡ take (n - from) (drop from (drop at xs))) whole (drop-take from (n - from) (drop at xs)) in
    ap (λ (w : List ℕ). take m w) back ∙ take-take m (n - from) (drop from (drop at xs)) (omega arith) ∙ ap (λ (w : List ℕ). take m w) (drop-drop from at xs)

-- word i of the data, in the image
pub payload_word : (image : List ℕ) (size i : ℕ) → 64 + size ≤ length image → 4 * i + 4 ≤ size → get_or (whole_words (slice image 64 size)) i 0 ≡ be32 image (64 + 4 * i)
unfolding be32
payload_word image size i inside h =
    words-at (slice image 64 size) i (omega (arith, length-slice image 64 size inside))
    ∙ ap (λ (w : List ℕ). from_be_bytes w32 w) (slice-slice image 64 size (4 * i) 4 (omega arith))

-- a prefix one longer, and a prefix that ends
pub cond_le : (b : Bool) (n i : ℕ) → suc i ≤ cond b (1 + n) 0 → (b ≡ true) × (i ≤ n)
cond_le true n i h = (refl, omega arith)
cond_le false n i h = absurd (omega arith)

prefix_more : (p : ℕ → Bool) (xs : List ℕ) (i : ℕ) → i ≤ prefix_len p xs → i < length xs → p (get_or xs i 0) ≡ true → suc i ≤ prefix_len p xs
prefix_more p [] i h l e = absurd (omega arith)
prefix_more p (x ∷ xs) zero h l e = rw e (omega arith)
prefix_more p (x ∷ xs) (suc i) h l e =
    let f = cond_le (p x) (prefix_len p xs) i h in
    let more : suc i ≤ prefix_len p xs = prefix_more p xs i f.1 (omega arith) e in
    rw f.0 (omega arith)

prefix_end : (p : ℕ → Bool) (xs : List ℕ) (i : ℕ) → i ≤ prefix_len p xs → i < length xs → p (get_or xs i 0) ≡ false → prefix_len p xs ≡ i
prefix_end p [] i h l e = absurd (omega arith)
prefix_end p (x ∷ xs) zero h l e = rw e refl
prefix_end p (x ∷ xs) (suc i) h l e =
    let f = cond_le (p x) (prefix_len p xs) i h in
    let same : prefix_len p xs ≡ i = prefix_end p xs i f.1 (omega arith) e in
    rw f.0 (omega arith)

-- no word is zero
not_cond_le : (b : Bool) (n i : ℕ) → suc i ≤ cond (not b) (1 + n) 0 → (b ≡ false) × (i ≤ n)
not_cond_le true n i h = absurd (omega arith)
not_cond_le false n i h = (refl, omega arith)

any_none : (p : ℕ → Bool) (xs : List ℕ) → length xs ≤ prefix_len (λ x. not (p x)) xs → list_any p xs ≡ false
any_none p [] h = refl
any_none p (x ∷ xs) h =
    let f = not_cond_le (p x) (prefix_len (λ x. not (p x)) xs) (length xs) h in
    rw f.0 (any_none p xs f.1)

not_zero : (w : ℕ) → w ≢ 0 → not (w == 0) ≡ true
not_zero zero h = absurd (h refl)
not_zero (suc w) h = ap not (eqb-suc-zero w)

-- as many sizes as words before the first zero word
pub length-sizes : (d : List ℕ) → length (sizes d) ≡ prefix_len (λ w. not (w == 0)) (whole_words d)
unfolding sizes
length-sizes d = let h = prefix_len-le-length (λ w. not (w == 0)) (whole_words d) in simp length-take (omega arith)

-- a word that is not zero is one more size
pub sizes_more : (d : List ℕ) (i : ℕ) → i ≤ length (sizes d) → i < length (whole_words d) → get_or (whole_words d) i 0 ≢ 0 → i + 1 ≤ length (sizes d)
sizes_more d i h l word =
    let len = length-sizes d in
    let test : not (get_or (whole_words d) i 0 == 0) ≡ true = not_zero _ word in
    let more : suc i ≤ prefix_len (λ w. not (w == 0)) (whole_words d) = prefix_more (λ w. not (w == 0)) (whole_words d) i (omega arith) l test in
    omega arith

-- the sizes end at a zero word
pub sizes_end : (d : List ℕ) (i : ℕ) → i ≤ length (sizes d) → i < length (whole_words d) → get_or (whole_words d) i 0 ≡ 0 → i ≡ length (sizes d)
sizes_end d i h l word =
    let len = length-sizes d in
    let test : not (get_or (whole_words d) i 0 == 0) ≡ false = rw word refl in
    let end : prefix_len (λ w. not (w == 0)) (whole_words d) ≡ i = prefix_end (λ w. not (w == 0)) (whole_words d) i (omega arith) l test in
    omega arith

-- a word is zero where there are fewer sizes than words
pub parts_some : (d : List ℕ) → length (sizes d) < length (whole_words d) → part_sizes d ≡ Ok (sizes d)
unfolding part_sizes
parts_some d h =
    let p = λ (w : ℕ). not (w == 0) in
    let i = prefix_len p (whole_words d) in
    let len = length-sizes d in
    let stop : not (get_or (whole_words d) i 0 == 0) ≡ false = prefix_len_stops p (whole_words d) 0 (omega arith) in
    let some : list_any (λ w. w == 0) (whole_words d) ≡ true = list_any_at (λ w. w == 0) (whole_words d) i 0 (omega arith) (not-false _ stop) in
    rw some refl

-- no word is zero
pub parts_none : (d : List ℕ) → length (whole_words d) ≤ length (sizes d) → part_sizes d ≡ Err NoTableEnd
unfolding part_sizes
parts_none d h =
    let len = length-sizes d in
    let none : list_any (λ w. w == 0) (whole_words d) ≡ false = any_none (λ w. w == 0) (whole_words d) (omega arith) in
    rw none refl

-- a size is the word at its place
pub sizes-at : (d : List ℕ) (i : ℕ) → i < length (sizes d) → get_or (sizes d) i 0 ≡ get_or (whole_words d) i 0
unfolding sizes
sizes-at d i h = let len = length-sizes d in get_or-take _ (whole_words d) i 0 (omega arith)

-- where the parts start
pub start_first : (table : List ℕ) → start table 0 ≡ 4 * (length table + 1)
unfolding start
start_first table = omega arith

pub sum_more : (table : List ℕ) (i : ℕ) → i < length table → sum_by up4 (take (i + 1) table) ≡ sum_by up4 (take i table) + up4 (get_or table i 0)
sum_more table i h =
    ap (λ (w : List ℕ). sum_by up4 w) (take_more table i 0 h) ∙ sum_by_push up4 (take i table) (get_or table i 0)

pub start_more : (table : List ℕ) (i : ℕ) → i < length table → start table (i + 1) ≡ start table i + up4 (get_or table i 0)
unfolding start
start_more table i h =
    let sum = sum_more table i h in
    omega (arith, sum)

pub up4_bound : (n : ℕ) → n < 2 ^ 32 → up4 n ≤ 2 ^ 32
up4_bound n h = omega arith

-- the words of the table, in the image
pub table_words : (image : List ℕ) (size : ℕ) → 64 + size ≤ length image → (i : ℕ) → i < length (sizes (slice image 64 size)) → get_or (sizes (slice image 64 size)) i 0 ≡ be32 image (64 + 4 * i)
table_words image size inside i h =
    let len = length-sizes (slice image 64 size) in
    let most = prefix_len-le-length (λ w. not (w == 0)) (whole_words (slice image 64 size)) in
    let few = length-words (slice image 64 size) in
    sizes-at (slice image 64 size) i h
    ∙ payload_word image size i inside (omega (arith, few.0, length-slice image 64 size inside))

-- a part after the last
pub part_missing : (payload table : List ℕ) (position : ℕ) → length table ≤ position → listed_part payload table position ≡ Err NoSuchPart
unfolding listed_part
part_missing payload table position h = grind (arith, common_steps)

-- a part that ends after the data
pub part_outside : (image table : List ℕ) (size position at n : ℕ) → 64 + size ≤ length image → position < length table → at ≡ start table position → n ≡ get_or table position 0 → size < at + n → listed_part (slice image 64 size) table position ≡ Err PartOutside
unfolding listed_part is_outside
part_outside image table size position at n inside h a e far =
    let len = length-slice image 64 size inside in
    let there : nat_le (length table) position ≡ false = lt-leb _ _ h in
    let ends : nat_lt (length (slice image 64 size)) (start table position + get_or table position 0) ≡ true = lt-ltb _ _ (omega arith) in
    rw (there, ends) refl

-- a part that ends inside the data
pub part_inside : (image table : List ℕ) (size position at n : ℕ) → 64 + size ≤ length image → position < length table → at ≡ start table position → n ≡ get_or table position 0 → at + n ≤ size → listed_part (slice image 64 size) table position ≡ Ok (slice image (64 + at) n)
unfolding listed_part is_outside
part_inside image table size position at n inside h a e near =
    let len = length-slice image 64 size inside in
    let there : nat_le (length table) position ≡ false = lt-leb _ _ h in
    let ends : nat_lt (length (slice image 64 size)) (start table position + get_or table position 0) ≡ false = le-ltb _ _ (omega arith) in
    let same : slice (slice image 64 size) (start table position) (get_or table position 0) ≡ slice image (64 + at) n = rw (sym a, sym e) (slice-slice image 64 size at n (omega arith)) in
    rw (there, ends, same) refl
