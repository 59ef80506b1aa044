-- A window of the table of sizes: its words, and how many of them are sizes.
use Rattle.std.proofs.Common.{◌≡◌, ◌≤◌, ◌<◌, ℕ, zero, suc, ◌+◌, ◌-◌, ◌*◌, List, [], ◌∷◌, length, take, drop, get_or, Bool, true, false, not, cond, ◌==◌, min, ◌∙◌, ap, sym, refl, arith}
use Rattle.std.{specs.{Prelude.sum_by, List.prefix_len}, proofs.Math.Seq.take-add}
use Rattle.std.proofs.lemmas.List.{take-take, drop-drop, Sums.{prefix_len-le-length, sum_by-append}}
use Rattle.uimg_texts.specs.{Slices.slice, Numbers.{be32, up4}}
use Rattle.uimg_legacy.specs.{Words.whole_words, Parts.{sizes, start}, Reading.window}
use Rattle.uimg_legacy.proofs.PartsLaws.{cond_le, slice-slice, length-sizes, table_words}

four : (n : ℕ) → 4 * suc n ≡ suc (suc (suc (suc (4 * n))))
four n = omega arith

-- the words from a place on
words-drop : (d : List ℕ) (i : ℕ) → whole_words (drop (4 * i) d) ≡ drop i (whole_words d)
unfolding whole_words
words-drop d zero = refl
words-drop [] (suc i) = rw (four i) refl
words-drop (a ∷ []) (suc i) = rw (four i) refl
words-drop (a ∷ b ∷ []) (suc i) = rw (four i) refl
words-drop (a ∷ b ∷ c ∷ []) (suc i) = rw (four i) refl
words-drop (a ∷ b ∷ c ∷ d ∷ rest) (suc i) = rw (four i) (words-drop rest i)

-- the first words
words-take : (d : List ℕ) (n : ℕ) → whole_words (take (4 * n) d) ≡ take n (whole_words d)
unfolding whole_words
words-take d zero = refl
words-take [] (suc n) = rw (four n) refl
words-take (a ∷ []) (suc n) = rw (four n) refl
words-take (a ∷ b ∷ []) (suc n) = rw (four n) refl
words-take (a ∷ b ∷ c ∷ []) (suc n) = rw (four n) refl
words-take (a ∷ b ∷ c ∷ d ∷ rest) (suc n) = rw (four n) (ap (λ (ws : List ℕ). be32 (a ∷ b ∷ c ∷ d ∷ []) 0 ∷ ws) (words-take rest n))

-- the words of a window
pub words-slice : (d : List ℕ) (i n : ℕ) → whole_words (slice d (4 * i) (4 * n)) ≡ take n (drop i (whole_words d))
words-slice d i n = words-take (drop (4 * i) d) n ∙ ap (λ (ws : List ℕ). take n ws) (words-drop d i)

-- a prefix after some of its elements
prefix_len-rest : (p : ℕ → Bool) (xs : List ℕ) (i : ℕ) → i ≤ prefix_len p xs → prefix_len p xs ≡ i + prefix_len p (drop i xs)
prefix_len-rest p xs zero h = omega arith
prefix_len-rest p [] (suc i) h = absurd (omega arith)
prefix_len-rest p (x ∷ xs) (suc i) h =
    let f = cond_le (p x) (prefix_len p xs) i h in
    let rest = prefix_len-rest p xs i f.1 in
    rw f.0 (omega (arith, rest))

-- a prefix of the first elements
cond_min : (b : Bool) (k m n : ℕ) → k ≡ min n m → cond b (1 + k) 0 ≡ min (suc n) (cond b (1 + m) 0)
cond_min true k m n e = omega (arith, e)
cond_min false k m n e = omega arith

prefix_len-take : (p : ℕ → Bool) (xs : List ℕ) (n : ℕ) → prefix_len p (take n xs) ≡ min n (prefix_len p xs)
prefix_len-take p xs zero = omega arith
prefix_len-take p [] (suc n) = omega arith
prefix_len-take p (x ∷ xs) (suc n) =
    cond_min (p x) (prefix_len p (take n xs)) (prefix_len p xs) n (prefix_len-take p xs n)

-- the sizes of a window that begins before the table's end
pub sizes_window : (image : List ℕ) (size i n : ℕ) → 4 * (i + n) ≤ size → i ≤ length (sizes (slice image 64 size)) → length (sizes (slice image (64 + 4 * i) (4 * n))) ≡ min n (length (sizes (slice image 64 size)) - i)
sizes_window image size i n inside h =
    let p = λ (w : ℕ). not (w == 0) in
    let d = slice image 64 size in
    let all = length-sizes d in
    let window : slice image (64 + 4 * i) (4 * n) ≡ slice d (4 * i) (4 * n) = sym (slice-slice image 64 size (4 * i) (4 * n) (omega arith)) in
    let prefix = prefix_len-take p (drop i (whole_words d)) n in
    let rest = prefix_len-rest p (whole_words d) i (omega arith) in
    ap (λ (w : List ℕ). length (sizes w)) window
    ∙ length-sizes (slice d (4 * i) (4 * n))
    ∙ ap (λ (ws : List ℕ). prefix_len p ws) (words-slice d i n)
    ∙ omega (arith, prefix, rest, all)

-- no more sizes than words
pub sizes-le-words : (d : List ℕ) → length (sizes d) ≤ length (whole_words d)
sizes-le-words d =
    let most = prefix_len-le-length (λ w. not (w == 0)) (whole_words d) in
    omega (arith, length-sizes d, most)

-- the words of a window, of all the words behind the header
words-window : (image : List ℕ) (first count : ℕ) → whole_words (window image first count) ≡ take count (drop first (whole_words (drop 64 image)))
words-window image first count =
    ap (λ (w : List ℕ). whole_words (take (4 * count) w)) (sym (drop-drop (4 * first) 64 image)) ∙ words-slice (drop 64 image) first count

-- no words
pub sum_none : (image : List ℕ) → 0 ≡ sum_by up4 (whole_words (window image 0 0))
unfolding whole_words
sum_none image = refl

-- the sum of the first words and of those in the window behind them
pub sum_more_words : (image : List ℕ) (i n : ℕ) → sum_by up4 (whole_words (window image 0 (i + n))) ≡ sum_by up4 (whole_words (window image 0 i)) + sum_by up4 (whole_words (window image i n))
sum_more_words image i n =
    let all = whole_words (drop 64 image) in
    rw (words-window image 0 (i + n), words-window image 0 i, words-window image i n)
    (ap (λ (w : List ℕ). sum_by up4 w) (take-add i n all) ∙ sum_by-append up4 (take i all) (take n (drop i all)))

-- where a part starts
pub start_sum : (image : List ℕ) (size position : ℕ) → 4 * position ≤ size → position ≤ length (sizes (slice image 64 size)) → start (sizes (slice image 64 size)) position ≡ 4 * (length (sizes (slice image 64 size)) + 1) + sum_by up4 (whole_words (window image 0 position))
unfolding start sizes
start_sum image size position inside h =
    let d = slice image 64 size in
    let len = length-sizes d in
    let first : whole_words (window image 0 position) ≡ take position (whole_words d) = ap (λ (w : List ℕ). whole_words w) (sym (slice-slice image 64 size 0 (4 * position) (omega arith))) ∙ words-slice d 0 position in
    let same : take position (sizes d) ≡ whole_words (window image 0 position) = take-take position _ (whole_words d) (omega arith) ∙ sym first in
    ap (λ (w : List ℕ). 4 * (length (sizes d) + 1) + sum_by up4 w) same

-- what is read of a part in the table: where it starts, and its size
pub part_read : (image : List ℕ) (size count position sum n : ℕ) → 64 + size ≤ length image → 4 * (count + 1) ≤ size → count ≡ length (sizes (slice image 64 size)) → position < count → sum ≡ sum_by up4 (whole_words (window image 0 position)) → n ≡ be32 image (64 + 4 * position) → (4 * (count + 1) + sum ≡ start (sizes (slice image 64 size)) position) × (n ≡ get_or (sizes (slice image 64 size)) position 0)
part_read image size count position sum n inside fits counts there e word =
    (omega (arith, counts, e, start_sum image size position (omega arith) (omega (arith, counts))), word ∙ sym (table_words image size inside position (omega (arith, counts))))
