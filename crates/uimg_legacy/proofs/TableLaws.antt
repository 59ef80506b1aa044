-- The table of sizes that is built is read as the parts' lengths.
use Rattle.std.proofs.Common.{◌≡◌, ◌≤◌, ◌<◌, ℕ, ◌+◌, ◌*◌, ◌^◌, List, [], ◌∷◌, ◌++◌, length, map, Bool, true, false, Ok, ◌==◌, length-append, append_assoc, one-add, ◌∙◌, ap, refl, arith}
use Rattle.std.specs.{Int.{to_be_bytes, w32}, List.{flat_map, list_any, before_first}}
use Rattle.std.proofs.lemmas.{Nat.from_be_bytes-to_be_bytes_4, Bool.or_parts}
use Rattle.uimg_texts.specs.Numbers.{be32}
use Rattle.uimg_legacy.specs.{Words.whole_words, Parts.{sizes, part_sizes}}
use Rattle.uimg_legacy.specs.Building.{padding, joined, size_table, has_empty}
use Rattle.uimg_legacy.proofs.PartsLaws.{parts_some}

-- the words of the sizes, without the zero word
abbrev pub size_words : List (List ℕ) → List ℕ
size_words ps = flat_map (λ part. to_be_bytes w32 (length part)) ps

-- a word before other bytes
words-word : (n : ℕ) (rest : List ℕ) → n < 2 ^ 32 → whole_words (to_be_bytes w32 n ++ rest) ≡ n ∷ whole_words rest
unfolding whole_words be32
words-word n rest h = ap (λ (m : ℕ). m ∷ whole_words rest) (from_be_bytes-to_be_bytes_4 n h)

-- the first part is no longer than the whole, and nor are the others together
pub joined_first : (p q : List ℕ) (more : List (List ℕ)) → (length p ≤ length (joined (p ∷ q ∷ more))) × (length (joined (q ∷ more)) ≤ length (joined (p ∷ q ∷ more)))
unfolding joined
joined_first p q more =
    let rest = joined (q ∷ more) in
    let all = length-append (p ++ padding (length p)) rest in
    let prefix = length-append p (padding (length p)) in
    (omega (arith, all, prefix), omega (arith, all, prefix))

-- the words of the sizes of parts that are short together
words-sizes : (ps : List (List ℕ)) (rest : List ℕ) → length (joined ps) < 2 ^ 32 → whole_words (size_words ps ++ rest) ≡ map length ps ++ whole_words rest
unfolding joined
words-sizes [] rest h = refl
words-sizes (p ∷ []) rest h = words-word (length p) rest h
words-sizes (p ∷ q ∷ more) rest h =
    let few = joined_first p q more in
    words-word (length p) (size_words (q ∷ more) ++ rest) (omega (arith, few.0))
    ∙ ap (λ (ws : List ℕ). length p ∷ ws) (words-sizes (q ∷ more) rest (omega (arith, few.1)))

-- the words of the whole table and of what stands after it
pub words-table : (ps : List (List ℕ)) (rest : List ℕ) → length (joined ps) < 2 ^ 32 → whole_words (size_table ps ++ rest) ≡ map length ps ++ (0 ∷ whole_words rest)
unfolding size_table
words-table ps rest h =
    ap (λ (w : List ℕ). whole_words w) (append_assoc (size_words ps) (to_be_bytes w32 0) rest)
    ∙ words-sizes ps (to_be_bytes w32 0 ++ rest) h
    ∙ ap (λ (ws : List ℕ). map length ps ++ ws) (words-word 0 rest (omega arith))

-- the elements before the first that passes
before_first-append : (p : ℕ → Bool) (xs : List ℕ) (y : ℕ) (ys : List ℕ) → list_any p xs ≡ false → p y ≡ true → before_first p (xs ++ (y ∷ ys)) ≡ xs
before_first-append p [] y ys none some = rw some refl
before_first-append p (x ∷ xs) y ys none some =
    let f = or_parts (p x) (list_any p xs) none in
    let rest = before_first-append p xs y ys f.1 some in
    rw (f.0, one-add) (ap (λ (w : List ℕ). x ∷ w) rest)

-- no length is zero where no part is empty
lengths_above : (ps : List (List ℕ)) → has_empty ps ≡ false → list_any (λ w. w == 0) (map length ps) ≡ false
unfolding has_empty
lengths_above [] h = refl
lengths_above (p ∷ ps) h =
    let f = or_parts (length p == 0) (list_any (λ part. length part == 0) ps) h in
    rw f.0 (lengths_above ps f.1)

-- the table is read as the parts' lengths
pub parts-table : (ps : List (List ℕ)) (rest : List ℕ) → has_empty ps ≡ false → length (joined ps) < 2 ^ 32 → part_sizes (size_table ps ++ rest) ≡ Ok (map length ps)
unfolding sizes
parts-table ps rest none h =
    let d = size_table ps ++ rest in
    let all = words-table ps rest h in
    let same : sizes d ≡ map length ps = rw all (before_first-append (λ w. w == 0) (map length ps) 0 (whole_words rest) (lengths_above ps none) refl) in
    let prefix = ap (λ (w : List ℕ). length w) same in
    let whole = ap (λ (w : List ℕ). length w) all ∙ length-append (map length ps) (0 ∷ whole_words rest) in
    parts_some d (omega (arith, prefix, whole)) ∙ ap (λ (w : List ℕ). Ok w) same

-- four bytes for each part
length-size_words : (ps : List (List ℕ)) → length (size_words ps) ≡ 4 * length ps
length-size_words [] = omega arith
length-size_words (p ∷ ps) =
    let rest = length-size_words ps in
    let whole = length-append (to_be_bytes w32 (length p)) (size_words ps) in
    omega (arith, rest, whole)

-- a word for each part, and one more
pub length-table : (ps : List (List ℕ)) → length (size_table ps) ≡ 4 * (length ps + 1)
unfolding size_table
length-table ps = length-append (size_words ps) (to_be_bytes w32 0) ∙ omega (arith, length-size_words ps)
