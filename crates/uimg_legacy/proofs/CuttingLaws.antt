-- Parts that are cut by their sizes, and those of them that are asked for.
use Rattle.std.proofs.Common.{◌≡◌, ◌≢◌, ◌≤◌, ◌<◌, ◌+◌, ◌-◌, ◌*◌, ℕ, zero, suc, List, [], ◌∷◌, ◌++◌, length, length-append, take, drop, Bool, true, false, nat_lt, Option, Result, Ok, Err, refl, ap, sym, ◌∙◌, arith}
use Rattle.std.specs.{Prelude.{sum_by, if◌then◌else◌}, List.AllByRecursion}
use Rattle.std.proofs.lemmas.{Bool.{lt-ltb, le-ltb, ltb-false}, List.Sums.sum_by-cons}
use Rattle.std.proofs.lemmas.List.{append_assoc, append-nil, take-append-le, drop-append-le, length-drop}
use Rattle.uimg_texts.specs.Numbers.{be32, up4}
use Rattle.uimg_legacy.specs.declared.fault.LegacyFault.{LegacyFault, TheVariants.PartOutside}
use Rattle.uimg_legacy.specs.Words.{whole_words}
use Rattle.uimg_legacy.specs.Unpacking.{Part, part_before, parts_by, part_if, is_part_asked, chosen_parts}

-- a part before others
before_ok : (part : List ℕ) (r : Result (List (List ℕ)) LegacyFault) (parts : List (List ℕ)) → part_before part r ≡ Ok parts → (rest : List (List ℕ)) × (r ≡ Ok rest) × (part ∷ rest ≡ parts)
before_ok part (Ok rest) parts e = (rest, refl, cc)
before_ok part (Err fault) parts e = absurd (cc)

-- what is not refused by a test
unless_ok : (b : Bool) (fault : LegacyFault) (r : Result (List (List ℕ)) LegacyFault) (parts : List (List ℕ)) → (if b then Err fault else r) ≡ Ok parts → (b ≡ false) × (r ≡ Ok parts)
unless_ok true fault r parts e = absurd (cc)
unless_ok false fault r parts e = (refl, e)

-- the first of the parts, and the others
pub cut_first : (size : ℕ) (more bytes : List ℕ) (parts : List (List ℕ)) → parts_by (size ∷ more) bytes ≡ Ok parts → (size ≤ length bytes) × (rest : List (List ℕ)) × (parts_by more (drop (up4 size) bytes) ≡ Ok rest) × (take size bytes ∷ rest ≡ parts)
unfolding parts_by
cut_first size more bytes parts e =
    let fits = unless_ok (nat_lt (length bytes) size) PartOutside _ parts e in
    let found = before_ok (take size bytes) _ parts fits.1 in
    (ltb-false _ _ fits.0, found.0, found.1, found.2)

-- the same back
pub cut_again : (size : ℕ) (more bytes : List ℕ) (rest : List (List ℕ)) → size ≤ length bytes → parts_by more (drop (up4 size) bytes) ≡ Ok rest → parts_by (size ∷ more) bytes ≡ Ok (take size bytes ∷ rest)
unfolding parts_by
cut_again size more bytes rest fits e =
    let inside : nat_lt (length bytes) size ≡ false = le-ltb _ _ fits in
    rw (inside, e) refl

pub cut_none : (bytes : List ℕ) → parts_by [] bytes ≡ Ok []
unfolding parts_by
cut_none bytes = refl

-- no parts of no sizes
none_cut : (bytes : List ℕ) (parts : List (List ℕ)) → parts_by [] bytes ≡ Ok parts → [] ≡ parts
unfolding parts_by
none_cut bytes parts e = cc

no_bytes : (xs : List ℕ) → length xs ≡ 0 → xs ≡ []
no_bytes [] e = refl
no_bytes (x ∷ xs) e = absurd (omega (arith, e))

-- one more part, behind parts that end at a multiple of 4
pub cut_more : (ws bytes : List ℕ) (parts : List (List ℕ)) (size : ℕ) (next : List ℕ) → parts_by ws bytes ≡ Ok parts → length bytes ≡ sum_by up4 ws → size ≤ length next → parts_by (ws ++ size ∷ []) (bytes ++ next) ≡ Ok (parts ++ take size next ∷ [])
cut_more [] bytes parts size next e all fits =
    rw (no_bytes bytes all, sym (none_cut bytes parts e)) (cut_again size [] next [] fits (cut_none _))
cut_more (w ∷ ws) bytes parts size next e all fits =
    let f = cut_first w ws bytes parts e in
    let sum = sum_by-cons up4 w ws in
    let left : length (drop (up4 w) bytes) ≡ sum_by up4 ws = length-drop (up4 w) bytes ∙ omega (arith, all, sum) in
    let inside : up4 w ≤ length bytes = omega (arith, all, sum) in
    let rest = cut_more ws (drop (up4 w) bytes) f.1 size next f.2 left fits in
    let longer = length-append bytes next in
    let behind : parts_by (ws ++ size ∷ []) (drop (up4 w) (bytes ++ next)) ≡ Ok (f.1 ++ take size next ∷ []) = rw (drop-append-le (up4 w) bytes next inside) rest in
    cut_again w (ws ++ size ∷ []) (bytes ++ next) (f.1 ++ take size next ∷ []) (omega (arith, longer, f.0)) behind
    ∙ ap (λ (xs : List ℕ). Ok (xs ∷ f.1 ++ take size next ∷ [])) (take-append-le w bytes next f.0)
    ∙ ap (λ (ps : List (List ℕ)). Ok (ps ++ take size next ∷ [])) f.3

-- what is left behind some bytes and others
drop_both : (n : ℕ) (xs ys : List ℕ) → (more : List ℕ) × (drop n (xs ++ ys) ≡ drop n xs ++ more)
drop_both zero xs ys = (ys, refl)
drop_both (suc n) [] ys = (drop (suc n) ys, refl)
drop_both (suc n) (x ∷ xs) ys = drop_both n xs ys

-- the same parts, where more bytes follow
pub cut_longer : (ws bytes : List ℕ) (parts : List (List ℕ)) (next : List ℕ) → parts_by ws bytes ≡ Ok parts → parts_by ws (bytes ++ next) ≡ Ok parts
cut_longer [] bytes parts next e = cut_none (bytes ++ next) ∙ ap (λ (ps : List (List ℕ)). Ok ps) (none_cut bytes parts e)
cut_longer (w ∷ ws) bytes parts next e =
    let f = cut_first w ws bytes parts e in
    let d = drop_both (up4 w) bytes next in
    let rest = cut_longer ws (drop (up4 w) bytes) f.1 d.0 f.2 in
    let behind : parts_by ws (drop (up4 w) (bytes ++ next)) ≡ Ok f.1 = rw d.1 rest in
    let longer = length-append bytes next in
    cut_again w ws (bytes ++ next) f.1 (omega (arith, longer, f.0)) behind
    ∙ ap (λ (xs : List ℕ). Ok (xs ∷ f.1)) (take-append-le w bytes next f.0)
    ∙ ap (λ (ps : List (List ℕ)). Ok ps) f.3

-- a part that ends after the bytes
outside_if : (b : Bool) (part : List ℕ) (r : Result (List (List ℕ)) LegacyFault) → r ≡ Err PartOutside → (if b then Err PartOutside else part_before part r) ≡ Err PartOutside
outside_if true part r e = refl
outside_if false part r e = rw e refl

pub cut_outside : (ws : List ℕ) (size : ℕ) (more bytes : List ℕ) → 0 < size → length bytes < sum_by up4 ws + size → parts_by (ws ++ size ∷ more) bytes ≡ Err PartOutside
unfolding parts_by
cut_outside [] size more bytes some far =
    let outside : nat_lt (length bytes) size ≡ true = lt-ltb _ _ (omega (arith, far)) in
    rw outside refl
cut_outside (w ∷ ws) size more bytes some far =
    let sum = sum_by-cons up4 w ws in
    let left = length-drop (up4 w) bytes in
    outside_if (nat_lt (length bytes) w) (take w bytes) _ (cut_outside ws size more (drop (up4 w) bytes) some (omega (arith, left, far, sum)))

-- no parts, and one more part
pub chosen_none : (only : Option ℕ) (number : ℕ) → chosen_parts only number [] ≡ []
unfolding chosen_parts
chosen_none only number = refl

pub chosen_more : (only : Option ℕ) (number : ℕ) (parts : List (List ℕ)) (part : List ℕ) → chosen_parts only number (parts ++ part ∷ []) ≡ chosen_parts only number parts ++ part_if (is_part_asked only (number + length parts)) (number + length parts) part
unfolding chosen_parts
chosen_more only number [] part =
    let same : number + 0 ≡ number = omega arith in
    rw same (append-nil (part_if (is_part_asked only number) number part))
chosen_more only number (first ∷ parts) part =
    let same : suc number + length parts ≡ number + length (first ∷ parts) = omega arith in
    let one = part_if (is_part_asked only number) number first in
    ap (λ (ps : List Part). one ++ ps) (chosen_more only (suc number) parts part)
    ∙ ap (λ (n : ℕ). one ++ (chosen_parts only (suc number) parts ++ part_if (is_part_asked only n) n part)) same
    ∙ sym (append_assoc one (chosen_parts only (suc number) parts) (part_if (is_part_asked only (number + length (first ∷ parts))) (number + length (first ∷ parts)) part))

-- words behind words
pub words_then : (xs ys : List ℕ) (n : ℕ) → length xs ≡ 4 * n → whole_words (xs ++ ys) ≡ whole_words xs ++ whole_words ys
unfolding whole_words
words_then [] ys n h = refl
words_then (a ∷ []) ys n h = absurd (omega (arith, h))
words_then (a ∷ b ∷ []) ys n h = absurd (omega (arith, h))
words_then (a ∷ b ∷ c ∷ []) ys n h = absurd (omega (arith, h))
words_then (a ∷ b ∷ c ∷ d ∷ rest) ys n h =
    ap (λ (ws : List ℕ). be32 (a ∷ b ∷ c ∷ d ∷ []) 0 ∷ ws) (words_then rest ys (n - 1) (omega (arith, h)))

-- the one word of four bytes
pub word_of : (xs : List ℕ) → length xs ≡ 4 → whole_words xs ≡ be32 xs 0 ∷ []
unfolding whole_words
word_of [] h = absurd (omega (arith, h))
word_of (a ∷ []) h = absurd (omega (arith, h))
word_of (a ∷ b ∷ []) h = absurd (omega (arith, h))
word_of (a ∷ b ∷ c ∷ []) h = absurd (omega (arith, h))
word_of (a ∷ b ∷ c ∷ d ∷ []) h = refl
word_of (a ∷ b ∷ c ∷ d ∷ e ∷ rest) h = absurd (omega (arith, h))

-- how many words there are
pub count_words : (xs : List ℕ) (n : ℕ) → length xs ≡ 4 * n → length (whole_words xs) ≡ n
unfolding whole_words
count_words [] n h = omega (arith, h)
count_words (a ∷ []) n h = absurd (omega (arith, h))
count_words (a ∷ b ∷ []) n h = absurd (omega (arith, h))
count_words (a ∷ b ∷ c ∷ []) n h = absurd (omega (arith, h))
count_words (a ∷ b ∷ c ∷ d ∷ rest) n h =
    let more = count_words rest (n - 1) (omega (arith, h)) in
    omega (arith, more, h)

-- a word that is not zero, behind others
pub some_more : (ws : List ℕ) (w : ℕ) → AllByRecursion (λ v. v ≢ 0) ws → w ≢ 0 → AllByRecursion (λ v. v ≢ 0) (ws ++ w ∷ [])
some_more [] w all some = (some, tt)
some_more (v ∷ ws) w all some = (all.0, some_more ws w all.1 some)

pub positive : (n : ℕ) → n ≢ 0 → 0 < n
positive zero h = absurd (h refl)
positive (suc n) h = omega arith
