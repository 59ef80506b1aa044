-- Where each part stands in the data that are built, and that it is read from there.
use Rattle.std.proofs.Common.{◌≡◌, ◌≤◌, ◌<◌, ℕ, zero, suc, ◌+◌, ◌-◌, ◌*◌, List, [], ◌∷◌, ◌++◌, length, take, drop, map, get_or, Bool, true, false, nat_le, Ok, length-append, append_assoc, ◌∙◌, ap, sym, refl, arith}
use Rattle.std.{specs.Prelude.sum_by, proofs.lemmas.{Bool.{le-ltb, lt-leb}, List.Sums.sum_by-cons}}
use Rattle.std.proofs.lemmas.List.{take_all, take_at, drop_at, drop-drop, length-map, length-replicate, get_or-map}
use Rattle.uimg_texts.specs.{Slices.slice, Numbers.up4}
use Rattle.uimg_legacy.specs.{Parts.{start, is_outside}, Extraction.listed_part}
use Rattle.uimg_legacy.specs.Building.{padding, joined, size_table, data_of}
use Rattle.uimg_legacy.proofs.TableLaws.{length-table}

-- where part i stands in the joined parts
abbrev place : List (List ℕ) → ℕ → ℕ
place ps i = sum_by up4 (take i (map length ps))

-- what stands at a place behind a prefix
slice-behind : (prefix rest : List ℕ) (n at m : ℕ) → length prefix ≡ n → slice (prefix ++ rest) (n + at) m ≡ slice rest at m
slice-behind prefix rest n at m e =
    ap (λ (w : List ℕ). take m w) (sym (drop-drop at n (prefix ++ rest)) ∙ ap (λ (w : List ℕ). drop at w) (drop_at prefix rest n e))

-- a padded part is a multiple of 4 long
length-padded : (p : List ℕ) → length (p ++ padding (length p)) ≡ up4 (length p)
length-padded p =
    let all = length-append p (padding (length p)) in
    let zeros = length-replicate {A = ℕ} (up4 (length p) - length p) 0 in
    omega (arith, all, zeros)

-- the place of a part behind the first
place-suc : (p : List ℕ) (ps : List (List ℕ)) (i : ℕ) → place (p ∷ ps) (suc i) ≡ up4 (length p) + place ps i
place-suc p ps i = sum_by-cons up4 (length p) (take i (map length ps))

-- a part ends inside the joined parts
pub joined_within : (ps : List (List ℕ)) (i : ℕ) → i < length ps → place ps i + length (get_or ps i []) ≤ length (joined ps)
unfolding joined
joined_within [] i h = absurd (omega arith)
joined_within (p ∷ []) zero h = omega arith
joined_within (p ∷ []) (suc i) h = absurd (omega arith)
joined_within (p ∷ q ∷ more) zero h =
    let all = length-append (p ++ padding (length p)) (joined (q ∷ more)) in
    let prefix = length-append p (padding (length p)) in
    omega (arith, all, prefix)
joined_within (p ∷ q ∷ more) (suc i) h =
    let all = length-append (p ++ padding (length p)) (joined (q ∷ more)) in
    let rest = joined_within (q ∷ more) i (omega arith) in
    omega (arith, all, length-padded p, place-suc p (q ∷ more) i, rest)

-- each part stands at its place
pub joined-slice : (ps : List (List ℕ)) (i : ℕ) → i < length ps → slice (joined ps) (place ps i) (length (get_or ps i [])) ≡ get_or ps i []
unfolding joined
joined-slice [] i h = absurd (omega arith)
joined-slice (p ∷ []) zero h = take_all (length p) p (omega arith)
joined-slice (p ∷ []) (suc i) h = absurd (omega arith)
joined-slice (p ∷ q ∷ more) zero h = rw append_assoc (take_at p (padding (length p) ++ joined (q ∷ more)) (length p) refl)
joined-slice (p ∷ q ∷ more) (suc i) h =
    ap (λ (at : ℕ). slice (joined (p ∷ q ∷ more)) at (length (get_or (q ∷ more) i []))) (place-suc p (q ∷ more) i)
    ∙ slice-behind (p ++ padding (length p)) (joined (q ∷ more)) (up4 (length p)) (place (q ∷ more) i) (length (get_or (q ∷ more) i [])) (length-padded p)
    ∙ joined-slice (q ∷ more) i (omega arith)

-- the start that is read is the place behind the table
start-place : (ps : List (List ℕ)) (i : ℕ) → start (map length ps) i ≡ 4 * (length ps + 1) + place ps i
unfolding start
start-place ps i = rw length-map refl

-- no part ends after the data
pub part_inside : (ps : List (List ℕ)) (i : ℕ) → i < length ps → is_outside (size_table ps ++ joined ps) (map length ps) i ≡ false
unfolding is_outside
part_inside ps i h =
    let all = length-append (size_table ps) (joined ps) in
    let size = get_or-map length ps i [] 0 h in
    le-ltb _ _ (omega (arith, all, size, length-table ps, start-place ps i, joined_within ps i h))

-- each part is read back at its number
pub part-slice : (ps : List (List ℕ)) (i : ℕ) → i < length ps → listed_part (size_table ps ++ joined ps) (map length ps) i ≡ Ok (get_or ps i [])
unfolding listed_part
part-slice ps i h =
    let size = get_or-map length ps i [] 0 h in
    let there : nat_le (length (map length ps)) i ≡ false = lt-leb _ _ (omega (arith, length-map ps length)) in
    let inside = part_inside ps i h in
    let found : slice (size_table ps ++ joined ps) (start (map length ps) i) (get_or (map length ps) i 0) ≡ get_or ps i [] =
    rw (start-place ps i, size) (slice-behind (size_table ps) (joined ps) (4 * (length ps + 1)) (place ps i) (length (get_or ps i [])) (length-table ps) ∙ joined-slice ps i h) in
    rw (there, inside, found) refl

-- a part is no longer than the data
pub part_fits : (has : Bool) (ps : List (List ℕ)) (i : ℕ) → i < length ps → length (get_or ps i []) ≤ length (data_of has ps)
part_fits true ps i h = omega (arith, length-append (size_table ps) (joined ps), joined_within ps i h)
part_fits false ps i h = omega (arith, joined_within ps i h)
