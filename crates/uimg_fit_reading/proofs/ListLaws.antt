-- Lists of texts, byte by byte and piece by piece.
use Rattle.std.proofs.Common.{◌≡◌, ◌≢◌, ◌<◌, ◌≤◌, ◌+◌, ℕ, zero, suc, min, List, [], ◌∷◌, ◌++◌, length, take, replicate, Option, Some, None, refl, ap, sym, ◌∙◌, subst, append_assoc, append-nil, length-take, arith}
use Rattle.std.{specs.List.flat_map, proofs.lemmas.List.take_all}
use Rattle.uimg_texts.specs.Nul.{before_nul, text}
use Rattle.uimg_base.specs.Outcome.{line}
use Rattle.uimg_blob_reading.proofs.{PhaseLaws.{some_none, some_some}, TextLaws.text_all}
use Rattle.uimg_fit_reading.specs.{declared.listing.lists.Line.Line, Values.{pieces, onto}}
use Rattle.uimg_fit_reading.specs.declared.listing.lists.Line.TheVariants.{First, Next, Open}
use Rattle.uimg_fit_reading.specs.Shows.{lines_of}
use Rattle.uimg_fit_reading.specs.Lists.{start_of, emitted, line_after, end_of_line, IsPiece}

abbrev pub behind : ℕ → Option (List ℕ) → Option (List ℕ)
behind n o = elim o as (λ _. Option (List ℕ)) [ None ↦ None | Some name ↦ Some (suc n ∷ name) ]

pub by_nul : {P : Type 0} (o : Option (List ℕ)) → (o ≡ None → P) → ((t : List ℕ) → o ≡ Some t → P) → P
by_nul None without within = without refl
by_nul (Some t) without within = within t refl

text_some : (bytes t : List ℕ) → before_nul bytes ≡ Some t → text bytes ≡ t
unfolding text
text_some bytes t is = ap (λ (o : Option (List ℕ)). elim o as (λ _. List ℕ) [ None ↦ bytes | Some found ↦ found ]) is

-- bytes in two parts
pub emitted_append : (label : List ℕ) (l : Line) (a b : List ℕ) → emitted label l (a ++ b) ≡ emitted label l a ++ emitted label (line_after l a) b
unfolding emitted line_after
emitted_append label l [] b = refl
emitted_append label l (zero ∷ a) b =
    ap (λ (w : List ℕ). start_of label l ++ 10 ∷ w) (emitted_append label Next a b)
    ∙ sym (append_assoc (start_of label l) (10 ∷ emitted label Next a) (emitted label (line_after Next a) b))
emitted_append label l (suc n ∷ a) b =
    ap (λ (w : List ℕ). start_of label l ++ suc n ∷ w) (emitted_append label Open a b)
    ∙ sym (append_assoc (start_of label l) (suc n ∷ emitted label Open a) (emitted label (line_after Open a) b))

pub after_append : (l : Line) (a b : List ℕ) → line_after l (a ++ b) ≡ line_after (line_after l a) b
unfolding line_after
after_append l [] b = refl
after_append l (zero ∷ a) b = after_append Next a b
after_append l (suc n ∷ a) b = after_append Open a b

-- bytes without a NUL, on a line that has begun
open_rest : (label p : List ℕ) → before_nul p ≡ None → (emitted label Open p ≡ p) × (line_after Open p ≡ Open)
unfolding before_nul emitted line_after
open_rest label [] bare = (refl, refl)
open_rest label (zero ∷ p) bare = absurd (some_none bare)
open_rest label (suc n ∷ p) bare =
    let without : before_nul p ≡ None = by_nul (before_nul p) (λ is. is) (λ t is. absurd (some_none (sym (ap (behind n) is) ∙ bare))) in
    let rest = open_rest label p without in
    (ap (λ (w : List ℕ). suc n ∷ w) rest.0, rest.1)

-- the same on any line
bare_piece : (label p : List ℕ) (l : Line) → before_nul p ≡ None → 0 < length p → (emitted label l p ≡ start_of label l ++ p) × (line_after l p ≡ Open)
unfolding before_nul emitted line_after
bare_piece label [] l bare some = absurd (omega (arith, some))
bare_piece label (zero ∷ p) l bare some = absurd (some_none bare)
bare_piece label (suc n ∷ p) l bare some =
    let without : before_nul p ≡ None = by_nul (before_nul p) (λ is. is) (λ t is. absurd (some_none (sym (ap (behind n) is) ∙ bare))) in
    let rest = open_rest label p without in
    (ap (λ (w : List ℕ). start_of label l ++ suc n ∷ w) rest.0, rest.1)

pub empty : (q : List ℕ) → length q ≤ 0 → q ≡ []
empty [] h = refl
empty (x ∷ q) h = absurd (omega (arith, h))

-- bytes that a NUL ends
ended_piece : (label p t : List ℕ) (l : Line) → before_nul p ≡ Some t → length p ≤ length t + 1
    → (emitted label l p ≡ start_of label l ++ (t ++ 10 ∷ [])) × (line_after l p ≡ Next)
unfolding before_nul emitted line_after
ended_piece label [] t l is few = absurd (some_none (sym is))
ended_piece label (zero ∷ p) t l is few =
    let none_before : [] ≡ t = some_some [] t is in
    let last : p ≡ [] = empty p (omega (arith, few, ap (λ (w : List ℕ). length w) none_before)) in (
      ap (λ (w : List ℕ). start_of label l ++ 10 ∷ emitted label Next w) last ∙ ap (λ (w : List ℕ). start_of label l ++ (w ++ 10 ∷ [])) none_before,
      ap (line_after Next) last,
    )
ended_piece label (suc n ∷ p) t l is few = by_nul (before_nul p)
    (λ without. absurd (some_none (sym is ∙ ap (behind n) without)))
    (λ name found.
    let all : suc n ∷ name ≡ t = some_some (suc n ∷ name) t (sym (ap (behind n) found) ∙ is) in
    let rest = ended_piece label p name Open found (omega (arith, few, ap (λ (w : List ℕ). length w) all)) in
    (ap (λ (w : List ℕ). start_of label l ++ suc n ∷ w) rest.0 ∙ ap (λ (w : List ℕ). start_of label l ++ (w ++ 10 ∷ [])) all, rest.1))

longer : (q t : List ℕ) → before_nul q ≡ Some t → length t < length q
unfolding before_nul
longer [] t is = absurd (some_none (sym is))
longer (zero ∷ q) t is = omega (arith, ap (λ (w : List ℕ). length w) (some_some [] t is))
longer (suc n ∷ q) t is = by_nul (before_nul q)
    (λ without. absurd (some_none (sym is ∙ ap (behind n) without)))
    (λ name found.
    let all : suc n ∷ name ≡ t = some_some (suc n ∷ name) t (sym (ap (behind n) found) ∙ is) in
    omega (arith, longer q name found, ap (λ (w : List ℕ). length w) all))

-- a piece without its NUL
pub piece_open : (label p : List ℕ) (l : Line) → IsPiece p → length (text p) ≡ length p → (emitted label l p ≡ start_of label l ++ text p) × (line_after l p ≡ Open)
piece_open label p l piece whole = by_nul (before_nul p)
    (λ bare. let it = bare_piece label p l bare piece.some in (it.0 ∙ ap (λ (w : List ℕ). start_of label l ++ w) (sym (text_all p bare)), it.1))
    (λ t is. absurd (omega (arith, longer p t is, ap (λ (w : List ℕ). length w) (text_some p t is), whole)))

-- a piece with its NUL
pub piece_ended : (label p : List ℕ) (l : Line) → IsPiece p → length (text p) ≢ length p → (emitted label l p ≡ line (start_of label l ++ text p)) × (line_after l p ≡ Next)
piece_ended label p l piece shorter = by_nul (before_nul p)
    (λ bare. absurd (shorter (ap (λ (w : List ℕ). length w) (text_all p bare))))
    (λ t is.
    let same : text p ≡ t = text_some p t is in
    let it = ended_piece label p t l is (omega (arith, piece.one, ap (λ (w : List ℕ). length w) same)) in
    (it.0 ∙ ap (λ (w : List ℕ). start_of label l ++ (w ++ 10 ∷ [])) (sym same) ∙ sym (append_assoc (start_of label l) (text p) (10 ∷ [])), it.1))

-- the bytes up to the first NUL and that NUL
nul_in_first : (p t : List ℕ) → before_nul p ≡ Some t → before_nul (take (suc (length t)) p) ≡ Some t
unfolding before_nul
nul_in_first [] t is = absurd (some_none (sym is))
nul_in_first (zero ∷ p) t is = subst (λ (w : List ℕ). before_nul (take (suc (length w)) (zero ∷ p)) ≡ Some w) (some_some [] t is) refl
nul_in_first (suc n ∷ p) t is = by_nul (before_nul p)
    (λ without. absurd (some_none (sym is ∙ ap (behind n) without)))
    (λ name found.
    let all : suc n ∷ name ≡ t = some_some (suc n ∷ name) t (sym (ap (behind n) found) ∙ is) in
    subst (λ (w : List ℕ). before_nul (take (suc (length w)) (suc n ∷ p)) ≡ Some w) all (ap (behind n) (nul_in_first p name found)))

pub first_is_piece : (p : List ℕ) (n : ℕ) → 0 < length p → n ≡ min (length p) (length (text p) + 1) → IsPiece (take n p)
first_is_piece p n some is = by_nul (before_nul p)
    (λ bare.
    let whole : n ≡ length p = omega (arith, is, ap (λ (w : List ℕ). length w) (text_all p bare)) in
    let all : take n p ≡ p = ap (λ (k : ℕ). take k p) whole ∙ take_all (length p) p (omega arith) in
    subst IsPiece (sym all) (record { some = some; one = omega (arith, ap (λ (w : List ℕ). length w) (text_all p bare)) }))
    (λ t found.
    let size : length (text p) ≡ length t = ap (λ (w : List ℕ). length w) (text_some p t found) in
    let more : length t < length p = longer p t found in
    let count : n ≡ suc (length t) = omega (arith, is, size, more) in
    let again : text (take n p) ≡ t = text_some (take n p) t (ap (λ (k : ℕ). before_nul (take k p)) count ∙ nul_in_first p t found) in
    record { some = omega (arith, length-take n p, count, more); one = omega (arith, length-take n p, count, ap (λ (w : List ℕ). length w) again) })

-- what is left of the lines where one has begun
abbrev blanks : List ℕ
blanks = replicate 16 32

abbrev left_of : List (List ℕ) → List ℕ
left_of [] = 10 ∷ []
left_of (t ∷ ts) = line t ++ flat_map (λ more. line (blanks ++ more)) ts

all_blanks : (ps : List (List ℕ)) → lines_of blanks ps ≡ flat_map (λ more. line (blanks ++ more)) ps
all_blanks [] = refl
all_blanks (p ∷ ps) = refl

left_onto : (n : ℕ) (ps : List (List ℕ)) → n ∷ left_of ps ≡ left_of (onto n ps)
left_onto n [] = refl
left_onto n (p ∷ ps) = refl

lines_onto : (start : List ℕ) (n : ℕ) (ps : List (List ℕ)) → start ++ n ∷ left_of ps ≡ lines_of start (onto n ps)
lines_onto start n [] = simp (append_assoc, append-nil)
lines_onto start n (p ∷ ps) = simp append_assoc

ended_onto : (start : List ℕ) (ps : List (List ℕ)) → start ++ 10 ∷ flat_map (λ more. line (blanks ++ more)) ps ≡ lines_of start ([] ∷ ps)
ended_onto start ps = simp (append_assoc, append-nil)

both_lines : (label v : List ℕ) → (emitted label Open v ++ end_of_line (line_after Open v) ≡ left_of (pieces v))
    × ((l : Line) → end_of_line l ≡ [] → emitted label l v ++ end_of_line (line_after l v) ≡ lines_of (start_of label l) (pieces v))
unfolding emitted line_after pieces
both_lines label [] = (refl, λ l ended. ended)
both_lines label (zero ∷ v) =
    let rest = (both_lines label v).1 Next refl ∙ all_blanks (pieces v) in (
      ap (λ (w : List ℕ). 10 ∷ w) rest,
      λ l ended.
          append_assoc (start_of label l) (10 ∷ emitted label Next v) (end_of_line (line_after Next v))
          ∙ ap (λ (w : List ℕ). start_of label l ++ 10 ∷ w) rest ∙ ended_onto (start_of label l) (pieces v),
    )
both_lines label (suc n ∷ v) =
    let rest = (both_lines label v).0 in (
      ap (λ (w : List ℕ). suc n ∷ w) rest ∙ left_onto (suc n) (pieces v),
      λ l ended.
          append_assoc (start_of label l) (suc n ∷ emitted label Open v) (end_of_line (line_after Open v))
          ∙ ap (λ (w : List ℕ). start_of label l ++ suc n ∷ w) rest ∙ lines_onto (start_of label l) (suc n) (pieces v),
    )

-- all lines of a value
pub list_is : (label v : List ℕ) → emitted label First v ++ end_of_line (line_after First v) ≡ lines_of label (pieces v)
list_is label v = (both_lines label v).1 First refl
