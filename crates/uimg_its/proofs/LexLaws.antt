-- Words are found from left to right.
use Rattle.std.proofs.Common.{◌≡◌, ℕ, zero, suc, ◌+◌, ◌≤◌, ◌<◌, List, [], ◌∷◌, ◌++◌, append_assoc, Option, Some, None, length, take, drop, get_or, refl, sym, ap, subst, ◌∙◌, arith, drop-drop, true, false, nat_eq, drop-cons}
use Rattle.std.{proofs.lemmas.{List.{drop_all, append-nil}, Bool.ne_eqb}, specs.Prelude.codes}
use Rattle.std.specs.{Option.option_map, List.{starts_with, prefix_len}}
use Rattle.uimg_its.specs.Strings.{unit, string_end, string_bytes}
use Rattle.uimg_its.specs.Words.{comment, Word, Piece, gap, word, piece, goes_on, words_from, words, is_blank, is_name_byte, name_word}

-- t more
abbrev pub shifted : ℕ → Option ℕ → Option ℕ
shifted t o = option_map (λ n. t + n) o

pub shifted_shifted : (s t u : ℕ) (o : Option ℕ) → u ≡ s + t → shifted s (shifted t o) ≡ shifted u o
shifted_shifted s t u None e = refl
shifted_shifted s t u (Some n) e = ap Some (omega (arith, e))

pub shifted_suc : (t : ℕ) (o : Option ℕ) → shifted t (option_map suc o) ≡ shifted (t + 1) o
shifted_suc t None = refl
shifted_suc t (Some n) = ap Some (omega arith)

pub shifted_zero : (o : Option ℕ) → shifted 0 o ≡ o
shifted_zero None = refl
shifted_zero (Some n) = ap Some (omega arith)

suc_shifted : (k : ℕ) (o : Option ℕ) → option_map suc (shifted k o) ≡ shifted (suc k) o
suc_shifted k None = refl
suc_shifted k (Some n) = ap Some (omega arith)

pub string_skip : (k : ℕ) (bs : List ℕ) → k ≤ length bs → string_end k bs ≡ shifted k (string_end 0 (drop k bs))
unfolding string_end
string_skip zero bs h = sym (shifted_zero (string_end 0 bs))
string_skip (suc k) [] h = refl
string_skip (suc k) (b ∷ bs) h = ap (option_map suc) (string_skip k bs (omega (arith, h))) ∙ suc_shifted k (string_end 0 (drop k bs))

-- the quote that ends a string
quote_first : (b : ℕ) (bs : List ℕ) → b ≡ 34 → string_end 0 (b ∷ bs) ≡ Some 1
unfolding string_end
quote_first b bs e = rw e refl

pub quote_ends : (text : List ℕ) (i : ℕ) → i < length text → get_or text i 0 ≡ 34 → string_end 0 text ≡ shifted i (string_end 0 (drop i text)) → Some (i + 1) ≡ string_end 0 text
quote_ends text i lt e so_far = sym (so_far ∙ ap (shifted i) (ap (string_end 0) (drop-cons text i 0 lt) ∙ quote_first (get_or text i 0) (drop (suc i) text) e))

pub string_over : (text : List ℕ) (i : ℕ) → length text ≤ i → string_end 0 text ≡ shifted i (string_end 0 (drop i text)) → None ≡ string_end 0 text
unfolding string_end
string_over text i le so_far = sym (so_far ∙ ap (shifted i) (ap (string_end 0) (drop_all i text le)))

unit_none_first : (b : ℕ) (bs : List ℕ) → (b ≡ 34 → ⊥) → None ≡ unit b bs → string_end 0 (b ∷ bs) ≡ None
unfolding string_end
unit_none_first b bs ne none = rw (ne_eqb b 34 ne, sym none) refl

pub unit_none : (text : List ℕ) (i : ℕ) → i < length text → (get_or text i 0 ≡ 34 → ⊥) → None ≡ unit (get_or text i 0) (drop (i + 1) text) → string_end 0 text ≡ shifted i (string_end 0 (drop i text)) → None ≡ string_end 0 text
unit_none text i lt ne none so_far = sym (so_far ∙ ap (shifted i) (ap (string_end 0) (drop-cons text i 0 lt) ∙ unit_none_first (get_or text i 0) (drop (suc i) text) ne (let e : i + 1 ≡ suc i = omega arith in subst (λ (n : ℕ). None ≡ unit (get_or text i 0) (drop n text)) e none)))

unit_some_first : (b : ℕ) (bs : List ℕ) (u : ℕ × ℕ) → (b ≡ 34 → ⊥) → Some u ≡ unit b bs → u.1 ≤ length bs → string_end 0 (b ∷ bs) ≡ shifted (1 + u.1) (string_end 0 (drop u.1 bs))
unfolding string_end
unit_some_first b bs u ne some le =
    rw (ne_eqb b 34 ne, sym some) (ap (option_map suc) (string_skip u.1 bs le) ∙ suc_shifted u.1 (string_end 0 (drop u.1 bs)) ∙ ap (λ n. shifted n (string_end 0 (drop u.1 bs))) (omega arith))

pub unit_some : (text : List ℕ) (i : ℕ) (u : ℕ × ℕ) → i < length text → (get_or text i 0 ≡ 34 → ⊥) → Some u ≡ unit (get_or text i 0) (drop (i + 1) text) → u.1 ≤ length (drop (i + 1) text) → string_end 0 text ≡ shifted i (string_end 0 (drop i text))
    → string_end 0 text ≡ shifted (i + (1 + u.1)) (string_end 0 (drop (i + (1 + u.1)) text))
unit_some text i u lt ne some le so_far =
    so_far ∙ ap (shifted i) (ap (string_end 0) (drop-cons text i 0 lt) ∙ unit_some_first (get_or text i 0) (drop (suc i) text) u ne (let e : i + 1 ≡ suc i = omega arith in subst (λ (n : ℕ). Some u ≡ unit (get_or text i 0) (drop n text)) e some) (let e : i + 1 ≡ suc i = omega arith in subst (λ (n : ℕ). u.1 ≤ length (drop n text)) e le))
    ∙ shifted_shifted i (1 + u.1) (i + (1 + u.1)) _ refl
    ∙ ap (λ (l : List ℕ). shifted (i + (1 + u.1)) (string_end 0 l)) (drop-drop u.1 (suc i) text ∙ (let e : i + (1 + u.1) ≡ suc i + u.1 = omega arith in sym (ap (λ (n : ℕ). drop n text) e)))

comment_first : (b : ℕ) (bs : List ℕ) → starts_with nat_eq (b ∷ bs) (codes "*/") ≡ true → comment (b ∷ bs) ≡ Some 2
unfolding comment
comment_first b bs e = rw e refl

comment_not : (b : ℕ) (bs : List ℕ) → starts_with nat_eq (b ∷ bs) (codes "*/") ≡ false → comment (b ∷ bs) ≡ option_map suc (comment bs)
unfolding comment
comment_not b bs e = rw e refl

pub comment_ends : (text : List ℕ) (i : ℕ) → i < length text → starts_with nat_eq (drop i text) (codes "*/") ≡ true → comment text ≡ shifted i (comment (drop i text)) → Some (i + 2) ≡ comment text
comment_ends text i lt e so_far =
    let cons : drop i text ≡ get_or text i 0 ∷ drop (suc i) text = drop-cons text i 0 lt in
    sym (so_far ∙ ap (shifted i) (ap comment cons ∙ comment_first (get_or text i 0) (drop (suc i) text) (subst (λ (l : List ℕ). starts_with nat_eq l (codes "*/") ≡ true) cons e)))

pub comment_goes_on : (text : List ℕ) (i : ℕ) → i < length text → starts_with nat_eq (drop i text) (codes "*/") ≡ false → comment text ≡ shifted i (comment (drop i text)) → comment text ≡ shifted (i + 1) (comment (drop (i + 1) text))
comment_goes_on text i lt e so_far =
    let cons : drop i text ≡ get_or text i 0 ∷ drop (suc i) text = drop-cons text i 0 lt in
    let n : suc i ≡ i + 1 = omega arith in
    so_far ∙ ap (shifted i) (ap comment cons ∙ comment_not (get_or text i 0) (drop (suc i) text) (subst (λ (l : List ℕ). starts_with nat_eq l (codes "*/") ≡ false) cons e))
    ∙ shifted_suc i (comment (drop (suc i) text)) ∙ ap (λ (k : ℕ). shifted (i + 1) (comment (drop k text))) n

pub comment_over : (text : List ℕ) (i : ℕ) → length text ≤ i → comment text ≡ shifted i (comment (drop i text)) → None ≡ comment text
unfolding comment
comment_over text i le so_far = sym (so_far ∙ ap (shifted i) (ap comment (drop_all i text le)))

words_skip : (k : ℕ) (bs : List ℕ) → words_from k bs ≡ words_from 0 (drop k bs)
unfolding words_from
words_skip zero bs = refl
words_skip (suc k) [] = refl
words_skip (suc k) (b ∷ bs) = words_skip k bs

gap_first : (b : ℕ) (bs : List ℕ) (n : ℕ) → piece b bs ≡ gap n → words (b ∷ bs) ≡ words (drop n bs)
unfolding words_from
gap_first b bs n e = ap (λ (p : Piece). goes_on p (λ m. words_from m bs)) e ∙ words_skip n bs

word_first : (b : ℕ) (bs : List ℕ) (w : Word) (n : ℕ) → piece b bs ≡ word w n → words (b ∷ bs) ≡ w ∷ words (drop n bs)
unfolding words_from
word_first b bs w n e = ap (λ (p : Piece). goes_on p (λ m. words_from m bs)) e ∙ (ap (λ (ws : List Word). w ∷ ws) (words_skip n bs))

-- the words of a text that begins with a gap are those behind it
pub words_gap : (text : List ℕ) (n : ℕ) → 0 < length text → piece (get_or text 0 0) (drop 1 text) ≡ gap n → words text ≡ words (drop (n + 1) text)
words_gap [] n h e = absurd (omega (arith, h))
words_gap (b ∷ bs) n h e = gap_first b bs n e ∙ (let k : n + 1 ≡ suc n = omega arith in sym (ap (λ (m : ℕ). words (drop m (b ∷ bs))) k))

pub words_word : (text : List ℕ) (w : Word) (n : ℕ) → 0 < length text → piece (get_or text 0 0) (drop 1 text) ≡ word w n → words text ≡ w ∷ words (drop (n + 1) text)
words_word [] w n h e = absurd (omega (arith, h))
words_word (b ∷ bs) w n h e = word_first b bs w n e ∙ (let k : n + 1 ≡ suc n = omega arith in sym (ap (λ (m : ℕ). w ∷ words (drop m (b ∷ bs))) k))

pub words_none : (text : List ℕ) → length text ≡ 0 → words text ≡ []
unfolding words_from
words_none [] e = refl
words_none (b ∷ bs) e = absurd (omega (arith, e))

pub take_front : (text : List ℕ) (n : ℕ) → 0 < length text → take (n + 1) text ≡ get_or text 0 0 ∷ take n (drop 1 text)
take_front [] n h = absurd (omega (arith, h))
take_front (b ∷ bs) n h = let k : n + 1 ≡ suc n = omega arith in ap (λ (m : ℕ). take m (b ∷ bs)) k

pub piece_name : (b : ℕ) (bs : List ℕ) (w : Word) (n : ℕ) → is_blank b ≡ false → (b ≡ 47 → ⊥) → is_name_byte b ≡ true → n ≡ prefix_len is_name_byte bs → w ≡ name_word (b ∷ take n bs) → piece b bs ≡ word w n
unfolding piece
piece_name b bs w n blank slash is_name len e = rw (blank, ne_eqb b 47 slash, is_name) (rw (e, len) refl)

bytes_skip : (k : ℕ) (bs : List ℕ) → string_bytes k bs ≡ string_bytes 0 (drop k bs)
unfolding string_bytes
bytes_skip zero bs = refl
bytes_skip (suc k) [] = refl
bytes_skip (suc k) (b ∷ bs) = bytes_skip k bs

bytes_quote : (b : ℕ) (bs : List ℕ) → b ≡ 34 → string_bytes 0 (b ∷ bs) ≡ []
unfolding string_bytes
bytes_quote b bs e = rw e refl

bytes_none : (b : ℕ) (bs : List ℕ) → (b ≡ 34 → ⊥) → None ≡ unit b bs → string_bytes 0 (b ∷ bs) ≡ []
unfolding string_bytes
bytes_none b bs ne none = rw (ne_eqb b 34 ne, sym none) refl

bytes_some : (b : ℕ) (bs : List ℕ) (u : ℕ × ℕ) → (b ≡ 34 → ⊥) → Some u ≡ unit b bs → string_bytes 0 (b ∷ bs) ≡ u.0 ∷ string_bytes 0 (drop u.1 bs)
unfolding string_bytes
bytes_some b bs u ne some = rw (ne_eqb b 34 ne, sym some) (ap (λ (l : List ℕ). u.0 ∷ l) (bytes_skip u.1 bs))

bytes_nil : string_bytes 0 [] ≡ []
unfolding string_bytes
bytes_nil = refl

-- where nothing is left of a string, all of it was appended
pub bytes_over : (text front total : List ℕ) (i : ℕ) → string_bytes 0 (drop i text) ≡ [] → front ++ string_bytes 0 (drop i text) ≡ total → front ≡ total
bytes_over text front total i e h = sym (append-nil front) ∙ ap (λ (l : List ℕ). front ++ l) (sym e) ∙ h

pub bytes_at_end : (text : List ℕ) (i : ℕ) → length text ≤ i → string_bytes 0 (drop i text) ≡ []
bytes_at_end text i le = ap (string_bytes 0) (drop_all i text le) ∙ bytes_nil

pub bytes_at_quote : (text : List ℕ) (i : ℕ) → i < length text → get_or text i 0 ≡ 34 → string_bytes 0 (drop i text) ≡ []
bytes_at_quote text i lt e = ap (string_bytes 0) (drop-cons text i 0 lt) ∙ bytes_quote (get_or text i 0) (drop (suc i) text) e

pub bytes_at_none : (text : List ℕ) (i : ℕ) → i < length text → (get_or text i 0 ≡ 34 → ⊥) → None ≡ unit (get_or text i 0) (drop (i + 1) text) → string_bytes 0 (drop i text) ≡ []
bytes_at_none text i lt ne none =
    ap (string_bytes 0) (drop-cons text i 0 lt)
    ∙ bytes_none (get_or text i 0) (drop (suc i) text) ne (let e : i + 1 ≡ suc i = omega arith in subst (λ (n : ℕ). None ≡ unit (get_or text i 0) (drop n text)) e none)

pub bytes_more : (text front total : List ℕ) (i : ℕ) (u : ℕ × ℕ) → i < length text → (get_or text i 0 ≡ 34 → ⊥) → Some u ≡ unit (get_or text i 0) (drop (i + 1) text)
    → front ++ string_bytes 0 (drop i text) ≡ total → (front ++ u.0 ∷ []) ++ string_bytes 0 (drop (i + (1 + u.1)) text) ≡ total
bytes_more text front total i u lt ne some h =
    let here = ap (string_bytes 0) (drop-cons text i 0 lt)
    ∙ bytes_some (get_or text i 0) (drop (suc i) text) u ne (let e : i + 1 ≡ suc i = omega arith in subst (λ (n : ℕ). Some u ≡ unit (get_or text i 0) (drop n text)) e some)
    ∙ ap (λ (l : List ℕ). u.0 ∷ string_bytes 0 l) (drop-drop u.1 (suc i) text ∙ (let e : i + (1 + u.1) ≡ suc i + u.1 = omega arith in sym (ap (λ (n : ℕ). drop n text) e))) in
    append_assoc front (u.0 ∷ []) (string_bytes 0 (drop (i + (1 + u.1)) text)) ∙ sym (ap (λ (l : List ℕ). front ++ l) here) ∙ h
