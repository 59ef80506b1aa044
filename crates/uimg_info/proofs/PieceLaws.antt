-- Texts, cut at their first NUL.
use Rattle.std.proofs.Common.{◌≡◌, ◌<◌, ◌≤◌, ◌+◌, ℕ, zero, suc, List, [], ◌∷◌, length, take, drop, length-drop, ◌-◌, Some, None, Bool, true, false, ◌&&◌, refl, ap, sym, ◌∙◌, arith}
use Rattle.std.{proofs.lemmas.List.take_all, specs.{List.list_all, Str.is_utf8}}
use Rattle.uimg_texts.specs.Nul.{before_nul}
use Rattle.uimg_blob_reading.proofs.PhaseLaws.{some_none, some_some}
use Rattle.uimg_fit_reading.{specs.Values.{pieces, onto}, proofs.ListLaws.{behind, by_nul, empty}}

abbrev tail : List ℕ → List ℕ
tail [] = []
tail (x ∷ xs) = xs

absurd_nil : {A : Type 0} (x : ℕ) (xs : List ℕ) → x ∷ xs ≡ [] → A
absurd_nil x xs e = absurd (omega (arith, ap (λ (l : List ℕ). length l) e))

pub cut_some : (bs : List ℕ) (n : ℕ) → n < length bs → before_nul bs ≡ Some (take n bs) → pieces bs ≡ take n bs ∷ pieces (drop (suc n) bs)
unfolding before_nul pieces
cut_some [] n w is = absurd (omega (arith, w))
cut_some (zero ∷ bs) zero w is = refl
cut_some (zero ∷ bs) (suc n) w is = absurd_nil zero (take n bs) (sym (some_some [] (zero ∷ take n bs) is))
cut_some (suc b ∷ bs) zero w is = by_nul (before_nul bs)
    (λ none. absurd (some_none (sym is ∙ ap (behind b) none)))
    (λ t found. absurd_nil (suc b) t (some_some (suc b ∷ t) [] (sym (ap (behind b) found) ∙ is)))
cut_some (suc b ∷ bs) (suc n) w is = by_nul (before_nul bs)
    (λ none. absurd (some_none (sym is ∙ ap (behind b) none)))
    (λ t found. ap (onto (suc b)) (cut_some bs n (omega (arith, w)) (found ∙ ap (λ (l : List ℕ). Some (tail l)) (some_some (suc b ∷ t) (suc b ∷ take n bs) (sym (ap (behind b) found) ∙ is)))))

pub cut_none : (bs : List ℕ) → 0 < length bs → before_nul bs ≡ None → pieces bs ≡ bs ∷ []
unfolding before_nul pieces
cut_none [] some is = absurd (omega (arith, some))
cut_none (zero ∷ bs) some is = absurd (some_none is)
cut_none (suc b ∷ []) some is = refl
cut_none (suc b ∷ x ∷ bs) some is = by_nul (before_nul (x ∷ bs))
    (λ none. ap (onto (suc b)) (cut_none (x ∷ bs) (omega arith) none))
    (λ t found. absurd (some_none (sym (ap (behind b) found) ∙ is)))

-- as a slice is cut
pub cut_some_at : (bs : List ℕ) (n : ℕ) → n < length bs → before_nul bs ≡ Some (take n bs) → pieces bs ≡ take n bs ∷ pieces (take (length bs - (n + 1)) (drop (n + 1) bs))
cut_some_at bs n w is =
    let more : suc n ≡ n + 1 = omega arith in
    let all = take_all (length bs - (n + 1)) (drop (n + 1) bs) (omega (arith, length-drop (n + 1) bs)) in
    cut_some bs n w is ∙ ap (λ (l : List ℕ). take n bs ∷ pieces l) (ap (λ (k : ℕ). drop k bs) more ∙ sym all)

none_left : pieces [] ≡ []
unfolding pieces
none_left = refl

pub cut_none_at : (bs : List ℕ) → 0 < length bs → before_nul bs ≡ None → pieces bs ≡ bs ∷ pieces (take (length bs - length bs) (drop (length bs) bs))
cut_none_at bs some is =
    let no : 0 ≡ length bs - length bs = omega arith in
    cut_none bs some is ∙ ap (λ (l : List (List ℕ)). bs ∷ l) (sym none_left) ∙ ap (λ (k : ℕ). bs ∷ pieces (take k (drop (length bs) bs))) no

pub no_pieces : (bs : List ℕ) → length bs ≤ 0 → pieces bs ≡ []
no_pieces bs h = ap pieces (empty bs h) ∙ none_left

-- the first of some texts is UTF-8 or not
pub one_not : (rest p q : List ℕ) → pieces rest ≡ p ∷ pieces q → is_utf8 p ≡ false → list_all is_utf8 (pieces rest) ≡ false
one_not rest p q e fails = ap (list_all is_utf8) e ∙ ap (λ (b : Bool). b && list_all is_utf8 (pieces q)) fails

pub one_is : (rest p q : List ℕ) → pieces rest ≡ p ∷ pieces q → is_utf8 p ≡ true → list_all is_utf8 (pieces rest) ≡ list_all is_utf8 (pieces q)
one_is rest p q e is = ap (list_all is_utf8) e ∙ ap (λ (b : Bool). b && list_all is_utf8 (pieces q)) is
