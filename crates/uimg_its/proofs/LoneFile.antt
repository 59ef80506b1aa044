-- A file that is the whole value of a property.
use Rattle.std.proofs.Common.{◌≡◌, ℕ, List, [], ◌∷◌, Option, Some, None, true, refl, ap, ◌∙◌}
use Rattle.std.specs.Prelude.{cond, codes}
use Rattle.uimg_its.specs.declared.tokens.Mark.TheVariants.{Semicolon, ParenOpen, ParenClose}
use Rattle.uimg_its.specs.{Parts.FileBytes, Words.{Word, directive, text, mark}}
use Rattle.uimg_its.specs.Reader.{take_word, expect, string, is_incbin, lone_file, values}
use Rattle.uimg_its.specs.Grammar.{incbin, one}
use Rattle.uimg_its.proofs.{Shrinking.{bind_some, some_is, pair_leads}, SpelledIsRead.values_again}
use Rattle.uimg_its.proofs.ValuesAreSpelled.{string_is, expect_is, next_is, guard, bytes_same}

incbin_is : (w : Word) → is_incbin w ≡ true → w ≡ directive (codes "incbin")
incbin_is (directive d) e = ap directive (bytes_same d (codes "incbin") e)
incbin_is w e = absurd (cc)

pair_first : {X : Type 0} → (x y : X) (ws after : List Word) → ◌≡◌ {A = Option (X × List Word)} (Some (x, ws)) (Some (y, after)) → x ≡ y
pair_first {X = X} x y ws after e = ap (λ (p : X × List Word). p.0) (some_is _ _ e)

pub lone_is : (ws after : List Word) (n : List ℕ) → lone_file ws ≡ Some (n, after) → ws ≡ directive (codes "incbin") ∷ mark ParenOpen ∷ text n ∷ mark ParenClose ∷ mark Semicolon ∷ after
unfolding lone_file
lone_is ws after n e =
    let w = bind_some (take_word ws) _ (n, after) e in
    let opened = bind_some (cond (is_incbin w.0.0) (Some w.0.1) None) _ (n, after) w.2 in
    let inner = bind_some (expect ParenOpen opened.0) _ (n, after) opened.2 in
    let s = bind_some (string inner.0) _ (n, after) inner.2 in
    let closed = bind_some (expect ParenClose s.0.1) _ (n, after) s.2 in
    let rest = bind_some (expect Semicolon closed.0) (λ rest. (let x : List ℕ × List Word = (s.0.0, rest) in Some x)) (n, after) closed.2 in
    let g = guard (is_incbin w.0.0) w.0.1 opened.0 opened.1 in
    next_is ws w.0.1 w.0.0 w.1 ∙ ap (λ (x : Word). x ∷ w.0.1) (incbin_is w.0.0 g.0)
    ∙ ap (λ (l : List Word). directive (codes "incbin") ∷ l) (g.1 ∙ expect_is ParenOpen opened.0 inner.0 inner.1
    ∙ ap (λ (l : List Word). mark ParenOpen ∷ l) (string_is inner.0 s.0.1 s.0.0 s.1 ∙ ap (λ (m : List ℕ). text m ∷ s.0.1) (pair_first _ _ _ _ rest.2)
    ∙ ap (λ (l : List Word). text n ∷ l) (expect_is ParenClose s.0.1 closed.0 closed.1
    ∙ ap (λ (l : List Word). mark ParenClose ∷ l) (expect_is Semicolon closed.0 rest.0 rest.1 ∙ ap (λ (l : List Word). mark Semicolon ∷ l) (pair_leads _ _ _ _ rest.2)))))

-- the value is what the files have at its name
pub lone_value : (files : FileBytes) (ws after : List Word) (n v : List ℕ) → lone_file ws ≡ Some (n, after) → files n ≡ Some v → values files ws ≡ Some (v, after)
lone_value files ws after n v e there = ap (values files) (lone_is ws after n e) ∙ values_again files (directive (codes "incbin") ∷ mark ParenOpen ∷ text n ∷ mark ParenClose ∷ []) v after (one (incbin n there refl))
