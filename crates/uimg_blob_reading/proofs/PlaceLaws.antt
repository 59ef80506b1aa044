-- The places of the nodes so far, and of those that begin after them.
use Rattle.std.proofs.Common.{◌≡◌, ℕ, List, [], ◌∷◌, ◌++◌, map, Ok, Err, refl, ap, sym, ◌∙◌, subst}
use Rattle.std.proofs.lemmas.List.{map-append}
use Rattle.uimg_blob_reading.specs.Tokens.{Token, begin_node, end_node, prop, nop, last, stray}
use Rattle.uimg_blob_reading.specs.{Grammar.{none, node}, Walk.opened, Kept.Kept}
use Rattle.uimg_blob_reading.specs.SoFar.{so_far, next_number, open_row}
use Rattle.uimg_blob_reading.specs.Passes.{Phase, inside, after, on, step, nodes_at, begin_places}
use Rattle.uimg_blob_reading.proofs.SoFarLaws.{Seam, begin_row, property_row, end_row, root_row}
use Rattle.uimg_blob_reading.proofs.CostLaws.{on_stop, on_same}
use Rattle.std.proofs.Common.{arith}

abbrev places : List Kept → List ℕ
places ks = map (λ k. k.at) ks

-- a change that leaves a node's place
seam_places : (i : ℕ) (change : Kept → Kept) (old new : List Kept) → ((k : Kept) → (change k).at ≡ k.at) → Seam i change old new → places new ≡ places old
seam_places i change old new same s = grind (arith, map-append)

nothing : (xs : List ℕ) → xs ≡ xs ++ []
nothing [] = refl
nothing (x ∷ xs) = ap (λ (l : List ℕ). x ∷ l) (nothing xs)

-- a node is added to the nodes so far where a token begins one
pub places_more : (p : Phase) (t : Token) (q : Phase) → step p t ≡ on q → places (nodes_at q) ≡ places (nodes_at p) ++ begin_places (t ∷ [])
unfolding next_number
places_more (inside ls) (begin_node at (Ok name)) q h =
    subst (λ (k : Phase). places (nodes_at k) ≡ places (so_far ls) ++ at ∷ []) (on_same _ q h)
    (ap places (begin_row ls at name) ∙ map-append (λ k. k.at) (so_far ls) (open_row ls at name [] ∷ []))
places_more (inside ls) (begin_node at (Err f)) q h = absurd (on_stop (sym h))
places_more (after o) (begin_node at name) q h = absurd (on_stop (sym h))
places_more (inside []) (end_node at) q h = absurd (on_stop (sym h))
places_more (inside (opened a name own below ∷ [])) (end_node at) q h =
    subst (λ (k : Phase). places (nodes_at k) ≡ places (so_far (opened a name own below ∷ [])) ++ []) (on_same _ q h)
    (seam_places _ _ _ _ (λ k. refl) (root_row a name own below) ∙ nothing _)
places_more (inside (opened a name own below ∷ opened a' name' own' below' ∷ ls)) (end_node at) q h =
    subst (λ (k : Phase). places (nodes_at k) ≡ places (so_far (opened a name own below ∷ opened a' name' own' below' ∷ ls)) ++ []) (on_same _ q h)
    (seam_places _ _ _ _ (λ k. refl) (end_row a name own below a' name' own' below' ls) ∙ nothing _)
places_more (after o) (end_node at) q h = absurd (on_stop (sym h))
places_more (inside []) (prop at x) q h = absurd (on_stop (sym h))
places_more (inside (opened a name own none ∷ ls)) (prop at (Ok x)) q h =
    subst (λ (k : Phase). places (nodes_at k) ≡ places (so_far (opened a name own none ∷ ls)) ++ []) (on_same _ q h)
    (seam_places _ _ _ _ (λ k. refl) (property_row ls a name own x) ∙ nothing _)
places_more (inside (opened a name own none ∷ ls)) (prop at (Err f)) q h = absurd (on_stop (sym h))
places_more (inside (opened a name own (node a' b c d e) ∷ ls)) (prop at x) q h = absurd (on_stop (sym h))
places_more (after o) (prop at x) q h = absurd (on_stop (sym h))
places_more p (nop at) q h = subst (λ (k : Phase). places (nodes_at k) ≡ places (nodes_at p) ++ []) (on_same _ q h) (nothing _)
places_more (inside ls) (last at) q h = absurd (on_stop (sym h))
places_more (after o) (last at) q h = absurd (on_stop (sym h))
places_more p (stray at f) q h = absurd (on_stop (sym h))
