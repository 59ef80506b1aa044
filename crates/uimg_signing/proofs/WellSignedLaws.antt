-- The tokens of a tree in which the path of each listed node is signed.
use Rattle.std.proofs.Common.{◌≡◌, ℕ, zero, suc, ◌+◌, ◌-◌, List, [], ◌∷◌, ◌++◌, Option, Some, None, Ok, Err, Bool, true, false, refl, sym, subst, ◌∙◌, arith}
use Rattle.std.specs.Prelude.{⊤}
use Rattle.uimg_blob_reading.specs.Tokens.{Token, begin_node, end_node, prop, nop, last, stray, Blocks, token_at, next, tokens, tokens_from}
use Rattle.uimg_blob_reading.specs.Grammar.{Siblings, none, node, root, without_nops}
use Rattle.uimg_blob_reading.specs.Walk.{Open, opened, walk, begun, finished, as_node, close, join}
use Rattle.uimg_blob_reading.proofs.WalkLaws.{begun_is}
use Rattle.uimg_signing.specs.{Covering.{around, after, innermost}, Turning.is_last, Going.is_wrong}
use Rattle.uimg_signing.specs.SignedParts.{SignsPath, SignsPaths}
use Rattle.uimg_signing.proofs.{GoingLaws.{err_ok, true_false}, MessageLaws.ok_ok, StepLaws.last_next}

-- No token is wrong, and the path of a node is signed if the node is listed, with these nodes open before them.
abbrev pub WellSigned : (ℕ → Bool) → List ℕ → List Token → Type 0
WellSigned listed nodes [] = ⊤
WellSigned listed nodes (k ∷ ts) =
    (is_wrong nodes k ≡ false) × (innermost listed (around nodes k) ≡ true → SignsPath listed (around nodes k)) × WellSigned listed (after nodes k) ts

-- Nothing follows FDT_END.
abbrev pub LastEnds : List Token → Type 0
LastEnds [] = ⊤
LastEnds (k ∷ ts) = (is_last k ≡ true → ts ≡ []) × LastEnds ts

none_after : (n : ℕ) (b : Blocks) (o : Option ℕ) → o ≡ None → tokens_from n b o ≡ []
unfolding tokens_from
none_after zero b None is = refl
none_after (suc n) b None is = refl
none_after n b (Some at) is = absurd (grind (arith, is))

last_ends : (n : ℕ) (b : Blocks) (o : Option ℕ) → LastEnds (tokens_from n b o)
unfolding tokens_from
last_ends zero b None = tt
last_ends (suc n) b None = tt
last_ends zero b (Some at) = tt
last_ends (suc n) b (Some at) = ((λ h. none_after n b (next (token_at b at)) (last_next (token_at b at) h)), last_ends n b (next (token_at b at)))

-- the offsets of open nodes
abbrev pub places : List Open → List ℕ
places [] = []
places (opened at name own below ∷ ls) = at ∷ places ls

-- In open nodes the path of each node that is listed is signed.
abbrev SignsOpens : (ℕ → Bool) → List Open → Type 0
SignsOpens listed [] = ⊤
SignsOpens listed (opened at name own below ∷ ls) =
    (listed at ≡ true → SignsPath listed (at ∷ places ls)) × SignsPaths listed (at ∷ places ls) below × SignsOpens listed ls

-- joined siblings, one after the other
apart : (listed : ℕ → Bool) (nodes : List ℕ) (a b : Siblings) → SignsPaths listed nodes (join a b) → SignsPaths listed nodes a × SignsPaths listed nodes b
apart listed nodes none b h = (tt, h)
apart listed nodes (node at name own below after) b h = let r = apart listed nodes after b h.2 in ((h.0, h.1, r.0), r.1)

-- a node as it was before it was closed
reopened : (listed : ℕ → Bool) (o parent : Open) (ls : List Open) → SignsOpens listed (close o parent ∷ ls) → SignsOpens listed (o ∷ parent ∷ ls)
reopened listed (opened at name own below) (opened place above mine under) ls h =
    let r = apart listed (place ∷ places ls) under (node at name own below none) h.1 in (r.1.0, r.1.1, (h.0, r.0, h.2))

whole : (listed : ℕ → Bool) (o : Open) → SignsPaths listed [] (as_node o) → SignsOpens listed (o ∷ [])
whole listed (opened at name own below) h = (h.0, h.1, tt)

module _ (listed : ℕ → Bool) (t : Siblings) (signs : SignsPaths listed [] t) where
  finished_well : (r : Siblings) (ts : List Token) → LastEnds ts → finished r ts ≡ Ok t → (r ≡ t) × WellSigned listed [] ts
  unfolding finished
  finished_well r [] ends h = absurd (err_ok h)
  finished_well r (nop at ∷ ts) ends h = let f = finished_well r ts ends.1 h in (f.0, (refl, (λ x. true_false true refl (sym x)), f.1))
  finished_well r (last at ∷ ts) ends h = (ok_ok r t h, (refl, (λ x. true_false true refl (sym x)), subst (WellSigned listed []) (sym (ends.0 refl)) tt))
  finished_well r (begin_node at name ∷ ts) ends h = absurd (err_ok h)
  finished_well r (end_node at ∷ ts) ends h = absurd (err_ok h)
  finished_well r (prop at p ∷ ts) ends h = absurd (err_ok h)
  finished_well r (stray at fault ∷ ts) ends h = absurd (err_ok h)

  -- the path of the innermost node
  its_path : (o : Open) (ls : List Open) → SignsOpens listed (o ∷ ls) → innermost listed (places (o ∷ ls)) ≡ true → SignsPath listed (places (o ∷ ls))
  its_path (opened at name own below) ls h = h.0

  no_end : (o : Open) (ls : List Open) (at : ℕ) → is_wrong (places (o ∷ ls)) (end_node at) ≡ false
  no_end (opened place name own below) ls at = refl

  closed : (o parent : Open) (ls : List Open) (at : ℕ) (ts : List Token) → WellSigned listed (places (close o parent ∷ ls)) ts → WellSigned listed (after (places (o ∷ parent ∷ ls)) (end_node at)) ts
  closed (opened a name own below) (opened place above mine under) ls at ts h = h

  walk_well : (ts : List Token) (o : Open) (ls : List Open) → LastEnds ts → walk o ls ts ≡ Ok t → SignsOpens listed (o ∷ ls) × WellSigned listed (places (o ∷ ls)) ts
  unfolding walk
  walk_well [] o ls ends h = absurd (err_ok h)
  walk_well (nop at ∷ ts) o ls ends h = let r = walk_well ts o ls ends.1 h in (r.0, (refl, its_path o ls r.0, r.1))
  walk_well (begin_node at (Ok name) ∷ ts) o ls ends h = let r = walk_well ts (opened at name [] none) (o ∷ ls) ends.1 h in (r.0.2, (refl, r.0.0, r.1))
  walk_well (begin_node at (Err fault) ∷ ts) o ls ends h = absurd (err_ok h)
  walk_well (prop at (Ok p) ∷ ts) (opened place name own none) ls ends h =
      let r = walk_well ts (opened place name (own ++ p ∷ []) none) ls ends.1 h in ((r.0.0, r.0.1, r.0.2), (refl, r.0.0, r.1))
  walk_well (prop at (Err fault) ∷ ts) (opened place name own none) ls ends h = absurd (err_ok h)
  walk_well (prop at p ∷ ts) (opened place name own (node a b c d e)) ls ends h = absurd (err_ok h)
  walk_well (end_node at ∷ ts) (opened place name own below) [] ends h =
      let f = finished_well (as_node (opened place name own below)) ts ends.1 h in
      let s = whole listed (opened place name own below) (subst (SignsPaths listed []) (sym f.0) signs) in (s, (refl, s.0, f.1))
  walk_well (end_node at ∷ ts) o (parent ∷ ls) ends h =
      let r = walk_well ts (close o parent) ls ends.1 h in
      let s = reopened listed o parent ls r.0 in (s, (no_end o (parent ∷ ls) at, its_path o (parent ∷ ls) s, closed o parent ls at ts r.1))
  walk_well (last at ∷ ts) o ls ends h = absurd (err_ok h)
  walk_well (stray at fault ∷ ts) o ls ends h = absurd (err_ok h)

  begun_well : (ts : List Token) → LastEnds ts → begun ts ≡ Ok t → WellSigned listed [] ts
  unfolding begun
  begun_well [] ends h = absurd (err_ok h)
  begun_well (nop at ∷ ts) ends h = (refl, (λ x. true_false true refl (sym x)), begun_well ts ends.1 h)
  begun_well (begin_node at (Ok name) ∷ ts) ends h = let r = walk_well ts (opened at name [] none) [] ends.1 h in (refl, r.0.0, r.1)
  begun_well (begin_node at (Err fault) ∷ ts) ends h = absurd (err_ok h)
  begun_well (end_node at ∷ ts) ends h = absurd (err_ok h)
  begun_well (prop at p ∷ ts) ends h = absurd (err_ok h)
  begun_well (last at ∷ ts) ends h = absurd (err_ok h)
  begun_well (stray at fault ∷ ts) ends h = absurd (err_ok h)

-- the tokens of such a tree
pub well_signed : (listed : ℕ → Bool) (b : Blocks) (t : Siblings) → SignsPaths listed [] t → root (without_nops (tokens b)) ≡ Ok t → WellSigned listed [] (tokens b)
well_signed listed b t signs rooted =
    begun_well listed t signs (tokens b) (last_ends (suc (b.structure_end - b.structure)) b (Some b.structure)) (begun_is (tokens b) ∙ rooted)
