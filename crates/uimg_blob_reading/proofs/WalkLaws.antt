-- One pass with the open nodes is the grammar.
use Rattle.std.proofs.Common.{◌≡◌, ◌≤◌, ℕ, zero, suc, List, [], ◌∷◌, ◌++◌, length, Result, Ok, Err, refl, ap, sym, ◌∙◌, append_assoc, arith}
use Rattle.std.specs.Bool.{⊤}
use Rattle.uimg_base.specs.Results.{◌>>=◌}
use Rattle.uimg_blob_reading.specs.Reading.{Fault}
use Rattle.uimg_blob_reading.specs.Tokens.{Property, Token, begin_node, end_node, prop, nop, last, stray}
use Rattle.uimg_blob_reading.specs.Grammar.{Siblings, none, node, Parses, properties, end, inside, children, ended, root, without_nops}
use Rattle.uimg_blob_reading.specs.Walk.{Open, opened, join, with_child, finished, walk, begun}

-- the children from here and the END_NODE of a node with these properties and these children before
abbrev pub closing : ℕ → List Property → Siblings → Parses (List Property × Siblings)
closing n own before ts = do
  below ← children n ts
  left ← end below.1
  Ok ((own, join before below.0), left)

-- what the tokens give for the rest of an open node, of at most n levels and nodes below it
abbrev pub rest : ℕ → Open → Parses (List Property × Siblings)
rest n (opened at name own none) ts = do
  more ← properties ts
  closing n (own ++ more.0) none more.1
rest n (opened at name own (node a' name' own' below' after')) ts = closing n own (node a' name' own' below' after') ts

-- the open nodes outside, each with its bound
abbrev pub close_all : ℕ → List ℕ → List (ℕ × Open) → (List Property × Siblings) × List Token → Result Siblings Fault
close_all at name [] x = ended (node at name x.0.0 x.0.1 none) x.1
close_all at name ((m, opened at' name' own' below') ∷ ls) x = do
  y ← rest m (with_child (opened at' name' own' below') at name x.0.0 x.0.1) x.1
  close_all at' name' ls y

-- what the tokens give, with these open nodes
abbrev pub resume : ℕ → Open → List (ℕ × Open) → List Token → Result Siblings Fault
resume n (opened at name own below) ls ts = do
  x ← rest n (opened at name own below) ts
  close_all at name ls x

abbrev pub opens : List (ℕ × Open) → List Open
opens [] = []
opens (l ∷ ls) = l.1 ∷ opens ls

abbrev pub Enough : ℕ → List (ℕ × Open) → Type 0
Enough k [] = ⊤
Enough k (l ∷ ls) = (k ≤ l.0) × Enough k ls

enough_less : (k : ℕ) (ls : List (ℕ × Open)) → Enough (suc k) ls → Enough k ls
enough_less k [] h = h
enough_less k (l ∷ ls) h = (omega (arith, h.0), enough_less k ls h.1)

join_none : (a : Siblings) → join a none ≡ a
join_none none = refl
join_none (node at name own below after) = ap (node at name own below) (join_none after)

join_assoc : (a b c : Siblings) → join (join a b) c ≡ join a (join b c)
join_assoc none b c = refl
join_assoc (node at name own below after) b c = ap (node at name own below) (join_assoc after b c)

append_none : (a : List Property) → a ++ [] ≡ a
append_none [] = refl
append_none (x ∷ xs) = ap (λ (l : List Property). x ∷ l) (append_none xs)

finished_ended : (t : Siblings) (ts : List Token) → finished t ts ≡ ended t (without_nops ts)
unfolding finished without_nops
finished_ended t [] = refl
finished_ended t (nop at ∷ ts) = finished_ended t ts
finished_ended t (last at ∷ ts) = refl
finished_ended t (begin_node at name ∷ ts) = refl
finished_ended t (end_node at ∷ ts) = refl
finished_ended t (prop at p ∷ ts) = refl
finished_ended t (stray at f ∷ ts) = refl

-- a property more, then the rest
prop_more : (n a : ℕ) (name : List ℕ) (own : List Property) (p : Property) (ls : List (ℕ × Open)) (r : Result (List Property × List Token) Fault)
    → (r >>= (λ more. closing n ((own ++ p ∷ []) ++ more.0) none more.1) >>= close_all a name ls)
    ≡ (r >>= (λ more. (let y : Result (List Property × List Token) Fault = Ok (p ∷ more.0, more.1) in y)) >>= (λ more. closing n (own ++ more.0) none more.1) >>= close_all a name ls)
prop_more n a name own p ls (Err e) = refl
prop_more n a name own p ls (Ok x) = ap (λ (l : List Property). closing n l none x.1 >>= close_all a name ls) (append_assoc own (p ∷ []) x.0)

one_more : (n a a' : ℕ) (name name' : List ℕ) (own own' : List Property) (below before : Siblings) (ls : List (ℕ × Open)) (r : Result (Siblings × List Token) Fault)
    → (r >>= (λ more. end more.1 >>= λ left. (let y : Result ((List Property × Siblings) × List Token) Fault = Ok ((own, join (join before (node a' name' own' below none)) more.0), left) in y)) >>= close_all a name ls)
    ≡ (r >>= (λ more. (let y : Result (Siblings × List Token) Fault = Ok (node a' name' own' below more.0, more.1) in y)) >>= (λ below. end below.1 >>= λ left. (let y : Result ((List Property × Siblings) × List Token) Fault = Ok ((own, join before below.0), left) in y)) >>= close_all a name ls)
one_more n a a' name name' own own' below before ls r = grind (arith, join_assoc)

-- one child more, then the others
child_more : (n a a' : ℕ) (name name' : List ℕ) (own : List Property) (before : Siblings) (ls : List (ℕ × Open)) (r : Result ((List Property × Siblings) × List Token) Fault)
    → (r >>= (λ x. closing n own (join before (node a' name' x.0.0 x.0.1 none)) x.1 >>= close_all a name ls))
    ≡ (r >>= (λ x. children n x.1 >>= λ more. (let y : Result (Siblings × List Token) Fault = Ok (node a' name' x.0.0 x.0.1 more.0, more.1) in y)) >>= (λ below. end below.1 >>= λ left. (let y : Result ((List Property × Siblings) × List Token) Fault = Ok ((own, join before below.0), left) in y)) >>= close_all a name ls)
child_more n a a' name name' own before ls (Err e) = refl
child_more n a a' name name' own before ls (Ok x) = one_more n a a' name name' own x.0.0 x.0.1 before ls (children n x.1)

pub walk_is : (ts : List Token) (n : ℕ) (o : Open) (ls : List (ℕ × Open)) → length (without_nops ts) ≤ n → Enough (length (without_nops ts)) ls
    → walk o (opens ls) ts ≡ resume n o ls (without_nops ts)
unfolding walk without_nops properties children
walk_is [] zero (opened at name own none) ls h e = refl
walk_is [] (suc n) (opened at name own none) ls h e = refl
walk_is [] zero (opened at name own (node a' name' own' below' after')) ls h e = refl
walk_is [] (suc n) (opened at name own (node a' name' own' below' after')) ls h e = refl
walk_is (nop at ∷ ts) n o ls h e = walk_is ts n o ls h e
walk_is (begin_node a (Ok name) ∷ ts) zero o ls h e = absurd (omega (arith, h))
walk_is (begin_node a (Ok name) ∷ ts) (suc n) (opened at' name' own' none) ls h e =
    walk_is ts n (opened a name [] none) ((n, opened at' name' own' none) ∷ ls) (omega (arith, h)) (omega (arith, h), enough_less _ _ e)
    ∙ child_more n at' a name' name own' none ls (inside (children n) (without_nops ts))
    ∙ ap (λ (l : List Property). closing (suc n) l none (begin_node a (Ok name) ∷ without_nops ts) >>= close_all at' name' ls) (sym (append_none own'))
walk_is (begin_node a (Ok name) ∷ ts) (suc n) (opened at' name' own' (node x1 x2 x3 x4 x5)) ls h e =
    walk_is ts n (opened a name [] none) ((n, opened at' name' own' (node x1 x2 x3 x4 x5)) ∷ ls) (omega (arith, h)) (omega (arith, h), enough_less _ _ e)
    ∙ child_more n at' a name' name own' (node x1 x2 x3 x4 x5) ls (inside (children n) (without_nops ts))
walk_is (begin_node a (Err f) ∷ ts) zero o ls h e = absurd (omega (arith, h))
walk_is (begin_node a (Err f) ∷ ts) (suc n) (opened at' name' own' none) ls h e = refl
walk_is (begin_node a (Err f) ∷ ts) (suc n) (opened at' name' own' (node x1 x2 x3 x4 x5)) ls h e = refl
walk_is (prop a (Ok p) ∷ ts) n (opened at' name' own' none) ls h e =
    walk_is ts n (opened at' name' (own' ++ p ∷ []) none) ls (omega (arith, h)) (enough_less _ _ e)
    ∙ prop_more n at' name' own' p ls (properties (without_nops ts))
walk_is (prop a (Err f) ∷ ts) n (opened at' name' own' none) ls h e = refl
walk_is (prop a p ∷ ts) zero (opened at' name' own' (node x1 x2 x3 x4 x5)) ls h e = absurd (omega (arith, h))
walk_is (prop a (Ok p) ∷ ts) (suc n) (opened at' name' own' (node x1 x2 x3 x4 x5)) ls h e = refl
walk_is (prop a (Err p) ∷ ts) (suc n) (opened at' name' own' (node x1 x2 x3 x4 x5)) ls h e = refl
walk_is (end_node a ∷ ts) zero o ls h e = absurd (omega (arith, h))
walk_is (end_node a ∷ ts) (suc n) (opened at' name' own' none) [] h e =
    finished_ended _ ts ∙ ap (λ (l : List Property). ended (node at' name' l none none) (without_nops ts)) (sym (append_none own'))
walk_is (end_node a ∷ ts) (suc n) (opened at' name' own' (node x1 x2 x3 x4 x5)) [] h e =
    finished_ended _ ts ∙ ap (λ (b : Siblings). ended (node at' name' own' b none) (without_nops ts)) (sym (join_none (node x1 x2 x3 x4 x5)))
walk_is (end_node a ∷ ts) (suc n) (opened at' name' own' none) ((m, opened q qname qown qbelow) ∷ ls) h e =
    walk_is ts m (opened q qname qown (join qbelow (node at' name' own' none none))) ls (omega (arith, e.0)) (enough_less _ _ e.1)
    ∙ ap (λ (l : List Property). rest m (opened q qname qown (join qbelow (node at' name' l none none))) (without_nops ts) >>= close_all q qname ls) (sym (append_none own'))
walk_is (end_node a ∷ ts) (suc n) (opened at' name' own' (node x1 x2 x3 x4 x5)) ((m, opened q qname qown qbelow) ∷ ls) h e =
    walk_is ts m (opened q qname qown (join qbelow (node at' name' own' (node x1 x2 x3 x4 x5) none))) ls (omega (arith, e.0)) (enough_less _ _ e.1)
    ∙ ap (λ (b : Siblings). rest m (opened q qname qown (join qbelow (node at' name' own' b none))) (without_nops ts) >>= close_all q qname ls) (sym (join_none (node x1 x2 x3 x4 x5)))
walk_is (last a ∷ ts) zero o ls h e = absurd (omega (arith, h))
walk_is (last a ∷ ts) (suc n) (opened at' name' own' none) ls h e = refl
walk_is (last a ∷ ts) (suc n) (opened at' name' own' (node x1 x2 x3 x4 x5)) ls h e = refl
walk_is (stray a f ∷ ts) zero o ls h e = absurd (omega (arith, h))
walk_is (stray a f ∷ ts) (suc n) (opened at' name' own' none) ls h e = refl
walk_is (stray a f ∷ ts) (suc n) (opened at' name' own' (node x1 x2 x3 x4 x5)) ls h e = refl

-- One pass is the grammar, with the same tree, or the same fault and offset.
pub begun_is : (ts : List Token) → begun ts ≡ root (without_nops ts)
unfolding begun root without_nops
begun_is [] = refl
begun_is (nop a ∷ ts) = begun_is ts
begun_is (begin_node a (Ok name) ∷ ts) = walk_is ts (length (without_nops ts)) (opened a name [] none) [] (omega arith) tt
begun_is (begin_node a (Err f) ∷ ts) = refl
begun_is (end_node a ∷ ts) = refl
begun_is (prop a p ∷ ts) = refl
begun_is (last a ∷ ts) = refl
begun_is (stray a f ∷ ts) = refl
