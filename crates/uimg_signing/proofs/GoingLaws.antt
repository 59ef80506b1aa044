-- The tokens of a tree, one after another.
use Rattle.std.proofs.Common.{◌≡◌, ℕ, zero, suc, ◌+◌, List, [], ◌∷◌, length, Option, Some, None, Result, Ok, Err, Bool, true, false, refl, ap, subst, ◌∙◌, arith}
use Rattle.std.specs.Prelude.{nat_lt, if◌then◌else◌}
use Rattle.std.proofs.Common.{inl, inr, ◌<◌, ◌≤◌}
use Rattle.uimg_blob_reading.specs.Tokens.{Token, begin_node, end_node, prop, nop, last, stray, Blocks, token_at, next, tokens_from, by_word}
use Rattle.uimg_blob_reading.specs.declared.fault.BlobFault.TheVariants.{Truncated}
use Rattle.uimg_blob_reading.specs.{Grammar.{Siblings, none, node, root, without_nops}}
use Rattle.uimg_blob_reading.proofs.WalkLaws.{begun_is}
use Rattle.uimg_blob_reading.specs.Walk.{Open, opened, walk, begun, finished, as_node, close}
use Rattle.uimg_texts.specs.Numbers.{be32}
use Rattle.uimg_signing.specs.{Covering.{after, size_of}, Turning.{is_last, coded}, Going.{is_wrong, GoesWell, Beyond, IsBad}}

-- a refusal is no result
pub err_ok : {A F : Type 0} {e : F} {x : A} → (let r : Result A F = Err e in r) ≡ Ok x → ⊥
err_ok h = grind (arith, h)

-- what is said of a token and those after it
abbrev Next : Siblings → List ℕ → Token → List Token → Type 0
Next t nodes k ts = (is_wrong nodes k ≡ false) × (is_last k ≡ false → GoesWell t (after nodes k) ts)

in_node : (t : Siblings) (a : ℕ) (nodes : List ℕ) (k : Token) (ts : List Token) (o : Open) (ls : List Open) → length ls ≡ length nodes → walk o ls (k ∷ ts) ≡ Ok t → Next t (a ∷ nodes) k ts
unfolding walk
in_node t a nodes (begin_node at (Ok name)) ts o ls size h = (refl, λ n. (opened at name [] none, o ∷ ls, ap suc size, h))
in_node t a nodes (begin_node at (Err fault)) ts o ls size h = absurd (err_ok h)
in_node t a [] (end_node at) ts o [] size h = (refl, λ n. inr (as_node o, h))
in_node t a [] (end_node at) ts o (parent ∷ ls) size h = absurd (omega (arith, size))
in_node t a (b ∷ nodes) (end_node at) ts o [] size h = absurd (omega (arith, size))
in_node t a (b ∷ nodes) (end_node at) ts o (parent ∷ ls) size h = (refl, λ n. (close o parent, ls, omega (arith, size), h))
in_node t a nodes (prop at (Ok p)) ts (opened place name own none) ls size h = (refl, λ n. (_, ls, size, h))
in_node t a nodes (prop at (Err fault)) ts (opened place name own none) ls size h = absurd (err_ok h)
in_node t a nodes (prop at p) ts (opened place name own (node x y z v w)) ls size h = absurd (err_ok h)
in_node t a nodes (nop at) ts o ls size h = (refl, λ n. (o, ls, size, h))
in_node t a nodes (last at) ts o ls size h = absurd (err_ok h)
in_node t a nodes (stray at fault) ts o ls size h = absurd (err_ok h)

before : (t : Siblings) (k : Token) (ts : List Token) → begun (k ∷ ts) ≡ Ok t → Next t [] k ts
unfolding begun
before t (begin_node at (Ok name)) ts h = (refl, λ n. (opened at name [] none, [], refl, h))
before t (begin_node at (Err fault)) ts h = absurd (err_ok h)
before t (end_node at) ts h = absurd (err_ok h)
before t (prop at p) ts h = absurd (err_ok h)
before t (nop at) ts h = (refl, λ n. inl h)
before t (last at) ts h = absurd (err_ok h)
before t (stray at fault) ts h = absurd (err_ok h)

behind : (t root : Siblings) (k : Token) (ts : List Token) → finished root (k ∷ ts) ≡ Ok t → Next t [] k ts
unfolding finished
behind t root (begin_node at name) ts h = absurd (err_ok h)
behind t root (end_node at) ts h = absurd (err_ok h)
behind t root (prop at p) ts h = absurd (err_ok h)
behind t root (nop at) ts h = (refl, λ n. inr (root, h))
behind t root (last at) ts h = (refl, λ n. absurd (grind (arith, n)))
behind t root (stray at fault) ts h = absurd (err_ok h)

-- a token of a tree is not wrong, and the others go on
pub well_next : (t : Siblings) (nodes : List ℕ) (k : Token) (ts : List Token) → GoesWell t nodes (k ∷ ts) → Next t nodes k ts
well_next t [] k ts (inl h) = before t k ts h
well_next t [] k ts (inr h) = behind t h.0 k ts h.1
well_next t (a ∷ nodes) k ts h = in_node t a nodes k ts h.0 h.1 h.2 h.3

-- a tree needs a token more
pub well_some : (t : Siblings) (nodes : List ℕ) → GoesWell t nodes [] → ⊥
unfolding walk begun finished
well_some t [] (inl h) = err_ok h
well_some t [] (inr h) = err_ok h.1
well_some t (a ∷ nodes) h = err_ok h.3

pub true_false : {A : Type 0} (b : Bool) → b ≡ true → b ≡ false → A
true_false b x y = absurd (grind (arith, x, y))

lt_true : (a b : ℕ) → a < b → nat_lt a b ≡ true
lt_true a b h = grind (arith, h)

-- behind the end of the block there is no token
past_end : (b : Blocks) (at : ℕ) → b.structure_end < at + 4 → token_at b at ≡ stray at Truncated
unfolding token_at
past_end b at h = ap (λ (x : Bool). if x then stray at Truncated else by_word b at (be32 b.bytes at)) (lt_true b.structure_end (at + 4) h)

pub last_size : (k : Token) → is_last k ≡ true → size_of k ≡ 4
last_size (begin_node at name) h = true_false false h refl
last_size (end_node at) h = refl
last_size (prop at p) h = true_false false h refl
last_size (nop at) h = refl
last_size (last at) h = refl
last_size (stray at fault) h = refl

one_token : (n : ℕ) (b : Blocks) (at : ℕ) → tokens_from (suc n) b (Some at) ≡ token_at b at ∷ tokens_from n b (next (token_at b at))
unfolding tokens_from
one_token n b at = refl

none_token : (b : Blocks) (at : ℕ) → tokens_from zero b (Some at) ≡ []
unfolding tokens_from
none_token b at = refl

rest_bad : (t : Siblings) (b : Blocks) (nodes : List ℕ) (n at : ℕ) → b.structure_end < at → GoesWell t nodes (tokens_from n b (Some at)) → ⊥
rest_bad t b nodes zero at past h = well_some t nodes (subst (GoesWell t nodes) (none_token b at) h)
rest_bad t b nodes (suc n) at past h =
    let w = well_next t nodes (token_at b at) (tokens_from n b (next (token_at b at))) (subst (GoesWell t nodes) (one_token n b at) h) in
    true_false (is_wrong nodes (token_at b at)) (ap (is_wrong nodes) (past_end b at (omega (arith, past)))) w.0

beyond_bad : (t : Siblings) (b : Blocks) (nodes : List ℕ) (n at : ℕ) (is_end : Bool) → is_last (token_at b at) ≡ is_end → Beyond b at (token_at b at) → GoesWell t nodes (tokens_from (suc n) b (Some at)) → ⊥
beyond_bad t b nodes n at true ends h well = absurd (omega (arith, h.beyond, h.fits, last_size (token_at b at) ends))
beyond_bad t b nodes n at false ends h well =
    let k = token_at b at in
    let w = well_next t nodes k (tokens_from n b (next k)) (subst (GoesWell t nodes) (one_token n b at) well) in
    rest_bad t b (after nodes k) n (at + size_of k) h.beyond (subst (λ (o : Option ℕ). GoesWell t (after nodes k) (tokens_from n b o)) (h.next ends) (w.1 ends))

-- no bad token among those of a tree
pub bad : (t : Siblings) (b : Blocks) (nodes : List ℕ) (n at : ℕ) → IsBad b nodes at (token_at b at) → GoesWell t nodes (tokens_from (suc n) b (Some at)) → ⊥
bad t b nodes n at (inl wrong) well =
    true_false (is_wrong nodes (token_at b at)) wrong (well_next t nodes (token_at b at) (tokens_from n b (next (token_at b at))) (subst (GoesWell t nodes) (one_token n b at) well)).0
bad t b nodes n at (inr beyond) well = beyond_bad t b nodes n at (is_last (token_at b at)) refl beyond well

goes_last : (k : Token) (m : ℕ) → next k ≡ Some m → is_last k ≡ false
goes_last (begin_node at name) m h = refl
goes_last (end_node at) m h = refl
goes_last (prop at p) m h = refl
goes_last (nop at) m h = refl
goes_last (last at) m h = absurd (grind (arith, h))
goes_last (stray at fault) m h = refl

-- the tokens after one go on
pub well_after : (t : Siblings) (b : Blocks) (nodes : List ℕ) (n at m : ℕ) → next (token_at b at) ≡ Some m → GoesWell t nodes (tokens_from (suc n) b (Some at)) → GoesWell t (after nodes (token_at b at)) (tokens_from n b (Some m))
well_after t b nodes n at m is well =
    let k = token_at b at in
    let w = well_next t nodes k (tokens_from n b (next k)) (subst (GoesWell t nodes) (one_token n b at) well) in
    subst (λ (o : Option ℕ). GoesWell t (after nodes k) (tokens_from n b o)) is (w.1 (goes_last k m is))

-- the bits of open nodes
coded_least : (listed : ℕ → Bool) (nodes : List ℕ) → 4 ≤ coded listed nodes
coded_least listed [] = omega arith
coded_least listed (a ∷ nodes) = omega (arith, coded_least listed nodes)

none_open : (listed : ℕ → Bool) (nodes : List ℕ) (bits : ℕ) → bits ≡ coded listed nodes → bits < 8 → nodes ≡ []
none_open listed [] bits is few = refl
none_open listed (a ∷ nodes) bits is few = absurd (omega (arith, is, few, coded_least listed nodes))

pub end_is_wrong : (listed : ℕ → Bool) (nodes : List ℕ) (bits : ℕ) (t : Token) (at : ℕ) → bits ≡ coded listed nodes → bits < 8 → t ≡ end_node at → is_wrong nodes t ≡ true
end_is_wrong listed nodes bits t at is few token = ap (is_wrong nodes) token ∙ ap (λ (l : List ℕ). is_wrong l (end_node at)) (none_open listed nodes bits is few)

-- a token that does not fit
pub beyond : (b : Blocks) (at : ℕ) (t : Token) (is_end : Bool) (size : ℕ) → at + 4 ≤ b.structure_end → b.structure_end < at + size → size ≡ size_of t → is_end ≡ is_last t → next t ≡ (if is_end then None else Some (at + size)) → Beyond b at t
beyond b at t is_end size fits past is ends then_at = record {
  fits = fits;
  beyond = omega (arith, past, is);
  next = λ no_end. then_at ∙ ap (λ (x : Bool). (let o : Option ℕ = if x then None else Some (at + size) in o)) (ends ∙ no_end) ∙ ap (λ (m : ℕ). (let o : Option ℕ = Some (at + m) in o)) is;
}

pub begins_well : (ts : List Token) (t : Siblings) → root (without_nops ts) ≡ Ok t → GoesWell t [] ts
begins_well ts t h = inl (begun_is ts ∙ h)
