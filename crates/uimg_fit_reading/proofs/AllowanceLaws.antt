-- What the nodes of a file are allowed is within what its metadata leaves.
use Rattle.std.proofs.Common.{◌≡◌, ◌≤◌, ◌+◌, ◌*◌, ℕ, zero, suc, List, [], ◌∷◌, length, map, Ok, Err, Result, refl, arith}
use Rattle.std.{specs.{List.{sum_by, count_by}, Result.IfOk}, proofs.lemmas.List.Sums.sum_by-cons}
use Rattle.uimg_base.specs.Results.{◌>>=◌}
use Rattle.uimg_blob_reading.specs.{declared.fault.BlobFault.BlobFault, Reading.Fault}
use Rattle.uimg_blob_reading.specs.{Blob.{blocks, tree, met_in, met_from}, Spots.{spot_of, spots}}
use Rattle.uimg_blob_reading.specs.Tokens.{Property, Token, Blocks, begin_node, end_node, prop, nop, last, stray, tokens}
use Rattle.uimg_blob_reading.specs.Grammar.{Siblings, none, node, properties, end, inside, children, ended, root, without_nops}
use Rattle.uimg_blob_reading.specs.Counts.{is_begin, text_length, begun_by, sound_in, nodes_met, texts_met}
use Rattle.uimg_fit_base.proofs.ReadLaws.{on-bind}
use Rattle.uimg_fit_reading.specs.Allowances.{text_size, text_sizes, allowance}
use Rattle.uimg_texts.specs.declared.naming.Naming.{Naming}
use Rattle.uimg_fit_reading.specs.Allowances.{is_text_in}

-- what a token leaves
abbrev worth : Naming → Token → ℕ
worth names t = 760 * begun_by t + 4 * text_length (is_text_in names) t

abbrev worths : Naming → List Token → ℕ
worths names ts = sum_by (worth names) ts

step : (names : Naming) (t : Token) (ts : List Token) → worths names (t ∷ ts) ≡ worth names t + worths names ts
step names t ts = sum_by-cons (worth names) t ts

begin-step : (names : Naming) (at : ℕ) (name : Result (List ℕ) BlobFault) (ts : List Token) → worths names (begin_node at name ∷ ts) ≡ 760 + worths names ts
begin-step names at name ts = omega (arith, step names (begin_node at name) ts)

prop-step : (names : Naming) (at : ℕ) (p : Property) (ts : List Token) → worths names (prop at (Ok p) ∷ ts) ≡ 4 * text_size names (spot_of p) + worths names ts
prop-step names at p ts = omega (arith, step names (prop at (Ok p)) ts)

own-step : (names : Naming) (p : Property) (own : List Property) → text_sizes names (map spot_of (p ∷ own)) ≡ text_size names (spot_of p) + text_sizes names (map spot_of own)
own-step names p own = sum_by-cons (text_size names) (spot_of p) (map spot_of own)

nodes-step : (t : Token) (ts : List Token) → count_by is_begin (t ∷ ts) ≡ begun_by t + count_by is_begin ts
nodes-step t ts = sum_by-cons begun_by t ts

texts-step : (names : Naming) (t : Token) (ts : List Token) → sum_by (text_length (is_text_in names)) (t ∷ ts) ≡ text_length (is_text_in names) t + sum_by (text_length (is_text_in names)) ts
texts-step names t ts = sum_by-cons (text_length (is_text_in names)) t ts

counted : (names : Naming) (ts : List Token) → worths names ts ≡ 760 * count_by is_begin ts + 4 * sum_by (text_length (is_text_in names)) ts
counted names [] = refl
counted names (t ∷ ts) = omega (arith, counted names ts, step names t ts, nodes-step t ts, texts-step names t ts)

without : (names : Naming) (ts : List Token) → worths names (without_nops ts) ≤ worths names ts
unfolding without_nops
without names [] = omega arith
without names (nop at ∷ ts) = omega (arith, without names ts, step names (nop at) ts)
without names (begin_node at name ∷ ts) = omega (arith, without names ts, step names (begin_node at name) ts, step names (begin_node at name) (without_nops ts))
without names (end_node at ∷ ts) = omega (arith, without names ts, step names (end_node at) ts, step names (end_node at) (without_nops ts))
without names (prop at p ∷ ts) = omega (arith, without names ts, step names (prop at p) ts, step names (prop at p) (without_nops ts))
without names (last at ∷ ts) = omega (arith, without names ts, step names (last at) ts, step names (last at) (without_nops ts))
without names (stray at fault ∷ ts) = omega (arith, without names ts, step names (stray at fault) ts, step names (stray at fault) (without_nops ts))

abbrev OwnPaid : Naming → ℕ → List Property × List Token → Type 0
OwnPaid names most r = 4 * text_sizes names (map spot_of r.0) + worths names r.1 ≤ most

abbrev BelowPaid : Naming → ℕ → Siblings × List Token → Type 0
BelowPaid names most r = allowance names (spots r.0) + worths names r.1 ≤ most

abbrev InsidePaid : Naming → ℕ → (List Property × Siblings) × List Token → Type 0
InsidePaid names most r = 4 * text_sizes names (map spot_of r.0.0) + allowance names (spots r.0.1) + worths names r.1 ≤ most

abbrev RestPaid : Naming → ℕ → List Token → Type 0
RestPaid names most ts = worths names ts ≤ most

abbrev TreePaid : Naming → ℕ → Siblings → Type 0
TreePaid names most t = allowance names (spots t) ≤ most

nothing : (names : Naming) (ts : List Token) → allowance names (spots none) + worths names ts ≤ worths names ts
unfolding spots allowance
nothing names ts = omega arith

properties-paid : (names : Naming) (ts : List Token) → IfOk (properties ts) (OwnPaid names (worths names ts))
unfolding properties
properties-paid names [] = omega arith
properties-paid names (prop at (Ok p) ∷ ts) = on-bind (OwnPaid names (worths names ts)) (OwnPaid names (worths names (prop at (Ok p) ∷ ts))) (properties ts) _ (properties-paid names ts) (λ more k. omega (arith, k, prop-step names at p ts, own-step names p more.0))
properties-paid names (prop at (Err fault) ∷ ts) = tt
properties-paid names (begin_node at name ∷ ts) = omega arith
properties-paid names (end_node at ∷ ts) = omega arith
properties-paid names (nop at ∷ ts) = omega arith
properties-paid names (last at ∷ ts) = omega arith
properties-paid names (stray at fault ∷ ts) = omega arith

end-paid : (names : Naming) (ts : List Token) → IfOk (end ts) (RestPaid names (worths names ts))
end-paid names [] = tt
end-paid names (end_node at ∷ ts) = omega (arith, step names (end_node at) ts)
end-paid names (prop at p ∷ ts) = tt
end-paid names (begin_node at name ∷ ts) = tt
end-paid names (nop at ∷ ts) = tt
end-paid names (last at ∷ ts) = tt
end-paid names (stray at fault ∷ ts) = tt

inside-paid : (names : Naming) (read : List Token → Result (Siblings × List Token) Fault) → ((ts : List Token) → IfOk (read ts) (BelowPaid names (worths names ts))) → (ts : List Token) → IfOk (inside read ts) (InsidePaid names (worths names ts))
inside-paid names read all ts =
    on-bind (OwnPaid names (worths names ts)) (InsidePaid names (worths names ts)) (properties ts) _ (properties-paid names ts) (λ own k.
    on-bind (BelowPaid names (worths names own.1)) (InsidePaid names (worths names ts)) (read own.1) _ (all own.1) (λ below l.
    on-bind (RestPaid names (worths names below.1)) (InsidePaid names (worths names ts)) (end below.1) _ (end-paid names below.1) (λ rest m. omega (arith, k, l, m))))

a-node : (names : Naming) (at : ℕ) (name : List ℕ) (own : List Property) (below after : Siblings)
    → allowance names (spots (node at name own below after)) ≡ 760 + 4 * text_sizes names (map spot_of own) + allowance names (spots below) + allowance names (spots after)
unfolding spots allowance
a-node names at name own below after = refl

children-paid : (names : Naming) (n : ℕ) (ts : List Token) → IfOk (children n ts) (BelowPaid names (worths names ts))
unfolding children
children-paid names zero ts = nothing names ts
children-paid names (suc n) (begin_node at (Ok name) ∷ ts) =
    on-bind (InsidePaid names (worths names ts)) (BelowPaid names (worths names (begin_node at (Ok name) ∷ ts))) (inside (children n) ts) _ (inside-paid names (children n) (λ us. children-paid names n us) ts) (λ it k.
    on-bind (BelowPaid names (worths names it.1)) (BelowPaid names (worths names (begin_node at (Ok name) ∷ ts))) (children n it.1) _ (children-paid names n it.1)
    (λ more l. omega (arith, k, l, begin-step names at (Ok name) ts, a-node names at name it.0.0 it.0.1 more.0)))
children-paid names (suc n) (begin_node at (Err fault) ∷ ts) = tt
children-paid names (suc n) [] = nothing names []
children-paid names (suc n) (end_node at ∷ ts) = nothing names (end_node at ∷ ts)
children-paid names (suc n) (prop at p ∷ ts) = nothing names (prop at p ∷ ts)
children-paid names (suc n) (nop at ∷ ts) = nothing names (nop at ∷ ts)
children-paid names (suc n) (last at ∷ ts) = nothing names (last at ∷ ts)
children-paid names (suc n) (stray at fault ∷ ts) = nothing names (stray at fault ∷ ts)

ended-paid : (names : Naming) (most : ℕ) (t : Siblings) → TreePaid names most t → (ts : List Token) → IfOk (ended t ts) (TreePaid names most)
ended-paid names most t h [] = tt
ended-paid names most t h (last at ∷ ts) = h
ended-paid names most t h (end_node at ∷ ts) = tt
ended-paid names most t h (prop at p ∷ ts) = tt
ended-paid names most t h (begin_node at name ∷ ts) = tt
ended-paid names most t h (nop at ∷ ts) = tt
ended-paid names most t h (stray at fault ∷ ts) = tt

none-paid : (names : Naming) → allowance names (spots none) ≡ 0
unfolding spots allowance
none-paid names = refl

root-paid : (names : Naming) (ts : List Token) → IfOk (root ts) (TreePaid names (worths names ts))
unfolding root
root-paid names [] = tt
root-paid names (begin_node at (Ok name) ∷ ts) =
    on-bind (InsidePaid names (worths names ts)) (TreePaid names (worths names (begin_node at (Ok name) ∷ ts))) (inside (children (length ts)) ts) _ (inside-paid names (children (length ts)) (λ us. children-paid names (length ts) us) ts)
    (λ it k. ended-paid names (worths names (begin_node at (Ok name) ∷ ts)) (node at name it.0.0 it.0.1 none) (omega (arith, k, none-paid names, begin-step names at (Ok name) ts, a-node names at name it.0.0 it.0.1 none)) it.1)
root-paid names (begin_node at (Err fault) ∷ ts) = tt
root-paid names (end_node at ∷ ts) = tt
root-paid names (prop at p ∷ ts) = tt
root-paid names (nop at ∷ ts) = tt
root-paid names (last at ∷ ts) = tt
root-paid names (stray at fault ∷ ts) = tt

by-root : (names : Naming) (ts : List Token) (q : Result Siblings Fault) → IfOk q (TreePaid names (worths names ts))
    → IfOk q (TreePaid names (760 * count_by is_begin (met_in q ts) + 4 * sum_by (text_length (is_text_in names)) (sound_in q (met_in q ts))))
by-root names ts (Ok t) h = omega (arith, h, counted names ts)
by-root names ts (Err e) h = tt

more-paid : (names : Naming) (few most : ℕ) (q : Result Siblings Fault) → few ≤ most → IfOk q (TreePaid names few) → IfOk q (TreePaid names most)
more-paid names few most (Ok t) more h = omega (arith, more, h)
more-paid names few most (Err e) more h = tt

by-blocks : (names : Naming) (r : Result Blocks Fault) → let q : Result Siblings Fault = r >>= (λ found. root (without_nops (tokens found))) in
    IfOk q (TreePaid names (760 * count_by is_begin (met_from r) + 4 * sum_by (text_length (is_text_in names)) (sound_in q (met_from r))))
by-blocks names (Ok b) = by-root names (tokens b) (root (without_nops (tokens b))) (more-paid names _ _ (root (without_nops (tokens b))) (without names (tokens b)) (root-paid names (without_nops (tokens b))))
by-blocks names (Err e) = tt

-- what the nodes of a file are allowed
pub tree-paid : (names : Naming) (file : List ℕ) → IfOk (tree file) (λ t. allowance names (spots t) ≤ 760 * nodes_met file + 4 * texts_met (is_text_in names) file)
unfolding tree
tree-paid names file = by-blocks names (blocks file)
