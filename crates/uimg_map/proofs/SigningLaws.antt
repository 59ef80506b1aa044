-- The first signature node of each configuration, a node at a time.
use Rattle.std.proofs.Common.{◌≡◌, ℕ, ◌+◌, List, [], ◌∷◌, ◌++◌, drop, length, Option, Some, None, Bool, true, false, if◌then◌else◌, ap, sym, subst, ◌∙◌, append_assoc, append-nil}
use Rattle.std.{specs.List.All, proofs.lemmas.List.Elements.{All-cons, All-nil, All-head, All-tail}}
use Rattle.uimg_map.specs.Signing.{first_from, first_of, is_same}
use Rattle.uimg_signing.specs.SignatureNodes.{IsBelow}
use Rattle.uimg_signing.specs.declared.configuration_signatures.SignatureNode.{SignatureNode}

pub one_more : (last : Option ℕ) (s : SignatureNode) (more left old new all : List SignatureNode) → left ≡ s ∷ more → new ≡ old ++ first_of last s → old ++ first_from last left ≡ all
    → new ++ first_from (Some s.configuration) more ≡ all
unfolding first_from
one_more last s more left old new all are added same =
    ap (λ (l : List SignatureNode). l ++ first_from (Some s.configuration) more) added ∙ append_assoc old (first_of last s) (first_from (Some s.configuration) more)
    ∙ sym (ap (λ (l : List SignatureNode). old ++ first_from last l) are) ∙ same

pub no_more : (last : Option ℕ) (left old all : List SignatureNode) → left ≡ [] → old ++ first_from last left ≡ all → old ≡ all
unfolding first_from
no_more last left old all none same = sym (append-nil old) ∙ sym (ap (λ (l : List SignatureNode). old ++ first_from last l) none) ∙ same

below_one : (count : ℕ) (is : Bool) (s : SignatureNode) (more : List SignatureNode) → IsBelow count s → All (IsBelow count) more → All (IsBelow count) ((if is then [] else s ∷ []) ++ more)
below_one count true s more below all = all
below_one count false s more below all = All-cons (IsBelow count) s more below all

-- those of nodes below a count are below it
pub all_below : (count : ℕ) (last : Option ℕ) (ss : List SignatureNode) → All (IsBelow count) ss → All (IsBelow count) (first_from last ss)
unfolding first_from
all_below count last [] all = All-nil (IsBelow count)
all_below count last (s ∷ ss) all =
    below_one count (is_same last s.configuration) s (first_from (Some s.configuration) ss) (All-head (IsBelow count) s ss all) (all_below count (Some s.configuration) ss (All-tail (IsBelow count) s ss all))
