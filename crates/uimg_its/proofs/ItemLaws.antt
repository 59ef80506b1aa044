-- Labels before a name have no effect.
use Rattle.std.proofs.Common.{◌≡◌, List, [], ◌∷◌, Option, Some, None, Bool, true, false, length, nat_lt, refl, sym, ap, ◌∙◌}
use Rattle.uimg_its.specs.declared.{fault.FaultKind.FaultKind, tokens.Mark.TheVariants.Colon}
use Rattle.uimg_its.specs.{Words.{Word, name, mark, stray}, Options.◌>>=◌, Answers.Refuses}
use Rattle.uimg_its.specs.Reader.{Item, unlabelled, label_first, item_of}
use Rattle.std.specs.Prelude.{cond}
use Rattle.uimg_its.proofs.StepLaws.{refuses_on}

abbrev behind : Option Item → List Word → Option (Item × List Word)
behind None ws = unlabelled ws
behind (Some i) ws = Some (i, ws)

item_same : (b : Bool) (o : Option Item) (ws : List Word)
    → ((cond b None (o >>= λ i. Some (Some i)) >>= λ i. (let x : Option Item × List Word = (i, ws) in Some x)) >>= λ x. elim x.0 as (λ _. Option (Item × List Word)) [ None ↦ None | Some i ↦ Some (i, x.1) ])
    ≡ ((cond b None (o >>= λ i. Some (Some i)) >>= λ i. (let x : Option Item × List Word = (i, ws) in Some x)) >>= λ x. behind x.0 x.1)
item_same true o ws = refl
item_same false None ws = refl
item_same false (Some i) ws = refl

named_step : (ws : List Word) → unlabelled ws ≡ (label_first ws >>= λ x. behind x.0 x.1)
unfolding unlabelled label_first
named_step [] = refl
named_step (name n ∷ []) = refl
named_step (name n ∷ mark Colon ∷ ws) = refl
named_step (name n ∷ stray ∷ ws) = refl
named_step (name n ∷ w ∷ ws) = item_same (nat_lt 255 (length n)) (item_of n w) ws
named_step (w ∷ ws) = refl

-- labels are passed over
pub label_passed : (ws after : List Word) (total : Option (Item × List Word)) → label_first ws ≡ Some (None, after) → unlabelled ws ≡ total → unlabelled after ≡ total
label_passed ws after total e h = sym (ap (λ r. r >>= λ x. behind x.0 x.1) e) ∙ sym (named_step ws) ∙ h

pub item_found : (ws after : List Word) (i : Item) (total : Option (Item × List Word)) → label_first ws ≡ Some (Some i, after) → unlabelled ws ≡ total → total ≡ Some (i, after)
item_found ws after i total e h = sym h ∙ named_step ws ∙ ap (λ r. r >>= λ x. behind x.0 x.1) e

pub item_refused : (k : FaultKind) (ws : List Word) (total : Option (Item × List Word)) → Refuses k (label_first ws) → unlabelled ws ≡ total → Refuses k total
item_refused k ws total e h = refuses_on k (label_first ws) total (λ none. sym h ∙ named_step ws ∙ ap (λ r. r >>= λ x. behind x.0 x.1) none) e
