-- Where the names and values of the nodes so far end.
use Rattle.std.proofs.Common.{◌≡◌, ◌<◌, ◌≤◌, ◌+◌, ℕ, List, [], ◌∷◌, ◌++◌, length, Ok, Err, sym, subst, arith}
use Rattle.std.specs.List.{AllByRecursion}
use Rattle.uimg_blob_reading.specs.{declared.tokens.ReadToken.ReadToken, Walk.opened}
use Rattle.uimg_blob_reading.specs.{ReadTokens.{IsReadAs, Stands}, Grammar.{Siblings, none, node}}
use Rattle.uimg_blob_reading.specs.{Kept.{Kept, kept_of, LiesIn}, SoFar.{so_far, open_row}}
use Rattle.uimg_blob_reading.specs.declared.tokens.ReadToken.TheVariants as read
use Rattle.uimg_blob_reading.specs.Tokens.{Property, Token, begin_node, end_node, prop, nop, last, stray}
use Rattle.uimg_blob_reading.specs.Passes.{Phase, inside, after, on, stop, step, nodes_at, TokenLies}
use Rattle.uimg_blob_reading.proofs.SoFarLaws.{Seam, begin_row, property_row, end_row, root_row}
use Rattle.uimg_blob_reading.proofs.CostLaws.{on_stop, on_same, stop_ok}

abbrev All : ℕ → List Kept → Type 0
All limit ks = AllByRecursion (LiesIn limit) ks

all_last : (limit : ℕ) (ks : List Kept) (k : Kept) → All limit ks → LiesIn limit k → All limit (ks ++ k ∷ [])
all_last limit [] k h this = (this, tt)
all_last limit (q ∷ ks) k h this = (h.0, all_last limit ks k h.1 this)

all_changed : (limit : ℕ) (front back : List Kept) (row changed : Kept) → (LiesIn limit row → LiesIn limit changed)
    → All limit (front ++ row ∷ back) → All limit (front ++ changed ∷ back)
all_changed limit [] back row changed same h = (same h.0, h.1)
all_changed limit (q ∷ front) back row changed same h = (h.0, all_changed limit front back row changed same h.1)

seam_lies : (limit i : ℕ) (change : Kept → Kept) (old new : List Kept) → ((k : Kept) → LiesIn limit k → LiesIn limit (change k)) → Seam i change old new
    → All limit old → All limit new
seam_lies limit i change old new same s h =
    subst (All limit) (sym s.new_is) (all_changed limit s.before s.after s.row (change s.row) (same s.row) (subst (All limit) s.old_is h))

own_within : (limit size : ℕ) (own : List Property) → limit ≤ size → AllByRecursion (λ p. (0 < p.place) × (p.place + length p.value ≤ limit)) own
    → AllByRecursion (λ p. (0 < p.place) × (p.place + length p.value ≤ size)) own
own_within limit size [] le h = tt
own_within limit size (p ∷ own) le h = ((h.0.0, omega (arith, h.0.1, le)), own_within limit size own le h.1)

pub lies_within : (limit size : ℕ) (ks : List Kept) → limit ≤ size → AllByRecursion (LiesIn limit) ks → AllByRecursion (LiesIn size) ks
lies_within limit size [] le h = tt
lies_within limit size (k ∷ ks) le h =
    (record { named = omega (arith, h.0.named, le); valued = own_within limit size k.own le h.0.valued }, lies_within limit size ks le h.1)

one_more : (limit : ℕ) (own : List Property) (x : Property) → AllByRecursion (λ p. (0 < p.place) × (p.place + length p.value ≤ limit)) own
    → (0 < x.place) × (x.place + length x.value ≤ limit) → AllByRecursion (λ p. (0 < p.place) × (p.place + length p.value ≤ limit)) (own ++ x ∷ [])
one_more limit [] x h this = (this, tt)
one_more limit (q ∷ own) x h this = (h.0, one_more limit own x h.1 this)

-- the nodes after a token end within a limit where those before do and the token does
pub lies_more : (limit : ℕ) (p : Phase) (t : Token) (q : Phase) → step p t ≡ on q → TokenLies limit t → AllByRecursion (LiesIn limit) (nodes_at p) → AllByRecursion (LiesIn limit) (nodes_at q)
lies_more limit (inside ls) (begin_node at (Ok name)) q h this lies =
    subst (λ (k : Phase). All limit (nodes_at k)) (on_same _ q h)
    (subst (All limit) (sym (begin_row ls at name)) (all_last limit (so_far ls) (open_row ls at name []) lies (record { named = this; valued = tt })))
lies_more limit (inside ls) (begin_node at (Err f)) q h this lies = absurd (on_stop (sym h))
lies_more limit (after o) (begin_node at name) q h this lies = absurd (on_stop (sym h))
lies_more limit (inside []) (end_node at) q h this lies = absurd (on_stop (sym h))
lies_more limit (inside (opened a name own below ∷ [])) (end_node at) q h this lies =
    subst (λ (k : Phase). All limit (nodes_at k)) (on_same _ q h)
    (seam_lies limit _ _ _ _ (λ k l. record { named = l.named; valued = l.valued }) (root_row a name own below) lies)
lies_more limit (inside (opened a name own below ∷ opened a' name' own' below' ∷ ls)) (end_node at) q h this lies =
    subst (λ (k : Phase). All limit (nodes_at k)) (on_same _ q h)
    (seam_lies limit _ _ _ _ (λ k l. record { named = l.named; valued = l.valued }) (end_row a name own below a' name' own' below' ls) lies)
lies_more limit (after o) (end_node at) q h this lies = absurd (on_stop (sym h))
lies_more limit (inside []) (prop at x) q h this lies = absurd (on_stop (sym h))
lies_more limit (inside (opened a name own none ∷ ls)) (prop at (Ok x)) q h this lies =
    subst (λ (k : Phase). All limit (nodes_at k)) (on_same _ q h)
    (seam_lies limit _ _ _ _ (λ k l. record { named = l.named; valued = one_more limit k.own x l.valued this }) (property_row ls a name own x) lies)
lies_more limit (inside (opened a name own none ∷ ls)) (prop at (Err f)) q h this lies = absurd (on_stop (sym h))
lies_more limit (inside (opened a name own (node a' b c d e) ∷ ls)) (prop at x) q h this lies = absurd (on_stop (sym h))
lies_more limit (after o) (prop at x) q h this lies = absurd (on_stop (sym h))
lies_more limit p (nop at) q h this lies = subst (λ (k : Phase). All limit (nodes_at k)) (on_same _ q h) lies
lies_more limit (inside ls) (last at) q h this lies = absurd (on_stop (sym h))
lies_more limit (after o) (last at) q h this lies = absurd (on_stop (sym h))
lies_more limit p (stray at f) q h this lies = absurd (on_stop (sym h))

-- what was read ends within the block, whatever the source said
pub token_lies : (at limit : ℕ) (t : Token) (found : ReadToken) → IsReadAs at t found → Stands limit at found → TokenLies limit t
token_lies at limit t found is stands = grind arith

stop_tree : (x t : Siblings) → stop (Ok x) ≡ stop (Ok t) → x ≡ t
stop_tree x t h = cc

-- the nodes of a tree that ends
pub last_nodes : (p : Phase) (t : Token) (x : Siblings) → step p t ≡ stop (Ok x) → nodes_at p ≡ kept_of x
last_nodes p t x h = grind (arith, on_stop, stop_ok, stop_tree)
