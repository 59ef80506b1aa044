-- What is spelled is read.
use Rattle.std.proofs.Common.{◌≡◌, ℕ, zero, suc, ◌≤◌, List, [], ◌∷◌, ◌++◌, Bool, true, false, Option, Some, length, refl, sym, ap, subst, ◌∙◌, append_assoc}
use Rattle.std.proofs.lemmas.Bool.{le-ltb}
use Rattle.uimg_its.specs.{declared.{tokens.Mark.Mark, lists.Listed.Listed}, Options.◌>>=◌}
use Rattle.uimg_its.specs.declared.lists.Listed.TheVariants.{Cells, Bytes}
use Rattle.uimg_its.specs.{Parts.{FileBytes, NodeParts, chain}, Words.{Word, name, mark}}
use Rattle.uimg_its.specs.{Steps.{Parses, Step, Steps, with_front, and_on, all}, Cells.element}
use Rattle.uimg_its.specs.declared.tokens.Mark.TheVariants.{Comma, BraceOpen, BraceClose, Semicolon, Equals, Greater, BracketClose, Colon}
use Rattle.uimg_blob_reading.specs.Plain.{Named, Nodes, no_node, a_node}
use Rattle.uimg_its.specs.Reader.{Item, empty as no_value, assigned as has_value, opens, label_first, unlabelled, item, element_step, list_items, file, spelled_value, value, value_step, values, property_step, properties, inside, child_step, node_within, children, source}
use Rattle.uimg_its.specs.Grammar.{AreLabels, Names, AreElements, IsValue, cells, bytes, string, incbin, AreValues, one, more, IsProperty, empty, assigned, AreProperties, AreNodes, body, Spells}
use Rattle.uimg_its.proofs.{StepLaws.{Shrinks, all_step}, Shrinking.element_shrinks}
use Rattle.uimg_its.proofs.{Shrinking.value_shrinks, NodeLaws.{property_shrinks, child_shrinks}}

abbrev pub closing : Listed → Mark
closing Cells = Greater
closing Bytes = BracketClose

list_end : (l : Listed) (rest : List Word) → element_step l (mark (closing l) ∷ rest) ≡ Some (true, [], rest)
unfolding element_step
list_end Cells rest = refl
list_end Bytes rest = refl

list_more : (l : Listed) (n first : List ℕ) (ws : List Word) → element l n ≡ Some first → element_step l (name n ∷ ws) ≡ Some (false, first, ws)
unfolding element_step
list_more Cells n first ws e = ap (λ (r : Option (List ℕ)). r >>= λ b. (let x : Bool × List ℕ × List Word = (false, b, ws) in Some x)) e
list_more Bytes n first ws e = ap (λ (r : Option (List ℕ)). r >>= λ b. (let x : Bool × List ℕ × List Word = (false, b, ws) in Some x)) e

-- one step, and what follows
begins : {X : Type 0} → (step : Steps X) → Shrinks step → (ws : List Word) (s : Step X) → step ws ≡ s → all step ws ≡ and_on s (all step)
begins {X = X} step shrinks ws s e = all_step step shrinks ws ∙ ap (λ (r : Step X). and_on r (all step)) e

list_again : (l : Listed) (inner : List Word) (v : List ℕ) (rest : List Word) → AreElements l inner v → list_items l (inner ++ mark (closing l) ∷ rest) ≡ Some (v, rest)
list_again l [] v rest h = begins (element_step l) (element_shrinks l) _ _ (list_end l rest) ∙ ap (λ (x : List ℕ). Some (x, rest)) (sym h)
list_again l (name n ∷ ws) v rest h =
    begins (element_step l) (element_shrinks l) _ _ (list_more l n h.0 (ws ++ mark (closing l) ∷ rest) h.2)
    ∙ ap (with_front h.0) (list_again l ws h.1 rest h.3) ∙ ap (λ (x : List ℕ). Some (x, rest)) (sym h.4)
list_again l (w ∷ ws) v rest h = absurd h

value_again : (files : FileBytes) (ws : List Word) (v : List ℕ) (rest : List Word) → IsValue files ws v → value files (ws ++ rest) ≡ Some (v, rest)
unfolding value spelled_value file
value_again files ws v rest (cells inner are e) = ap (λ (l : List Word). value files (l ++ rest)) e ∙ ap (list_items Cells) (append_assoc inner (mark Greater ∷ []) rest) ∙ list_again Cells inner v rest are
value_again files ws v rest (bytes inner are e) = ap (λ (l : List Word). value files (l ++ rest)) e ∙ ap (list_items Bytes) (append_assoc inner (mark BracketClose ∷ []) rest) ∙ list_again Bytes inner v rest are
value_again files ws v rest (string s e is) = ap (λ (l : List Word). value files (l ++ rest)) e ∙ ap (λ (x : List ℕ). Some (x, rest)) (sym is)
value_again files ws v rest (incbin n there e) = ap (λ (l : List Word). value files (l ++ rest)) e ∙ ap (λ (r : Option (List ℕ)). r >>= λ b. (let x : List ℕ × List Word = (b, rest) in Some x)) there

last_value : (files : FileBytes) (ws : List Word) (v : List ℕ) (rest : List Word) → IsValue files ws v → value_step files (ws ++ mark Semicolon ∷ rest) ≡ Some (true, v, rest)
unfolding value_step
last_value files ws v rest h = rw (value_again files ws v (mark Semicolon ∷ rest) h) refl

next_value : (files : FileBytes) (ws : List Word) (v : List ℕ) (rest : List Word) → IsValue files ws v → value_step files (ws ++ mark Comma ∷ rest) ≡ Some (false, v, rest)
unfolding value_step
next_value files ws v rest h = rw (value_again files ws v (mark Comma ∷ rest) h) refl

pub values_again : (files : FileBytes) (ws : List Word) (v : List ℕ) (rest : List Word) → AreValues files ws v → values files (ws ++ mark Semicolon ∷ rest) ≡ Some (v, rest)
values_again files ws v rest (one h) = begins (value_step files) (value_shrinks files) _ _ (last_value files ws v rest h)
values_again files ws v rest (more {first = first} {rest = others} {u = u} {w = w} h hs e f) =
    ap (λ (l : List Word). values files (l ++ mark Semicolon ∷ rest)) e ∙ ap (values files) (append_assoc first (mark Comma ∷ others) (mark Semicolon ∷ rest))
    ∙ begins (value_step files) (value_shrinks files) _ _ (next_value files first u (others ++ mark Semicolon ∷ rest) h)
    ∙ ap (with_front u) (values_again files others w rest hs) ∙ ap (λ (x : List ℕ). Some (x, rest)) (sym f)

-- labels are passed over
labels_passed : (labels ws : List Word) → AreLabels labels → unlabelled (labels ++ ws) ≡ unlabelled ws
unfolding unlabelled
labels_passed [] ws h = refl
labels_passed (name n ∷ mark Colon ∷ ls) ws h = labels_passed ls ws h
labels_passed (name n ∷ []) ws h = absurd h
labels_passed (name n ∷ w ∷ ls) ws h = absurd h
labels_passed (w ∷ ls) ws h = absurd h

item_is_named : (labels : List Word) (n : List ℕ) (rest : List Word) → AreLabels labels → item (labels ++ name n ∷ rest) ≡ unlabelled (labels ++ name n ∷ rest)
unfolding item
item_is_named [] n rest h = refl
item_is_named (name m ∷ ls) n rest h = refl
item_is_named (w ∷ ls) n rest h = absurd h

named_ends : (n : List ℕ) (rest : List Word) → length n ≤ 255 → unlabelled (name n ∷ mark Semicolon ∷ rest) ≡ Some (no_value n, rest)
unfolding unlabelled label_first
named_ends n rest short = rw (le-ltb 255 (length n) short) refl

named_has : (n : List ℕ) (rest : List Word) → length n ≤ 255 → unlabelled (name n ∷ mark Equals ∷ rest) ≡ Some (has_value n, rest)
unfolding unlabelled label_first
named_has n rest short = rw (le-ltb 255 (length n) short) refl

named_opens : (n : List ℕ) (rest : List Word) → length n ≤ 255 → unlabelled (name n ∷ mark BraceOpen ∷ rest) ≡ Some (opens n, rest)
unfolding unlabelled label_first
named_opens n rest short = rw (le-ltb 255 (length n) short) refl

-- an item behind its labels
item_again : (head : List Word) (n : List ℕ) (i : Item) (m : Mark) (rest : List Word) → Names head n → unlabelled (name n ∷ mark m ∷ rest) ≡ Some (i, rest) → item (head ++ mark m ∷ rest) ≡ Some (i, rest)
item_again head n i m rest h e =
    ap (λ (l : List Word). item (l ++ mark m ∷ rest)) h.whole ∙ ap item (append_assoc h.labels (name n ∷ []) (mark m ∷ rest))
    ∙ item_is_named h.labels n (mark m ∷ rest) h.are_labels ∙ labels_passed h.labels (name n ∷ mark m ∷ rest) h.are_labels ∙ e

property_again : (files : FileBytes) (ws : List Word) (p : Named) (rest : List Word) → IsProperty files ws p → property_step files (ws ++ rest) ≡ Some (false, p ∷ [], rest)
unfolding property_step
property_again files ws p rest (empty head names nothing e) =
    ap (λ (l : List Word). property_step files (l ++ rest)) e ∙ ap (property_step files) (append_assoc head (mark Semicolon ∷ []) rest)
    ∙ rw (item_again head p.name (no_value p.name) Semicolon rest names (named_ends p.name rest names.short))
    (ap (λ (v : List ℕ). (let x : Bool × List Named × List Word = (false, record { name = p.name; value = v } ∷ [], rest) in Some x)) (sym nothing))
property_again files ws p rest (assigned head vs names are e) =
    ap (λ (l : List Word). property_step files (l ++ rest)) e
    ∙ ap (property_step files) (append_assoc head (mark Equals ∷ (vs ++ mark Semicolon ∷ [])) rest ∙ ap (λ (l : List Word). head ++ mark Equals ∷ l) (append_assoc vs (mark Semicolon ∷ []) rest))
    ∙ rw (item_again head p.name (has_value p.name) Equals (vs ++ mark Semicolon ∷ rest) names (named_has p.name (vs ++ mark Semicolon ∷ rest) names.short))
    (rw (values_again files vs p.value rest are) refl)

properties_again : (files : FileBytes) (ws : List Word) (ps : List Named) (rest : List Word) → AreProperties files ws ps → property_step files rest ≡ Some (true, [], rest) → properties files (ws ++ rest) ≡ Some (ps, rest)
properties_again files ws [] rest h stop = ap (λ (l : List Word). properties files (l ++ rest)) h ∙ begins (property_step files) (property_shrinks files) rest _ stop
properties_again files ws (p ∷ ps) rest h stop =
    ap (λ (l : List Word). properties files (l ++ rest)) h.4 ∙ ap (properties files) (append_assoc h.0 h.1 rest)
    ∙ begins (property_step files) (property_shrinks files) _ _ (property_again files h.0 p (h.1 ++ rest) h.2)
    ∙ ap (with_front (p ∷ [])) (properties_again files h.1 ps rest h.3 stop)

-- a body's end, and a node, are no properties
stop_at_end : (files : FileBytes) (rest : List Word) → property_step files (mark BraceClose ∷ rest) ≡ Some (true, [], mark BraceClose ∷ rest)
unfolding property_step item
stop_at_end files rest = refl

stop_at_node : (files : FileBytes) (head : List Word) (n : List ℕ) (rest : List Word) → Names head n → property_step files (head ++ mark BraceOpen ∷ rest) ≡ Some (true, [], head ++ mark BraceOpen ∷ rest)
unfolding property_step
stop_at_node files head n rest names = rw (item_again head n (opens n) BraceOpen rest names (named_opens n rest names.short)) refl

child_ends : (read : List ℕ → Parses NodeParts) (rest : List Word) → child_step read (mark BraceClose ∷ rest) ≡ Some (true, [], rest)
unfolding child_step item
child_ends read rest = refl

-- nodes that follow one another, as a list
abbrev unchain : Nodes → List NodeParts
unchain no_node = []
unchain (a_node n props below after) = record { name = n; props = props; children = below } ∷ unchain after

chain_unchain : (s : Nodes) → chain (unchain s) ≡ s
chain_unchain no_node = refl
chain_unchain (a_node n props below after) = ap (a_node n props below) (chain_unchain after)

-- a body behind its opening brace
abbrev pub tail : List Word → List Word → List Word → List Word
tail own kids after = own ++ (kids ++ mark BraceClose ∷ after)

tail_more : (own kids others rest : List Word) → tail own kids others ++ rest ≡ tail own kids (others ++ rest)
tail_more own kids others rest = append_assoc own _ rest ∙ ap (λ (l : List Word). own ++ l) (append_assoc kids _ rest)

pub whole_more : (head own kids others rest : List Word) → (head ++ body own kids others) ++ rest ≡ head ++ body own kids (others ++ rest)
whole_more head own kids others rest = append_assoc head (body own kids others) rest ∙ ap (λ (l : List Word). head ++ mark BraceOpen ∷ l) (tail_more own kids others rest)

stop_at_nodes : (files : FileBytes) (l : ℕ) (kids : List Word) (s : Nodes) (rest : List Word) → AreNodes files l kids s → property_step files (kids ++ mark BraceClose ∷ rest) ≡ Some (true, [], kids ++ mark BraceClose ∷ rest)
stop_at_nodes files l kids no_node rest h = subst (λ (k : List Word). property_step files (k ++ mark BraceClose ∷ rest) ≡ Some (true, [], k ++ mark BraceClose ∷ rest)) (sym h) (stop_at_end files rest)
stop_at_nodes files zero kids (a_node n props below after) rest h = absurd h
stop_at_nodes files (suc l) kids (a_node n props below after) rest h =
    let behind = tail h.1 h.2 (mark Semicolon ∷ h.3) ++ mark BraceClose ∷ rest in
    let same : kids ++ mark BraceClose ∷ rest ≡ h.0 ++ mark BraceOpen ∷ behind =
    ap (λ (k : List Word). k ++ mark BraceClose ∷ rest) h.8 ∙ append_assoc h.0 (body h.1 h.2 (mark Semicolon ∷ h.3)) (mark BraceClose ∷ rest) in
    subst (λ (k : List Word). property_step files k ≡ Some (true, [], k)) (sym same) (stop_at_node files h.0 n behind h.4)

inside_again : (files : FileBytes) (below : Parses (List NodeParts)) (n : List ℕ) (own kids after : List Word) (props : List Named) (s : Nodes)
    → properties files (tail own kids after) ≡ Some (props, kids ++ mark BraceClose ∷ after)
    → below (kids ++ mark BraceClose ∷ after) ≡ Some (unchain s, after)
    → inside files below n (tail own kids after) ≡ Some (record { name = n; props = props; children = s }, after)
unfolding inside
inside_again files below n own kids after props s p b = rw (p, b) (ap (λ (x : Nodes). (let t : NodeParts × List Word = (record { name = n; props = props; children = x }, after) in Some t)) (chain_unchain s))

child_again : (read : List ℕ → Parses NodeParts) (head : List Word) (n : List ℕ) (t : NodeParts) (after rest : List Word) → Names head n → read n after ≡ Some (t, mark Semicolon ∷ rest)
    → child_step read (head ++ mark BraceOpen ∷ after) ≡ Some (false, t ∷ [], rest)
unfolding child_step
child_again read head n t after rest names e = rw (item_again head n (opens n) BraceOpen after names (named_opens n after names.short), e) refl

children_again : (files : FileBytes) (l : ℕ) (ws : List Word) (s : Nodes) (rest : List Word) → AreNodes files l ws s → children l files (ws ++ mark BraceClose ∷ rest) ≡ Some (unchain s, rest)
unfolding node_within
children_again files l ws no_node rest h =
    ap (λ (w : List Word). children l files (w ++ mark BraceClose ∷ rest)) h
    ∙ begins (child_step (node_within l files)) (child_shrinks l files) (mark BraceClose ∷ rest) _ (child_ends (node_within l files) rest)
children_again files zero ws (a_node n props below after) rest h = absurd h
children_again files (suc l) ws (a_node n props below after) rest h =
    let next = h.3 ++ mark BraceClose ∷ rest in
    let own = properties_again files h.1 props (h.2 ++ mark BraceClose ∷ mark Semicolon ∷ next) h.5 (stop_at_nodes files l h.2 below (mark Semicolon ∷ next) h.6) in
    let kids = children_again files l h.2 below (mark Semicolon ∷ next) h.6 in
    let t : NodeParts = record { name = n; props = props; children = below } in
    ap (λ (w : List Word). children (suc l) files (w ++ mark BraceClose ∷ rest)) h.8
    ∙ ap (children (suc l) files) (whole_more h.0 h.1 h.2 (mark Semicolon ∷ h.3) (mark BraceClose ∷ rest))
    ∙ begins (child_step (node_within (suc l) files)) (child_shrinks (suc l) files) _ _
    (child_again (node_within (suc l) files) h.0 n t (tail h.1 h.2 (mark Semicolon ∷ next)) next h.4
    (inside_again files (children l files) n h.1 h.2 (mark Semicolon ∷ next) props below own kids))
    ∙ ap (with_front (t ∷ [])) (children_again files (suc l) h.3 after rest h.7)

-- What is spelled is read.
pub source_again : (ws : List Word) (files : FileBytes) (t : Nodes) → (h : Spells ws files t) → source files ws ≡ Some (record { name = []; props = h.props; children = h.children })
unfolding source node_within
source_again ws files t h =
    let own = properties_again files h.own h.props (h.below ++ mark BraceClose ∷ mark Semicolon ∷ []) h.are_properties (stop_at_nodes files 63 h.below h.children (mark Semicolon ∷ []) h.are_children) in
    let kids = children_again files 63 h.below h.children (mark Semicolon ∷ []) h.are_children in
    ap (source files) h.whole
    ∙ rw (inside_again files (children 63 files) [] h.own h.below (mark Semicolon ∷ []) h.props h.children own kids) refl
