-- Properties and children take words.
use Rattle.std.proofs.Common.{◌≡◌, ℕ, zero, suc, ◌<◌, ◌≤◌, ◌-◌, List, [], ◌∷◌, Bool, true, false, Option, Some, None, length, refl, sym, ap, arith}
use Rattle.std.specs.Prelude.{cond}
use Rattle.uimg_its.specs.declared.tokens.Mark.TheVariants.{BraceClose, Semicolon, Colon}
use Rattle.uimg_its.specs.{Parts.{FileBytes, NodeParts, chain}, Words.{Word, name, mark}}
use Rattle.uimg_its.specs.{Options.◌>>=◌, Steps.{Parses, Step, all}}
use Rattle.uimg_blob_reading.specs.Plain.{Named}
use Rattle.uimg_its.specs.Reader.{take_word, Item, empty, assigned, opens, closes, is_mark, word_name, item_after, label_first, unlabelled, item, expect, values, named_property, property_step, properties, inside, child_named, child_step, node_within, children}
use Rattle.uimg_its.proofs.StepLaws.{Shrinks}
use Rattle.uimg_its.proofs.Shrinking.{Within, all_within, bind_some, next_shrinks, expect_shrinks, values_within, leads_to, pair_leads, some_is}

labelled_shrinks : (ws after : List Word) (x : Option Item) → label_first ws ≡ Some (x, after) → length after < length ws
unfolding label_first
labelled_shrinks ws after x e =
    let first = bind_some (take_word ws) _ (x, after) e in
    let n = bind_some (word_name first.0.0) _ (x, after) first.2 in
    let second = bind_some (take_word first.0.1) _ (x, after) n.2 in
    let i = bind_some (item_after n.0 second.0.0) (λ i. Some (i, second.0.1)) (x, after) second.2 in
    let same = pair_leads i.0 x second.0.1 after i.2 in
    let a = next_shrinks ws first.0.1 first.0.0 first.1 in
    let b = next_shrinks first.0.1 second.0.1 second.0.0 second.1 in
    omega (arith, a, b, ap length same)

pub found_leads : (o : Option Item) (i : Item) (ws after : List Word) → elim o as (λ _. Option (Item × List Word)) [ None ↦ None | Some i ↦ Some (i, ws) ] ≡ Some (i, after) → ws ≡ after
found_leads None i ws after e = absurd (cc)
found_leads (Some j) i ws after e = pair_leads j i ws after e

found_shrinks : (ws after : List Word) (i : Item)
    → (label_first ws >>= λ x. elim x.0 as (λ _. Option (Item × List Word)) [ None ↦ None | Some i ↦ Some (i, x.1) ]) ≡ Some (i, after) → length after < length ws
found_shrinks ws after i e =
    let p = bind_some (label_first ws) _ (i, after) e in
    let same = found_leads p.0.0 i p.0.1 after p.2 in
    let less = labelled_shrinks ws p.0.1 p.0.0 p.1 in
    omega (arith, less, ap length same)

named_shrinks : (ws after : List Word) (i : Item) → unlabelled ws ≡ Some (i, after) → length after < length ws
unfolding unlabelled
named_shrinks [] after i e = absurd (cc)
named_shrinks (name n ∷ []) after i e = absurd (cc)
named_shrinks (name n ∷ mark Colon ∷ ws) after i e = let less = named_shrinks ws after i e in omega (arith, less)
named_shrinks (name n ∷ w ∷ ws) after i e = found_shrinks (name n ∷ w ∷ ws) after i e
named_shrinks (w ∷ ws) after i e = absurd (cc)

item_by : (b : Bool) (ws rest after : List Word) (i : Item) → length rest < length ws → cond b (Some (closes, rest)) (unlabelled ws) ≡ Some (i, after) → length after < length ws
item_by true ws rest after i less e = let same = pair_leads closes i rest after e in omega (arith, less, ap length same)
item_by false ws rest after i less e = named_shrinks ws after i e

pub item_shrinks : (ws after : List Word) (i : Item) → item ws ≡ Some (i, after) → length after < length ws
unfolding item
item_shrinks ws after i e =
    let p = bind_some (take_word ws) _ (i, after) e in
    item_by (is_mark BraceClose p.0.0) ws p.0.1 after i (next_shrinks ws p.0.1 p.0.0 p.1) p.2

-- A step that isn't the last takes a word, and the last leaves no more than there were.
abbrev Falls : Bool → ℕ → ℕ → Type 0
Falls true after ws = after ≤ ws
Falls false after ws = after < ws

stays : (b : Bool) (ws after : List Word) (n : ℕ) → n ≡ length ws → ws ≡ after → b ≡ true → Falls b (length after) n
stays true ws after n len same e = omega (arith, len, ap length same)
stays false ws after n len same e = absurd (cc)

falls : (b : Bool) (ws after : List Word) (n : ℕ) → length ws < n → ws ≡ after → Falls b (length after) n
falls true ws after n less same = omega (arith, less, ap length same)
falls false ws after n less same = omega (arith, less, ap length same)

-- whether a step that is read was the last
last_is : {X : Type 0} → (b c : Bool) (xs ys : List X) (ws after : List Word) → ◌≡◌ {A = Step X} (Some (b, xs, ws)) (Some (c, ys, after)) → c ≡ b
last_is {X = X} b c xs ys ws after e = sym (ap (λ (x : Bool × List X × List Word). x.0) (some_is _ _ e))

property_falls : (files : FileBytes) (it : Item) (ws rest after : List Word) (b : Bool) (xs : List Named) → length rest < length ws → named_property files ws it rest ≡ Some (b, xs, after) → Falls b (length after) (length ws)
property_falls files (empty n) ws rest after b xs less e = falls b rest after (length ws) less (leads_to false b _ xs rest after e)
property_falls files (assigned n) ws rest after b xs less e =
    let v = bind_some (values files rest) (λ v. Some (false, record { name = n; value = v.0 } ∷ [], v.1)) (b, xs, after) e in
    let fewer = values_within files rest v.0.1 v.0.0 v.1 in
    falls b v.0.1 after (length ws) (omega (arith, less, fewer)) (leads_to false b _ xs v.0.1 after v.2)
property_falls files (opens n) ws rest after b xs less e = stays b ws after (length ws) refl (leads_to true b _ xs ws after e) (last_is true b _ xs ws after e)
property_falls files closes ws rest after b xs less e = stays b ws after (length ws) refl (leads_to true b _ xs ws after e) (last_is true b _ xs ws after e)

property_step_falls : (files : FileBytes) (ws after : List Word) (b : Bool) (xs : List Named) → property_step files ws ≡ Some (b, xs, after) → Falls b (length after) (length ws)
unfolding property_step
property_step_falls files ws after b xs e =
    let p = bind_some (item ws) (λ it. named_property files ws it.0 it.1) (b, xs, after) e in
    property_falls files p.0.0 ws p.0.1 after b xs (item_shrinks ws p.0.1 p.0.0 p.1) p.2

pub property_shrinks : (files : FileBytes) → Shrinks (property_step files)
property_shrinks files ws after xs e = property_step_falls files ws after false xs e

pub properties_within : (files : FileBytes) → Within (properties files)
properties_within files = all_within (property_step files) (property_shrinks files) (λ ws after xs e. property_step_falls files ws after true xs e)

child_falls : (node : List ℕ → Parses NodeParts) → ((n : List ℕ) → Within (node n)) → (it : Item) (ws rest after : List Word) (b : Bool) (xs : List NodeParts) → length rest < length ws → child_named node it rest ≡ Some (b, xs, after) → Falls b (length after) (length ws)
child_falls node within (opens n) ws rest after b xs less e =
    let t = bind_some (node n rest) (λ t. expect Semicolon t.1 >>= λ behind. Some (false, t.0 ∷ [], behind)) (b, xs, after) e in
    let behind = bind_some (expect Semicolon t.0.1) (λ behind. Some (false, t.0.0 ∷ [], behind)) (b, xs, after) t.2 in
    let fewer = within n rest t.0.1 t.0.0 t.1 in
    let fewer' = expect_shrinks Semicolon t.0.1 behind.0 behind.1 in
    falls b behind.0 after (length ws) (omega (arith, less, fewer, fewer')) (leads_to false b _ xs behind.0 after behind.2)
child_falls node within closes ws rest after b xs less e = falls b rest after (length ws) less (leads_to true b _ xs rest after e)
child_falls node within it ws rest after b xs less e = absurd (cc)

child_step_falls : (node : List ℕ → Parses NodeParts) → ((n : List ℕ) → Within (node n)) → (ws after : List Word) (b : Bool) (xs : List NodeParts) → child_step node ws ≡ Some (b, xs, after) → Falls b (length after) (length ws)
unfolding child_step
child_step_falls node within ws after b xs e =
    let p = bind_some (item ws) (λ it. child_named node it.0 it.1) (b, xs, after) e in
    child_falls node within p.0.0 ws p.0.1 after b xs (item_shrinks ws p.0.1 p.0.0 p.1) p.2

inside_within : (files : FileBytes) (below : Parses (List NodeParts)) → Within below → (n : List ℕ) → Within (inside files below n)
unfolding inside
inside_within files below within n ws after t e =
    let own = bind_some (properties files ws) _ (t, after) e in
    let kids = bind_some (below own.0.1) (λ kids. Some (record { name = n; props = own.0.0; children = chain kids.0 }, kids.1)) (t, after) own.2 in
    let a = properties_within files ws own.0.1 own.0.0 own.1 in
    let b = within own.0.1 kids.0.1 kids.0.0 kids.1 in
    let same = pair_leads _ t kids.0.1 after kids.2 in
    omega (arith, a, b, ap length same)

node_within_within : (levels : ℕ) (files : FileBytes) (n : List ℕ) → Within (node_within levels files n)
unfolding node_within
node_within_within zero files n ws after t e = absurd (cc)
node_within_within (suc levels) files n ws after t e =
    inside_within files (all (child_step (node_within levels files))) (all_within (child_step (node_within levels files))
    (λ ws after xs e. child_step_falls (node_within levels files) (node_within_within levels files) ws after false xs e)
    (λ ws after xs e. child_step_falls (node_within levels files) (node_within_within levels files) ws after true xs e)) n ws after t e

pub child_shrinks : (levels : ℕ) (files : FileBytes) → Shrinks (child_step (node_within levels files))
child_shrinks levels files ws after xs e = child_step_falls (node_within levels files) (node_within_within levels files) ws after false xs e

-- no level is left
pub node_too_deep : (levels : ℕ) (files : FileBytes) (n : List ℕ) (ws : List Word) → levels ≡ 0 → node_within levels files n ws ≡ None
unfolding node_within
node_too_deep zero files n ws h = refl
node_too_deep (suc l) files n ws h = absurd (omega (arith, h))

-- a node with a level at least is what is inside it
pub node_is : (levels : ℕ) (files : FileBytes) (n : List ℕ) (ws : List Word) → (levels ≡ 0 → ⊥) → node_within levels files n ws ≡ inside files (children (levels - 1) files) n ws
unfolding node_within
node_is zero files n ws h = absurd (h refl)
node_is (suc l) files n ws h = let k : l ≡ suc l - 1 = omega arith in ap (λ (m : ℕ). inside files (children m files) n ws) k

-- what is inside a node, by its properties and its children
pub inside_is : (files : FileBytes) (below : Parses (List NodeParts)) (n : List ℕ) (ws behind rest : List Word) (own : List Named) (kids : List NodeParts)
    → properties files ws ≡ Some (own, behind) → below behind ≡ Some (kids, rest) → inside files below n ws ≡ Some (record { name = n; props = own; children = chain kids }, rest)
unfolding inside
inside_is files below n ws behind rest own kids p k = rw (p, k) refl
