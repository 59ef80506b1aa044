-- What is read is spelled.
use Rattle.std.proofs.Common.{◌≡◌, ℕ, zero, suc, ◌≤◌, List, [], ◌∷◌, ◌++◌, Bool, true, false, Option, Some, None, length, refl, sym, ap, subst, ◌∙◌, append_assoc}
use Rattle.std.{specs.Prelude.{cond, nat_lt, codes}, proofs.lemmas.Bool.ltb-false}
use Rattle.uimg_its.specs.declared.tokens.Mark.TheVariants.{Slash, BraceOpen, BraceClose, Semicolon, Equals, Colon}
use Rattle.uimg_its.specs.{Options.◌>>=◌, Parts.{FileBytes, NodeParts, chain, one_node}}
use Rattle.uimg_its.specs.{Words.{Word, name, directive, mark, stray}, Steps.{Parses, Step, all}}
use Rattle.uimg_blob_reading.specs.Plain.{Named, no_node, a_node}
use Rattle.uimg_its.specs.Reader.{take_word, Item, empty as no_value, assigned as has_value, opens, closes, is_mark, label_first, unlabelled, item, expect, values, named_property, property_step, properties, inside, child_named, child_step, node_within, children, is_version, version, alone, source}
use Rattle.uimg_its.specs.Grammar.{Names, IsProperty, empty, assigned, AreProperties, AreNodes, body, Spells}
use Rattle.uimg_its.proofs.Shrinking.{some_is, bind_some, pair_leads}
use Rattle.uimg_its.proofs.SpelledIsRead.{tail, whole_more}
use Rattle.uimg_its.proofs.ValuesAreSpelled.{triple_is, triple_leads, triple_last, triple_more, all_found, next_is, mark_is, guard, expect_is, pair_is, bytes_same, values_found}

-- what an item is
abbrev ItemIs : Item → List Word → List Word → Type 0
ItemIs (no_value n) ws after = (head : List Word) × Names head n × (ws ≡ head ++ mark Semicolon ∷ after)
ItemIs (has_value n) ws after = (head : List Word) × Names head n × (ws ≡ head ++ mark Equals ∷ after)
ItemIs (opens n) ws after = (head : List Word) × Names head n × (ws ≡ head ++ mark BraceOpen ∷ after)
ItemIs closes ws after = ws ≡ mark BraceClose ∷ after

label_before : (l n : List ℕ) (head : List Word) → Names head n → Names (name l ∷ mark Colon ∷ head) n
label_before l n head h = record { labels = name l ∷ mark Colon ∷ h.labels; are_labels = h.are_labels; short = h.short; whole = ap (λ (w : List Word). name l ∷ mark Colon ∷ w) h.whole }

labels_before : (l : List ℕ) (i : Item) (ws after : List Word) → (i ≡ closes → ⊥) → ItemIs i ws after → ItemIs i (name l ∷ mark Colon ∷ ws) after
labels_before l (no_value n) ws after not h = (name l ∷ mark Colon ∷ h.0, label_before l n h.0 h.1, ap (λ (w : List Word). name l ∷ mark Colon ∷ w) h.2)
labels_before l (has_value n) ws after not h = (name l ∷ mark Colon ∷ h.0, label_before l n h.0 h.1, ap (λ (w : List Word). name l ∷ mark Colon ∷ w) h.2)
labels_before l (opens n) ws after not h = (name l ∷ mark Colon ∷ h.0, label_before l n h.0 h.1, ap (λ (w : List Word). name l ∷ mark Colon ∷ w) h.2)
labels_before l closes ws after not h = absurd (not refl)

alone_name : (n : List ℕ) → length n ≤ 255 → Names (name n ∷ []) n
alone_name n short = record { labels = []; are_labels = tt; short = short; whole = refl }

-- an item of a name that is short enough
abbrev found : Bool → Item → List Word → Option (Item × List Word)
found b j ws = (cond b None (Some (Some j)) >>= λ i. (let x : Option Item × List Word = (i, ws) in Some x)) >>= λ x. elim x.0 as (λ _. Option (Item × List Word)) [ None ↦ None | Some i ↦ Some (i, x.1) ]

found_is : (b : Bool) (j i : Item) (ws after : List Word) → found b j ws ≡ Some (i, after) → (b ≡ false) × (j ≡ i) × (ws ≡ after)
found_is true j i ws after e = absurd (cc)
found_is false j i ws after e = (refl, pair_is _ _ _ _ e, pair_leads _ _ _ _ e)

found_none : (b : Bool) (i : Item) (ws after : List Word)
    → (((cond b None (let x : Option (Option Item) = None in x)) >>= λ i. (let x : Option Item × List Word = (i, ws) in Some x)) >>= λ x. elim x.0 as (λ _. Option (Item × List Word)) [ None ↦ None | Some i ↦ Some (i, x.1) ]) ≡ Some (i, after) → ⊥
found_none true i ws after e = absurd (cc)
found_none false i ws after e = absurd (cc)

-- what a name begins is no end
abbrev NamedIs : Item → List Word → List Word → Type 0
NamedIs i ws after = (i ≡ closes → ⊥) × ItemIs i ws after

named_found : (ws after : List Word) (i : Item) → unlabelled ws ≡ Some (i, after) → NamedIs i ws after
unfolding unlabelled label_first
named_found [] after i e = absurd (cc)
named_found (name n ∷ []) after i e = absurd (cc)
named_found (name n ∷ mark Colon ∷ ws) after i e = let h = named_found ws after i e in (h.0, labels_before n i ws after h.0 h.1)
named_found (name n ∷ mark Semicolon ∷ ws) after i e =
    let p = found_is (nat_lt 255 (length n)) (no_value n) i ws after e in
    subst (λ (j : Item). NamedIs j (name n ∷ mark Semicolon ∷ ws) after) p.1 ((λ f. absurd (cc)), (name n ∷ [], alone_name n (ltb-false 255 (length n) p.0), ap (λ (w : List Word). name n ∷ mark Semicolon ∷ w) p.2))
named_found (name n ∷ mark Equals ∷ ws) after i e =
    let p = found_is (nat_lt 255 (length n)) (has_value n) i ws after e in
    subst (λ (j : Item). NamedIs j (name n ∷ mark Equals ∷ ws) after) p.1 ((λ f. absurd (cc)), (name n ∷ [], alone_name n (ltb-false 255 (length n) p.0), ap (λ (w : List Word). name n ∷ mark Equals ∷ w) p.2))
named_found (name n ∷ mark BraceOpen ∷ ws) after i e =
    let p = found_is (nat_lt 255 (length n)) (opens n) i ws after e in
    subst (λ (j : Item). NamedIs j (name n ∷ mark BraceOpen ∷ ws) after) p.1 ((λ f. absurd (cc)), (name n ∷ [], alone_name n (ltb-false 255 (length n) p.0), ap (λ (w : List Word). name n ∷ mark BraceOpen ∷ w) p.2))
named_found (name n ∷ stray ∷ ws) after i e = absurd (cc)
named_found (name n ∷ w ∷ ws) after i e = absurd (found_none (nat_lt 255 (length n)) i ws after e)
named_found (w ∷ ws) after i e = absurd (cc)

item_by : (b : Bool) (w : Word) (ws rest after : List Word) (i : Item) → (b ≡ true → w ≡ mark BraceClose) → ws ≡ w ∷ rest → cond b (Some (closes, rest)) (unlabelled ws) ≡ Some (i, after) → ItemIs i ws after
item_by true w ws rest after i is whole e =
    subst (λ (j : Item). ItemIs j ws after) (pair_is _ _ _ _ e) (whole ∙ ap (λ (v : Word). v ∷ rest) (is refl) ∙ ap (λ (l : List Word). mark BraceClose ∷ l) (pair_leads _ _ _ _ e))
item_by false w ws rest after i is whole e = (named_found ws after i e).1

item_found : (ws after : List Word) (i : Item) → item ws ≡ Some (i, after) → ItemIs i ws after
unfolding item
item_found ws after i e =
    let p = bind_some (take_word ws) (λ w. cond (is_mark BraceClose w.0) (Some (closes, w.1)) (unlabelled ws)) (i, after) e in
    item_by (is_mark BraceClose p.0.0) p.0.0 ws p.0.1 after i (mark_is BraceClose p.0.0) (next_is ws p.0.1 p.0.0 p.1) p.2

-- properties in front of words
abbrev PropertiesAre : FileBytes → List Word → List Named → List Word → Type 0
PropertiesAre files ws ps after = (front : List Word) × AreProperties files front ps × (ws ≡ front ++ after)

no_properties : (files : FileBytes) (ws after : List Word) (xs ps : List Named) → ◌≡◌ {A = Step Named} (Some (true, xs, ws)) (Some (true, ps, after)) → xs ≡ [] → PropertiesAre files ws ps after
no_properties files ws after xs ps e nothing = ([], subst (λ (l : List Named). AreProperties files [] l) (sym (triple_is _ _ _ _ _ _ e ∙ nothing)) refl, triple_leads _ _ _ _ _ _ e)

properties_last_by : (files : FileBytes) (it : Item) (ws rest after : List Word) (ps : List Named) → named_property files ws it rest ≡ Some (true, ps, after) → PropertiesAre files ws ps after
properties_last_by files (no_value n) ws rest after ps e = absurd (triple_last _ _ _ _ e)
properties_last_by files (has_value n) ws rest after ps e = let v = bind_some (values files rest) _ (true, ps, after) e in absurd (triple_last _ _ _ _ v.2)
properties_last_by files (opens n) ws rest after ps e = no_properties files ws after [] ps e refl
properties_last_by files closes ws rest after ps e = no_properties files ws after [] ps e refl

properties_last : (files : FileBytes) (ws after : List Word) (ps : List Named) → property_step files ws ≡ Some (true, ps, after) → PropertiesAre files ws ps after
unfolding property_step
properties_last files ws after ps e =
    let p = bind_some (item ws) (λ it. named_property files ws it.0 it.1) (true, ps, after) e in
    properties_last_by files p.0.0 ws p.0.1 after ps p.2

abbrev PropertyIs : FileBytes → List Word → List Named → List Word → Type 0
PropertyIs files ws ps after = (front : List Word) × (p : Named) × IsProperty files front p × (ps ≡ p ∷ []) × (ws ≡ front ++ after)

property_by : (files : FileBytes) (it : Item) (ws rest after : List Word) (ps : List Named) → ItemIs it ws rest → named_property files ws it rest ≡ Some (false, ps, after) → PropertyIs files ws ps after
property_by files (no_value n) ws rest after ps h e = (
  h.0 ++ mark Semicolon ∷ [],
  record { name = n; value = [] },
  empty h.0 h.1 refl refl,
  triple_is _ _ _ _ _ _ e,
  h.2 ∙ ap (λ (l : List Word). h.0 ++ mark Semicolon ∷ l) (triple_leads _ _ _ _ _ _ e) ∙ sym (append_assoc h.0 (mark Semicolon ∷ []) after),
)
property_by files (has_value n) ws rest after ps h e =
    let v = bind_some (values files rest) (λ v. (let x : Bool × List Named × List Word = (false, record { name = n; value = v.0 } ∷ [], v.1) in Some x)) (false, ps, after) e in
    let are = values_found files rest v.0.1 v.0.0 v.1 in (
      h.0 ++ mark Equals ∷ (are.0 ++ mark Semicolon ∷ []),
      record { name = n; value = v.0.0 },
      assigned h.0 are.0 h.1 are.1 refl,
      triple_is _ _ _ _ _ _ v.2,
      h.2 ∙ ap (λ (l : List Word). h.0 ++ mark Equals ∷ l) (are.2 ∙ ap (λ (l : List Word). are.0 ++ mark Semicolon ∷ l) (triple_leads _ _ _ _ _ _ v.2) ∙ sym (append_assoc are.0 (mark Semicolon ∷ []) after))
          ∙ sym (append_assoc h.0 (mark Equals ∷ (are.0 ++ mark Semicolon ∷ [])) after),
    )
property_by files (opens n) ws rest after ps h e = absurd (triple_more _ _ _ _ e)
property_by files closes ws rest after ps h e = absurd (triple_more _ _ _ _ e)

properties_more : (files : FileBytes) (ws then after : List Word) (ps qs : List Named) → property_step files ws ≡ Some (false, ps, then) → PropertiesAre files then qs after → PropertiesAre files ws (ps ++ qs) after
unfolding property_step
properties_more files ws then after ps qs e t =
    let p = bind_some (item ws) (λ it. named_property files ws it.0 it.1) (false, ps, then) e in
    let h = property_by files p.0.0 ws p.0.1 then ps (item_found ws p.0.1 p.0.0 p.1) p.2 in
    (h.0 ++ t.0, subst (λ (l : List Named). AreProperties files (h.0 ++ t.0) (l ++ qs)) (sym h.3) (h.0, t.0, h.2, t.1, refl), h.4 ∙ ap (λ (l : List Word). h.0 ++ l) t.2 ∙ sym (append_assoc h.0 t.0 after))

properties_found : (files : FileBytes) (ws after : List Word) (ps : List Named) → properties files ws ≡ Some (ps, after) → PropertiesAre files ws ps after
unfolding all
properties_found files ws after ps e = all_found (property_step files) (PropertiesAre files) (properties_last files) (properties_more files) (suc (length ws)) ws after ps e

-- nodes and the end of a body in front of words
abbrev NodesAre : FileBytes → ℕ → List Word → List NodeParts → List Word → Type 0
NodesAre files l ws ts after = (front : List Word) × AreNodes files l front (chain ts) × (ws ≡ front ++ mark BraceClose ∷ after)

nodes_last_by : (files : FileBytes) (l : ℕ) (read : List ℕ → Parses NodeParts) (it : Item) (ws rest after : List Word) (ts : List NodeParts) → ItemIs it ws rest → child_named read it rest ≡ Some (true, ts, after) → NodesAre files l ws ts after
nodes_last_by files l read (opens n) ws rest after ts h e =
    let t = bind_some (read n rest) (λ t. expect Semicolon t.1 >>= λ behind. (let x : Bool × List NodeParts × List Word = (false, t.0 ∷ [], behind) in Some x)) (true, ts, after) e in
    let s = bind_some (expect Semicolon t.0.1) (λ behind. (let x : Bool × List NodeParts × List Word = (false, t.0.0 ∷ [], behind) in Some x)) (true, ts, after) t.2 in
    absurd (triple_last _ _ _ _ s.2)
nodes_last_by files l read closes ws rest after ts h e =
    ([], subst (λ (x : List NodeParts). AreNodes files l [] (chain x)) (sym (triple_is _ _ _ _ _ _ e)) refl, h ∙ ap (λ (w : List Word). mark BraceClose ∷ w) (triple_leads _ _ _ _ _ _ e))
nodes_last_by files l read it ws rest after ts h e = absurd (cc)

nodes_last : (files : FileBytes) (l : ℕ) (read : List ℕ → Parses NodeParts) (ws after : List Word) (ts : List NodeParts) → child_step read ws ≡ Some (true, ts, after) → NodesAre files l ws ts after
unfolding child_step
nodes_last files l read ws after ts e =
    let p = bind_some (item ws) (λ it. child_named read it.0 it.1) (true, ts, after) e in
    nodes_last_by files l read p.0.0 ws p.0.1 after ts (item_found ws p.0.1 p.0.0 p.1) p.2

-- a child: its name, and what is read behind its opening brace
abbrev ChildIs : (List ℕ → Parses NodeParts) → List Word → List NodeParts → List Word → Type 0
ChildIs read ws ts after =
    (head : List Word) × (n : List ℕ) × (t : NodeParts) × (rest : List Word) × Names head n
    × (read n rest ≡ Some (t, mark Semicolon ∷ after)) × (ts ≡ t ∷ []) × (ws ≡ head ++ mark BraceOpen ∷ rest)

child_by : (read : List ℕ → Parses NodeParts) (it : Item) (ws rest after : List Word) (ts : List NodeParts) → ItemIs it ws rest → child_named read it rest ≡ Some (false, ts, after) → ChildIs read ws ts after
child_by read (opens n) ws rest after ts h e =
    let t = bind_some (read n rest) (λ t. expect Semicolon t.1 >>= λ behind. (let x : Bool × List NodeParts × List Word = (false, t.0 ∷ [], behind) in Some x)) (false, ts, after) e in
    let s = bind_some (expect Semicolon t.0.1) (λ behind. (let x : Bool × List NodeParts × List Word = (false, t.0.0 ∷ [], behind) in Some x)) (false, ts, after) t.2 in
    let ends : t.0.1 ≡ mark Semicolon ∷ after = expect_is Semicolon t.0.1 s.0 s.1 ∙ ap (λ (w : List Word). mark Semicolon ∷ w) (triple_leads _ _ _ _ _ _ s.2) in
    (h.0, n, t.0.0, rest, h.1, t.1 ∙ ap (λ (w : List Word). (let x : NodeParts × List Word = (t.0.0, w) in Some x)) ends, triple_is _ _ _ _ _ _ s.2, h.2)
child_by read closes ws rest after ts h e = absurd (triple_more _ _ _ _ e)
child_by read it ws rest after ts h e = absurd (cc)

child_is : (read : List ℕ → Parses NodeParts) (ws after : List Word) (ts : List NodeParts) → child_step read ws ≡ Some (false, ts, after) → ChildIs read ws ts after
unfolding child_step
child_is read ws after ts e =
    let p = bind_some (item ws) (λ it. child_named read it.0 it.1) (false, ts, after) e in
    child_by read p.0.0 ws p.0.1 after ts (item_found ws p.0.1 p.0.0 p.1) p.2

-- what is inside a node
abbrev InsideIs : FileBytes → ℕ → List ℕ → List Word → NodeParts → List Word → Type 0
InsideIs files l n ws t after =
    (own : List Word) × (kids : List Word) × AreProperties files own t.props × AreNodes files l kids t.children × (t.name ≡ n) × (ws ≡ tail own kids after)

inside_found : (files : FileBytes) (l : ℕ) → ((ws after : List Word) (ts : List NodeParts) → children l files ws ≡ Some (ts, after) → NodesAre files l ws ts after)
    → (n : List ℕ) (ws after : List Word) (t : NodeParts) → inside files (children l files) n ws ≡ Some (t, after) → InsideIs files l n ws t after
unfolding inside
inside_found files l below n ws after t e =
    let own = bind_some (properties files ws) _ (t, after) e in
    let kids = bind_some (children l files own.0.1) (λ kids. (let x : NodeParts × List Word = (record { name = n; props = own.0.0; children = chain kids.0 }, kids.1) in Some x)) (t, after) own.2 in
    let ps = properties_found files ws own.0.1 own.0.0 own.1 in
    let ns = below own.0.1 kids.0.1 kids.0.0 kids.1 in
    subst (λ (x : NodeParts). InsideIs files l n ws x after) (pair_is _ _ _ _ kids.2)
    (ps.0, ns.0, ps.1, ns.1, refl, ps.2 ∙ ap (λ (w : List Word). ps.0 ++ w) (ns.2 ∙ ap (λ (w : List Word). ns.0 ++ mark BraceClose ∷ w) (pair_leads _ _ _ _ kids.2)))

nodes_more : (files : FileBytes) (l : ℕ) → ((n : List ℕ) (ws after : List Word) (t : NodeParts) → node_within (suc l) files n ws ≡ Some (t, after) → InsideIs files l n ws t after)
    → (ws then after : List Word) (ts us : List NodeParts) → child_step (node_within (suc l) files) ws ≡ Some (false, ts, then) → NodesAre files (suc l) then us after → NodesAre files (suc l) ws (ts ++ us) after
nodes_more files l inner ws then after ts us e rest =
    let c = child_is (node_within (suc l) files) ws then ts e in
    let i = inner c.1 c.3 (mark Semicolon ∷ then) c.2 c.5 in
    let front = c.0 ++ body i.0 i.1 (mark Semicolon ∷ rest.0) in (
      front,
      subst (λ (x : List NodeParts). AreNodes files (suc l) front (chain (x ++ us))) (sym c.6)
          (c.0, i.0, i.1, rest.0, subst (λ (m : List ℕ). Names c.0 m) (sym i.4) c.4, i.2, i.3, rest.1, refl),
      c.7 ∙ ap (λ (w : List Word). c.0 ++ mark BraceOpen ∷ w) i.5 ∙ ap (λ (w : List Word). c.0 ++ body i.0 i.1 (mark Semicolon ∷ w)) rest.2
          ∙ sym (whole_more c.0 i.0 i.1 (mark Semicolon ∷ rest.0) (mark BraceClose ∷ after)),
    )

no_level : (files : FileBytes) (ws then : List Word) (ts : List NodeParts) → child_step (node_within zero files) ws ≡ Some (false, ts, then) → ⊥
unfolding node_within
no_level files ws then ts e = let c = child_is (node_within zero files) ws then ts e in let f = c.5 in absurd (cc)

children_found : (files : FileBytes) (l : ℕ) (ws after : List Word) (ts : List NodeParts) → children l files ws ≡ Some (ts, after) → NodesAre files l ws ts after
unfolding all node_within
children_found files zero ws after ts e =
    all_found (child_step (node_within zero files)) (NodesAre files zero) (nodes_last files zero (node_within zero files)) (λ ws then after ts us h t. absurd (no_level files ws then ts h)) (suc (length ws)) ws after ts e
children_found files (suc l) ws after ts e =
    all_found (child_step (node_within (suc l) files)) (NodesAre files (suc l)) (nodes_last files (suc l) (node_within (suc l) files)) (nodes_more files l (inside_found files l (children_found files l))) (suc (length ws)) ws after ts e

version_is : (w : Word) → is_version w ≡ true → w ≡ directive (codes "dts-v1")
version_is (directive d) e = ap directive (bytes_same d (codes "dts-v1") e)
version_is w e = absurd (cc)

alone_is : (t u : NodeParts) (ws : List Word) → alone t ws ≡ Some u → (t ≡ u) × (ws ≡ [])
alone_is t u [] e = (some_is t u e, refl)
alone_is t u (w ∷ ws) e = absurd (cc)

-- What is read is spelled.
pub source_found : (ws : List Word) (files : FileBytes) (t : NodeParts) → source files ws ≡ Some t → Spells ws files (one_node t)
unfolding source node_within
source_found ws files t e =
    let v = bind_some (version ws) _ t e in
    let semi = bind_some (expect Semicolon v.0) _ t v.2 in
    let slash = bind_some (expect Slash semi.0) _ t semi.2 in
    let opened = bind_some (expect BraceOpen slash.0) _ t slash.2 in
    let root = bind_some (inside files (children 63 files) [] opened.0) (λ x. expect Semicolon x.1 >>= λ rest. alone x.0 rest) t opened.2 in
    let closed = bind_some (expect Semicolon root.0.1) (λ rest. alone root.0.0 rest) t root.2 in
    let end = alone_is root.0.0 t closed.0 closed.2 in
    let i = inside_found files 63 (children_found files 63) [] opened.0 root.0.1 root.0.0 root.1 in
    let w = bind_some (take_word ws) (λ w. cond (is_version w.0) (Some w.1) None) v.0 v.1 in
    let g = guard (is_version w.0.0) w.0.1 v.0 w.2 in
    let first = next_is ws w.0.1 w.0.0 w.1 ∙ ap (λ (x : Word). x ∷ w.0.1) (version_is w.0.0 g.0) ∙ ap (λ (x : List Word). directive (codes "dts-v1") ∷ x) g.1 in
    let last : root.0.1 ≡ mark Semicolon ∷ [] = expect_is Semicolon root.0.1 closed.0 closed.1 ∙ ap (λ (x : List Word). mark Semicolon ∷ x) end.1 in
    let inner : opened.0 ≡ tail i.0 i.1 (mark Semicolon ∷ []) = i.5 ∙ ap (λ (x : List Word). tail i.0 i.1 x) last in
    let behind_slash : slash.0 ≡ body i.0 i.1 (mark Semicolon ∷ []) = expect_is BraceOpen slash.0 opened.0 opened.1 ∙ ap (λ (x : List Word). mark BraceOpen ∷ x) inner in
    let behind_semi : semi.0 ≡ mark Slash ∷ body i.0 i.1 (mark Semicolon ∷ []) = expect_is Slash semi.0 slash.0 slash.1 ∙ ap (λ (x : List Word). mark Slash ∷ x) behind_slash in
    let behind_version : v.0 ≡ mark Semicolon ∷ mark Slash ∷ body i.0 i.1 (mark Semicolon ∷ []) = expect_is Semicolon v.0 semi.0 semi.1 ∙ ap (λ (x : List Word). mark Semicolon ∷ x) behind_semi in
    subst (λ (x : NodeParts). Spells ws files (one_node x)) end.0 (record {
      props = root.0.0.props;
      children = root.0.0.children;
      own = i.0;
      below = i.1;
      are_properties = i.2;
      are_children = i.3;
      whole = first ∙ ap (λ (x : List Word). directive (codes "dts-v1") ∷ x) behind_version;
      root = ap (λ (n : List ℕ). a_node n root.0.0.props root.0.0.children no_node) i.4;
    })
