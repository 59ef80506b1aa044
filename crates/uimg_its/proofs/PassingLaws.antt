-- Words that include no file.
use Rattle.std.proofs.Common.{◌≡◌, ℕ, suc, List, [], ◌∷◌, Bool, true, false, Option, Some, None, length, nat_lt, refl, sym, ap, ◌∙◌}
use Rattle.std.specs.Prelude.{cond, codes}
use Rattle.uimg_its.specs.{declared.{tokens.Mark.Mark, lists.Listed.Listed}, Options.◌>>=◌}
use Rattle.uimg_its.specs.declared.lists.Listed.TheVariants.{Cells, Bytes}
use Rattle.uimg_its.specs.declared.tokens.Mark.TheVariants.{Slash, BraceOpen, BraceClose, Semicolon, ParenOpen, ParenClose, Colon}
use Rattle.uimg_its.specs.{Words.{Word, name, directive, text, mark, stray}, Included.included}
use Rattle.uimg_its.specs.Steps.{with_front, all}
use Rattle.uimg_its.specs.Reader.{take_word, Item, closes, is_mark, word_name, item_after, label_first, unlabelled, item, element_word, element_step, list_items, expect, string, is_last_value, is_version, version, lone_file}
use Rattle.uimg_its.proofs.{NodeLaws.found_leads, LoneFile.lone_is}
use Rattle.uimg_its.proofs.Shrinking.{bind_some, pair_leads, element_leads_by, front_leads}
use Rattle.uimg_its.proofs.ValuesAreSpelled.{all_found, next_is, mark_is, guard, expect_is, string_is, bytes_same}

-- the word includes no file
abbrev pub Passes : Word → Type 0
Passes w = (ws : List Word) → included (w ∷ ws) ≡ included ws

next_passes : (ws after : List Word) (w : Word) → Passes w → take_word ws ≡ Some (w, after) → included ws ≡ included after
next_passes ws after w p e = ap included (next_is ws after w e) ∙ p after

pub expect_passes : (m : Mark) (ws after : List Word) → expect m ws ≡ Some after → included ws ≡ included after
expect_passes m ws after e = ap included (expect_is m ws after e)

name_passes : (w : Word) (n : List ℕ) → word_name w ≡ Some n → Passes w
name_passes (name m) n e = λ ws. refl
name_passes w n e = absurd (cc)

no_item : (b : Bool) (x : Option Item) → cond b None (let o : Option (Option Item) = None in o) ≡ Some x → ⊥
no_item true x e = absurd (cc)
no_item false x e = absurd (cc)

after_passes : (n : List ℕ) (w : Word) (x : Option Item) → item_after n w ≡ Some x → Passes w
after_passes n (mark m) x e = λ ws. refl
after_passes n (name m) x e = λ ws. refl
after_passes n (text s) x e = λ ws. refl
after_passes n stray x e = λ ws. refl
after_passes n (directive d) x e = absurd (no_item (nat_lt 255 (length n)) x e)

labelled_passes : (ws after : List Word) (x : Option Item) → label_first ws ≡ Some (x, after) → included ws ≡ included after
unfolding label_first
labelled_passes ws after x e =
    let first = bind_some (take_word ws) _ (x, after) e in
    let n = bind_some (word_name first.0.0) _ (x, after) first.2 in
    let second = bind_some (take_word first.0.1) _ (x, after) n.2 in
    let i = bind_some (item_after n.0 second.0.0) (λ i. Some (i, second.0.1)) (x, after) second.2 in
    next_passes ws first.0.1 first.0.0 (name_passes first.0.0 n.0 n.1) first.1
    ∙ next_passes first.0.1 second.0.1 second.0.0 (after_passes n.0 second.0.0 i.0 i.1) second.1
    ∙ ap included (pair_leads i.0 x second.0.1 after i.2)

found_passes : (ws after : List Word) (i : Item)
    → (label_first ws >>= λ x. elim x.0 as (λ _. Option (Item × List Word)) [ None ↦ None | Some i ↦ Some (i, x.1) ]) ≡ Some (i, after) → included ws ≡ included after
found_passes ws after i e =
    let p = bind_some (label_first ws) _ (i, after) e in
    labelled_passes ws p.0.1 p.0.0 p.1 ∙ ap included (found_leads p.0.0 i p.0.1 after p.2)

named_passes : (ws after : List Word) (i : Item) → unlabelled ws ≡ Some (i, after) → included ws ≡ included after
unfolding unlabelled
named_passes [] after i e = absurd (cc)
named_passes (name n ∷ []) after i e = absurd (cc)
named_passes (name n ∷ mark Colon ∷ ws) after i e = named_passes ws after i e
named_passes (name n ∷ w ∷ ws) after i e = found_passes (name n ∷ w ∷ ws) after i e
named_passes (w ∷ ws) after i e = absurd (cc)

item_by : (b : Bool) (w : Word) (ws rest after : List Word) (i : Item) → is_mark BraceClose w ≡ b → ws ≡ w ∷ rest → cond b (Some (closes, rest)) (unlabelled ws) ≡ Some (i, after) → included ws ≡ included after
item_by true w ws rest after i is first e =
    ap included (first ∙ ap (λ (v : Word). v ∷ rest) (mark_is BraceClose w is)) ∙ ap included (pair_leads closes i rest after e)
item_by false w ws rest after i is first e = named_passes ws after i e

pub item_passes : (ws after : List Word) (i : Item) → item ws ≡ Some (i, after) → included ws ≡ included after
unfolding item
item_passes ws after i e =
    let p = bind_some (take_word ws) _ (i, after) e in
    item_by (is_mark BraceClose p.0.0) p.0.0 ws p.0.1 after i refl (next_is ws p.0.1 p.0.0 p.1) p.2

element_word_passes : (l : Listed) (w : Word) (x : Option (List ℕ)) → element_word l w ≡ Some x → Passes w
element_word_passes l (mark m) x e = λ ws. refl
element_word_passes l (name m) x e = λ ws. refl
element_word_passes l (text s) x e = λ ws. refl
element_word_passes l stray x e = λ ws. refl
element_word_passes Cells (directive d) x e = absurd (cc)
element_word_passes Bytes (directive d) x e = absurd (cc)

element_passes : (l : Listed) (ws after : List Word) (b : Bool) (xs : List ℕ) → element_step l ws ≡ Some (b, xs, after) → included ws ≡ included after
unfolding element_step
element_passes l ws after b xs e =
    let first = bind_some (take_word ws) _ (b, xs, after) e in
    let found = bind_some (element_word l first.0.0) _ (b, xs, after) first.2 in
    next_passes ws first.0.1 first.0.0 (element_word_passes l first.0.0 found.0 found.1) first.1
    ∙ ap included (element_leads_by l found.0 b first.0.1 after xs found.2)

items_pass : (l : Listed) (ws after : List Word) (xs : List ℕ) → list_items l ws ≡ Some (xs, after) → included ws ≡ included after
unfolding all
items_pass l ws after xs e =
    all_found (element_step l) (λ ws xs after. included ws ≡ included after) (λ ws after xs h. element_passes l ws after true xs h)
    (λ ws then after v u h t. element_passes l ws then false v h ∙ t) (suc (length ws)) ws after xs e

pub list_passes : (l : Listed) (front xs : List ℕ) (ws after : List Word) → with_front front (list_items l ws) ≡ Some (xs, after) → included ws ≡ included after
list_passes l front xs ws after e = let p = front_leads front xs (list_items l ws) after e in items_pass l ws after p.0 p.1

last_passes : (w : Word) (b : Bool) → is_last_value w ≡ Some b → Passes w
last_passes (mark m) b e = λ ws. refl
last_passes w b e = absurd (cc)

-- the word after a value
pub end_passes : (ws after : List Word) (w : Word) (b : Bool) → take_word ws ≡ Some (w, after) → is_last_value w ≡ Some b → included ws ≡ included after
end_passes ws after w b e last = next_passes ws after w (last_passes w b last) e

version_is : (w : Word) → is_version w ≡ true → w ≡ directive (codes "dts-v1")
version_is (directive d) e = ap directive (bytes_same d (codes "dts-v1") e)
version_is w e = absurd (cc)

version_passes : (ws after : List Word) → version ws ≡ Some after → included ws ≡ included after
version_passes ws after e =
    let p = bind_some (take_word ws) (λ w. cond (is_version w.0) (Some w.1) None) after e in
    let q = guard (is_version p.0.0) p.0.1 after p.2 in
    ap included (next_is ws p.0.1 p.0.0 p.1 ∙ ap (λ (w : Word). w ∷ p.0.1) (version_is p.0.0 q.0)) ∙ ap included q.1

-- the words before the body of the root
pub head_passes : (ws a b c inner : List Word) → version ws ≡ Some a → expect Semicolon a ≡ Some b → expect Slash b ≡ Some c → expect BraceOpen c ≡ Some inner → included ws ≡ included inner
head_passes ws a b c inner e f g h = version_passes ws a e ∙ expect_passes Semicolon a b f ∙ expect_passes Slash b c g ∙ expect_passes BraceOpen c inner h

-- /incbin/ and the name of a file in parentheses
pub file_includes : (ws a b rest : List Word) (n : List ℕ) → expect ParenOpen ws ≡ Some a → string a ≡ Some (n, b) → expect ParenClose b ≡ Some rest → included (directive (codes "incbin") ∷ ws) ≡ n ∷ included rest
file_includes ws a b rest n e f g =
    ap (λ (l : List Word). included (directive (codes "incbin") ∷ l)) (expect_is ParenOpen ws a e
    ∙ ap (λ (l : List Word). mark ParenOpen ∷ l) (string_is a b n f ∙ ap (λ (l : List Word). text n ∷ l) (expect_is ParenClose b rest g)))

pub lone_includes : (ws after : List Word) (n : List ℕ) → lone_file ws ≡ Some (n, after) → included ws ≡ n ∷ included after
lone_includes ws after n e = ap included (lone_is ws after n e)
