-- Which files are opened as a text is read.
use Rattle.std.proofs.Common.{◌≡◌, ◌≤◌, ◌-◌, ◌+◌, ℕ, List, [], ◌∷◌, ◌++◌, Bool, true, false, length, take, drop, is_err, refl, sym, ap, ◌∙◌, arith, le_refl, le_trans, append_assoc, append-nil}
use Rattle.std.specs.{Prelude.{reverse, Result, Ok, Err}, Bool.OnFalse}
use Rattle.std.proofs.lemmas.List.{length-reverse, reverse-reverse, reverse-append, take-append-drop}
use Rattle.std.proofs.Math.Seq.{take-append_seam, take-append-add}
use Rattle.uimg_base.specs.{Named.FileMap, Opening.OpensJust}
use Rattle.uimg_blob_writing.specs.UsingFiles.{OpensEach}
use Rattle.uimg_its.specs.{declared.{stop.Stop.Stop, lists.Listed.Listed}, Words.Word, Answers.Gives}
use Rattle.uimg_its.specs.{Steps.with_front, Reader.{list_items, alone}, Parts.NodeParts}
use Rattle.uimg_its.specs.Included.{included, opened_then, as_many, OpensIncludedBetween}
use Rattle.uimg_its.proofs.PassingLaws.{Passes, list_passes}

-- nothing was opened
pub first_none : (m : FileMap) (names : List (List ℕ)) → as_many m (opened_then m names) ≡ reverse m.opened
unfolding as_many opened_then
first_none m names = ap (λ (n : ℕ). take n (reverse m.opened ++ names)) (sym (length-reverse m.opened)) ∙ take-append_seam (reverse m.opened) names

opens_next : (name : List ℕ) (left : List (List ℕ)) (a b : FileMap) → b.opened ≡ name ∷ a.opened → opened_then b left ≡ opened_then a (name ∷ left)
unfolding opened_then
opens_next name left a b e =
    ap (λ (l : List (List ℕ)). reverse l ++ left) e ∙ ap (λ (l : List (List ℕ)). l ++ left) (reverse-append (name ∷ []) a.opened)
    ∙ append_assoc (reverse a.opened) (name ∷ []) left

-- From the words ts up to the words ws, exactly the files that are included there were opened.
pub record Follows (ts ws : List Word) (a b : FileMap) : Type 0 where
  pub along : opened_then b (included ws) ≡ opened_then a (included ts)
  pub grown : length a.opened ≤ length b.opened

pub passed : (ts ws : List Word) (m : FileMap) → included ts ≡ included ws → Follows ts ws m m
passed ts ws m e = record { along = ap (opened_then m) (sym e); grown = le_refl (length m.opened) }

pub opened_one : (name : List ℕ) (ts ws : List Word) (a b : FileMap) → included ts ≡ name ∷ included ws → b.opened ≡ name ∷ a.opened → Follows ts ws a b
opened_one name ts ws a b e noted = record {
  along = opens_next name (included ws) a b noted ∙ ap (opened_then a) (sym e);
  grown = omega (arith, ap length noted);
}

infixl 5 ◌▷◌
pub ◌▷◌ : {ts us ws : List Word} {a b c : FileMap} → Follows ts us a b → Follows us ws b c → Follows ts ws a c
p ▷ q = record { along = q.along ∙ p.along; grown = le_trans p.grown q.grown }

-- a call that did not fail
pub followed : {X : Type 0} {left : X → List Word} {x : X} {ts : List Word} {a b : FileMap} → OpensIncludedBetween left (Ok x) ts a b → Follows ts (left x) a b
followed p = record { along = p.along; grown = p.grown }

pub follows : {X : Type 0} (left : X → List Word) (x : X) {ts : List Word} {a b : FileMap} → Follows ts (left x) a b → OpensIncludedBetween left (Ok x) ts a b
follows left x {b = b} p = record {
  along = p.along;
  first = ap (as_many b) (sym p.along) ∙ first_none b (included (left x));
  grown = p.grown;
}

stop : {X : Type 0} (left : X → List Word) (r : Result X Stop) (ts : List Word) (a b : FileMap) → is_err r ≡ true
    → as_many b (opened_then a (included ts)) ≡ reverse b.opened → length a.opened ≤ length b.opened → OpensIncludedBetween left r ts a b
stop left (Ok x) ts a b e first grown = absurd (cc)
stop left (Err s) ts a b e first grown = record { along = tt; first = first; grown = grown }

-- a fault after these words
pub stops : {X : Type 0} (left : X → List Word) (r : Result X Stop) {ts ws : List Word} {a b : FileMap} → is_err r ≡ true → Follows ts ws a b → OpensIncludedBetween left r ts a b
stops left r {ts = ts} {ws = ws} {a = a} {b = b} e p = stop left r ts a b e (ap (as_many b) (sym p.along) ∙ first_none b (included ws)) p.grown

-- a fault before any file
pub unopened : {X : Type 0} (left : X → List Word) (r : Result X Stop) {ts : List Word} {m : FileMap} → is_err r ≡ true → OpensIncludedBetween left r ts m m
unopened left r {ts = ts} {m = m} e = stops left r e (passed ts ts m refl)

-- a fault of a call after these words
pub stops_in : {X Y : Type 0} (left : X → List Word) (r : Result X Stop) {inner : Y → List Word} {s : Result Y Stop} {ts ws : List Word} {a b c : FileMap}
    → is_err r ≡ true → Follows ts ws a b → OpensIncludedBetween inner s ws b c → OpensIncludedBetween left r ts a c
stops_in left r {ts = ts} {a = a} {c = c} e p q = stop left r ts a c e (ap (as_many c) (sym p.along) ∙ q.first) (le_trans p.grown q.grown)

-- words of which none are left
pub ends : {X : Type 0} (r : Result X Stop) (view : X → NodeParts) (t : NodeParts) {ts : List Word} (ws : List Word) {a b : FileMap} → Follows ts ws a b → Gives view r (alone t ws) → OpensIncludedBetween (λ x. []) r ts a b
ends (Ok x) view t [] p e = follows (λ x. []) x p
ends (Ok x) view t (w ∷ ws) p e = absurd (cc)
ends (Err s) view t ws p e = stops (λ x. []) (Err s) refl p

-- a list after its opening
pub lists : {X : Type 0} (l : Listed) (left : X → List Word) (r : Result X Stop) (front new : List ℕ) (w : Word) (ts : List Word) (m : FileMap)
    → Passes w → Gives (λ x. (new, left x)) r (with_front front (list_items l ts)) → OpensIncludedBetween left r (w ∷ ts) m m
lists l left (Ok x) front new w ts m p e = follows left x (passed (w ∷ ts) (left x) m (p ts ∙ list_passes l front new ts (left x) e))
lists l left (Err s) front new w ts m p e = stops left (Err s) refl (passed (w ∷ ts) (w ∷ ts) m refl)

-- the whole text was read
some_first : (names : List (List ℕ)) (a b : FileMap) → as_many b (opened_then a names) ≡ reverse b.opened → length a.opened ≤ length b.opened
    → b.opened ≡ reverse (take (length b.opened - length a.opened) names) ++ a.opened
unfolding as_many opened_then
some_first names a b first grown =
    let k = length b.opened - length a.opened in
    let whole : length b.opened ≡ length (reverse a.opened) + k = omega (arith, length-reverse a.opened) in
    let is : reverse b.opened ≡ reverse a.opened ++ take k names =
    sym first ∙ ap (λ (n : ℕ). take n (reverse a.opened ++ names)) whole ∙ take-append-add (reverse a.opened) names k in
    sym (reverse-reverse b.opened) ∙ ap reverse is ∙ reverse-append (reverse a.opened) (take k names)
    ∙ ap (λ (l : List (List ℕ)). reverse (take k names) ++ l) (reverse-reverse a.opened)

just_all : (names : List (List ℕ)) (a b : FileMap) → opened_then b [] ≡ opened_then a names → b.opened ≡ reverse names ++ a.opened
unfolding opened_then
just_all names a b e =
    sym (reverse-reverse b.opened) ∙ ap reverse (sym (append-nil (reverse b.opened)) ∙ e) ∙ reverse-append (reverse a.opened) names
    ∙ ap (λ (l : List (List ℕ)). reverse names ++ l) (reverse-reverse a.opened)

on_success : {X : Type 0} (r : Result X Stop) (ts : List Word) (a b : FileMap) → OpensIncludedBetween (λ x. []) r ts a b → OnFalse (is_err r) (OpensJust (included ts) a b)
on_success (Ok x) ts a b p = just_all (included ts) a b p.along
on_success (Err s) ts a b p = tt

pub each_included : {X : Type 0} (r : Result X Stop) (ts : List Word) (a b : FileMap) → OpensIncludedBetween (λ x. []) r ts a b → OpensEach (is_err r) (included ts) a b
each_included r ts a b p =
    let k = length b.opened - length a.opened in
    record {
      all = on_success r ts a b p;
      some = record {
        left = drop k (included ts);
        opens = record {
          first = take k (included ts);
          whole = sym (take-append-drop k (included ts));
          just = some_first (included ts) a b p.first p.grown;
        };
      };
    }
