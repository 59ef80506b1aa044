-- A map of the texts of statements, and the differences by it.
use Rattle.std.proofs.Common.{◌≡◌, ◌+◌, ◌<◌, ◌≤◌, ℕ, List, [], ◌∷◌, ◌++◌, length, drop, map, Option, Some, None, Bool, true, false, cond, Bor, refl, ap, sym, ◌∙◌, subst, if◌then◌else◌, append-nil, append_assoc}
use Rattle.std.specs.{BTreeMap.{BTreeMap, get_by, is_at, UpdatesBy}, Cmp.Lexicographic.slice_cmp, Ordering.nat_cmp}
use Rattle.std.specs.Map.{lookup}
use Rattle.std.specs.{List.flat_map, Option.{is_some, option_map}, Str.bytes_eq}
use Rattle.std.proofs.lemmas.Map.Text.{btree_map_updates_str}
use Rattle.std.proofs.lemmas.Slice.Eq.{bytes_eq-Decides}
use Rattle.uimg_blob_reading.proofs.PhaseLaws.{some_none, by_bool}
use Rattle.uimg_info.specs.Comparing.{AddsText, HasTexts, MapsTexts, Differs, differs, text_at, text_in, comes_again, has_twice, now_of, option_items}
use Rattle.uimg_info.specs.Statement.{Stated, stated}
use Rattle.uimg_info.specs.declared.{comparing.Difference.Difference, statement.Statement.Statement}

abbrev pub Texts : Type 0
Texts = BTreeMap (Bor (List ℕ)) (Bor (List ℕ))

map_cond : {X Y : Type 0} (f : X → Y) (b : Bool) (x y : Option X) → option_map f (cond b x y) ≡ cond b (option_map f x) (option_map f y)
map_cond f true x y = refl
map_cond f false x y = refl

-- a text at a new key
pub text_added : (key text : List ℕ) (k v : Bor (List ℕ)) (old new : Texts) → k.now ≡ key → v.now ≡ text
    → None ≡ get_by (λ x. slice_cmp nat_cmp k.now x.now) old
    → UpdatesBy (λ x y. slice_cmp nat_cmp x.now y.now) (λ x. slice_cmp nat_cmp k.now x.now) old new (Some v)
    → AddsText true key text old new
text_added key text k v old new is says none updates =
    subst (λ (n : List ℕ). AddsText true n text old new) is
    (subst (λ (t : List ℕ). AddsText true k.now t old new) says (
      ap (option_map now_of) (sym none),
      λ other. ap (option_map now_of) (btree_map_updates_str k.now old new (Some v) updates other)
          ∙ map_cond now_of (bytes_eq k.now other) (Some v) (get_by (λ x. slice_cmp nat_cmp other x.now) old),
    ))

-- a key that is there
pub text_there : (key text : List ℕ) (k v : Bor (List ℕ)) (old new : Texts) → k.now ≡ key
    → Some v ≡ get_by (λ x. slice_cmp nat_cmp k.now x.now) old → AddsText false key text old new
text_there key text k v old new is some =
    subst (λ (n : List ℕ). AddsText false n text old new) is (ap (λ (t : Option (Bor (List ℕ))). is_some (option_map now_of t)) (sym some))

-- the text of a key that a statement after others has, and not they
found_last : (before : List Stated) (s : Stated) (key : List ℕ) → bytes_eq s.key key ≡ true → text_at before key ≡ None → text_at (before ++ s ∷ []) key ≡ Some s.text
unfolding text_at
found_last [] s key same none = ap (λ (b : Bool). if b then Some s.text else None) same
found_last (x ∷ before) s key same none = by_bool (bytes_eq x.key key)
    (λ is. absurd (some_none (sym (ap (λ (b : Bool). if b then Some x.text else text_at before key) is) ∙ none)))
    (λ is. ap (λ (b : Bool). if b then Some x.text else text_at (before ++ s ∷ []) key) is
    ∙ found_last before s key same (sym (ap (λ (b : Bool). if b then Some x.text else text_at before key) is) ∙ none))

-- the text of another key
found_before : (before : List Stated) (s : Stated) (key : List ℕ) → bytes_eq s.key key ≡ false → text_at (before ++ s ∷ []) key ≡ text_at before key
unfolding text_at
found_before [] s key other = ap (λ (b : Bool). if b then Some s.text else None) other
found_before (x ∷ before) s key other = ap (λ (o : Option (List ℕ)). if bytes_eq x.key key then Some x.text else o) (found_before before s key other)

-- a map with one statement more
has_more : (before : List Stated) (s : Stated) (old new : Texts) → HasTexts old before → AddsText true s.key s.text old new → HasTexts new (before ++ s ∷ [])
has_more before s old new has adds = λ key. by_bool (bytes_eq s.key key)
    (λ same.
    let there : s.key ≡ key = (bytes_eq-Decides s.key key).0 same in
    let none : text_at before key ≡ None = sym (has key) ∙ ap (text_in old) (sym there) ∙ adds.0 in
    adds.1 key ∙ ap (λ (b : Bool). cond b (Some s.text) (text_in old key)) same ∙ sym (found_last before s key same none))
    (λ other. adds.1 key ∙ ap (λ (b : Bool). cond b (Some s.text) (text_in old key)) other ∙ has key ∙ sym (found_before before s key other))

-- A map has the texts of statements before those that are left, whose keys are new.
pub record LeftTexts (texts : Texts) (left all : List Statement) : Type 0 where
  pub before : List Stated
  pub has : HasTexts texts before
  pub are : before ++ map stated left ≡ map stated all
  pub is : comes_again before (map stated left) ≡ has_twice (map stated all)

again_not : (before more : List Stated) (s : Stated) → text_at before s.key ≡ None → comes_again (before ++ s ∷ []) more ≡ comes_again before (s ∷ more)
unfolding comes_again
again_not before more s none = ap (λ (o : Option (List ℕ)). if is_some o then true else comes_again (before ++ s ∷ []) more) (sym none)

again_is : (before more : List Stated) (s : Stated) → is_some (text_at before s.key) ≡ true → comes_again before (s ∷ more) ≡ true
unfolding comes_again
again_is before more s there = ap (λ (b : Bool). if b then true else comes_again (before ++ s ∷ []) more) there

again_none : (before : List Stated) → comes_again before [] ≡ false
unfolding comes_again
again_none before = refl

pub empty_texts : (texts : Texts) → texts.entries ≡ [] → (key : List ℕ) → text_in texts key ≡ None
empty_texts texts empty key = ap (λ (es : List (Bor (List ℕ) × Bor (List ℕ))). option_map now_of (lookup (is_at (λ k. slice_cmp nat_cmp key k.now)) es)) empty

pub none_before : (texts : Texts) (all : List Statement) → ((key : List ℕ) → text_in texts key ≡ None) → LeftTexts texts all all
unfolding text_at
none_before texts all empty = record { before = []; has = empty; are = refl; is = refl }

pub one_more : (old new : Texts) (left more all : List Statement) (s : Statement) → left ≡ s ∷ more → LeftTexts old left all
    → AddsText true s.key.items s.text.items old new → LeftTexts new more all
one_more old new left more all s are k adds =
    let first = ap (map stated) (sym are) in
    record {
      before = k.before ++ stated s ∷ [];
      has = has_more k.before (stated s) old new k.has adds;
      are = append_assoc k.before (stated s ∷ []) (map stated more) ∙ ap (λ (l : List Stated). k.before ++ l) first ∙ k.are;
      is = again_not k.before (map stated more) (stated s) (sym (k.has s.key.items) ∙ adds.0) ∙ ap (comes_again k.before) first ∙ k.is;
    }

pub comes_twice : (old new : Texts) (left more all : List Statement) (s : Statement) → left ≡ s ∷ more → LeftTexts old left all
    → AddsText false s.key.items s.text.items old new → has_twice (map stated all) ≡ true
comes_twice old new left more all s are k adds =
    sym k.is ∙ ap (λ (l : List Statement). comes_again k.before (map stated l)) are
    ∙ again_is k.before (map stated more) (stated s) (ap is_some (sym (k.has s.key.items)) ∙ adds)

pub all_texts : (texts : Texts) (left all : List Statement) → left ≡ [] → LeftTexts texts left all → MapsTexts (map stated all) (Some texts)
all_texts texts left all none k =
    let are : k.before ≡ map stated all = sym (append-nil k.before) ∙ ap (λ (l : List Statement). k.before ++ map stated l) (sym none) ∙ k.are in (
      sym k.is ∙ ap (λ (l : List Statement). comes_again k.before (map stated l)) none ∙ again_none k.before,
      λ key. k.has key ∙ ap (λ (l : List Stated). text_at l key) are,
    )

-- what a map gives for the key of a statement
pub text_found : (texts : Texts) (all : List Stated) (s : Statement) (key : List ℕ) (text : Option (Bor (List ℕ))) → HasTexts texts all → key ≡ s.key.items
    → text ≡ get_by (λ k. slice_cmp nat_cmp key k.now) texts → option_map now_of text ≡ text_at all s.key.items
text_found texts all s key text has is found = ap (option_map now_of) found ∙ ap (text_in texts) is ∙ has s.key.items

-- The differences of the statements before those that are left were added.
module _ (step : Stated → List Differs) where
  abbrev pub Left : (to from : List Difference) (left all : List Statement) → Type 0
  Left to from left all = map differs to ++ flat_map step (map stated left) ≡ map differs from ++ flat_map step (map stated all)

  pub step_more : (to new from : List Difference) (left more all : List Statement) (s : Statement) (found : Option Difference) → left ≡ s ∷ more
      → option_items (option_map differs found) ≡ step (stated s) → map differs new ≡ map differs to ++ option_items (option_map differs found)
      → Left to from left all → Left new from more all
  step_more to new from left more all s found are is pushed before =
      ap (λ (l : List Differs). l ++ flat_map step (map stated more)) (pushed ∙ ap (λ (l : List Differs). map differs to ++ l) is)
      ∙ append_assoc (map differs to) (step (stated s)) (flat_map step (map stated more))
      ∙ ap (λ (l : List Statement). map differs to ++ flat_map step (map stated l)) (sym are)
      ∙ before

  pub step_done : (to from : List Difference) (left all : List Statement) → left ≡ [] → Left to from left all
      → map differs to ≡ map differs from ++ flat_map step (map stated all)
  step_done to from left all none before =
      sym (append-nil (map differs to)) ∙ ap (λ (l : List Statement). map differs to ++ flat_map step (map stated l)) (sym none) ∙ before
