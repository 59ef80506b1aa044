-- The names of files that were given, as a set.
use Rattle.std.proofs.Common.{◌≡◌, ◌∙◌, ℕ, suc, Bool, true, false, ◌||◌, ◌<◌, ◌+◌, ◌-◌, ◌==◌, nat_lt, List, [], ◌∷◌, map, length, Vec, is_eq, refl, ap, ap₂, sym, subst, true≢false, if◌then◌else◌, arith}
use Rattle.std.proofs.lemmas.Bool.{eqb-true, ltb-true, and_parts}
use Rattle.std.proofs.lemmas.Map.Text.{is_eq-slice_cmp}
use Rattle.std.proofs.lemmas.Slice.Eq.{bytes_eq-Decides}
use Rattle.std.proofs.lemmas.Str.{IsUtf8-from_ascii}
use Rattle.std.proofs.lemmas.Str.Ascii.{IsAscii-cons, IsAscii-nil}
use Rattle.std.specs.BTreeSet.{BTreeSet, insert_key}
use Rattle.std.specs.Char.{to_ascii_lowercase}
use Rattle.std.specs.Cmp.Lexicographic.{slice_cmp}
use Rattle.std.specs.List.{list_all, list_any}
use Rattle.std.specs.Ordering.{match_ordering, nat_cmp}
use Rattle.std.specs.Prelude.{bytes_eq, IsAscii, IsUtf8, IfOk, MatchOption, Option, Some, None, Result, Ok, Err}
use Rattle.std.specs.declared.cmp.Ordering.{Ordering}
use Rattle.std.specs.declared.cmp.Ordering.TheVariants.{Less, Equal, Greater}
use Rattle.uimg_unpacking.specs.FileNames.{allowed, is_allowed, is_among, is_file_name, keeps_name, image_name, first_free, file_name}
use Rattle.uimg_unpacking.specs.Names.{HasNames, Gives}

or_same : (a b : Bool) → (a || (a || b)) ≡ (a || b)
or_same true b = refl
or_same false b = refl

or_swap : (a b c : Bool) → (a || (b || c)) ≡ (b || (a || c))
or_swap true true c = refl
or_swap true false c = refl
or_swap false true c = refl
or_swap false false c = refl

module _ {K : Type 0} (cmp : K → K → Ordering) (p : K → Bool) (same : (x y : K) → cmp x y ≡ Equal → p x ≡ p y) where
  at_key : (k x : K) (xs : List K) (o : Ordering) → cmp k x ≡ o → list_any p (insert_key cmp xs k) ≡ (p k || list_any p xs)
      → list_any p (match_ordering o (k ∷ x ∷ xs) (x ∷ xs) (x ∷ insert_key cmp xs k)) ≡ (p k || (p x || list_any p xs))
  at_key k x xs Less is further = refl
  at_key k x xs Equal is further = sym (ap (λ (b : Bool). b || (p x || list_any p xs)) (same k x is) ∙ or_same (p x) (list_any p xs))
  at_key k x xs Greater is further = ap (λ (b : Bool). p x || b) further ∙ or_swap (p x) (p k) (list_any p xs)

  -- what a test finds where a key is put in
  pub any_inserted : (k : K) (ks : List K) → list_any p (insert_key cmp ks k) ≡ (p k || list_any p ks)
  any_inserted k [] = refl
  any_inserted k (x ∷ xs) = at_key k x xs (cmp k x) refl (any_inserted k xs)

-- keys that compare as equal are the same name
same_key : {Z : Type 0} (name : List ℕ) (x y : Vec ℕ Z) → slice_cmp nat_cmp x.items y.items ≡ Equal → is_eq (slice_cmp nat_cmp name x.items) ≡ is_eq (slice_cmp nat_cmp name y.items)
same_key name x y is = ap (λ (ks : List ℕ). is_eq (slice_cmp nat_cmp name ks)) ((bytes_eq-Decides x.items y.items).0 (sym (is_eq-slice_cmp x.items y.items) ∙ ap is_eq is))

-- one more name in the set
pub has_more : {Z : Type 0} (old new : BTreeSet (Vec ℕ Z)) (k : Vec ℕ Z) (name : List ℕ) (names more : List (List ℕ)) → k.items ≡ map to_ascii_lowercase name
    → new.keys ≡ insert_key (λ x y. slice_cmp nat_cmp x.items y.items) old.keys k → more ≡ name ∷ names → HasNames old names → HasNames new more
has_more old new k name names more small is all has = λ asked.
    let small_asked = map to_ascii_lowercase asked in
    ap (list_any (λ known. is_eq (slice_cmp nat_cmp small_asked known.items))) is
    ∙ any_inserted (λ x y. slice_cmp nat_cmp x.items y.items) (λ known. is_eq (slice_cmp nat_cmp small_asked known.items)) (same_key small_asked) k old.keys
    ∙ ap₂ (λ (a b : Bool). a || b) (is_eq-slice_cmp small_asked k.items ∙ ap (bytes_eq small_asked) small) (has asked)
    ∙ ap (λ (ns : List (List ℕ)). is_among ns asked) (sym all)

-- a file name is UTF-8, since it has only characters of ASCII
below : (b : ℕ) (ks : List ℕ) → list_all (λ k. nat_lt k 128) ks ≡ true → list_any (λ k. k == b) ks ≡ true → b < 128
below b [] all is = absurd (true≢false (sym is))
below b (k ∷ ks) all is =
    let h = and_parts (nat_lt k 128) (list_all (λ n. nat_lt n 128) ks) all in
    by_case (k == b) refl (ltb-true k 128 h.0) (below b ks h.1) is
  where
    by_case : (e : Bool) → (k == b) ≡ e → k < 128 → (list_any (λ n. n == b) ks ≡ true → b < 128) → (e || list_any (λ n. n == b) ks) ≡ true → b < 128
    by_case true same small later found = subst (λ (n : ℕ). n < 128) (eqb-true k b same) small
    by_case false other small later found = later found

are_ascii : (name : List ℕ) → list_all is_allowed name ≡ true → IsAscii name
are_ascii [] all = IsAscii-nil
are_ascii (byte ∷ name) all =
    let h = and_parts (is_allowed byte) (list_all is_allowed name) all in
    IsAscii-cons byte name (below byte allowed refl h.0) (are_ascii name h.1)

pub is_text : (name : List ℕ) → is_file_name name ≡ true → IsUtf8 name
is_text name is = IsUtf8-from_ascii name (are_ascii name (and_parts _ _ is).1)

-- the first free number
free_here : (names : List (List ℕ)) (number tries more : ℕ) → tries ≡ suc more → is_among names (image_name number) ≡ false → first_free names number tries ≡ image_name number
unfolding first_free
free_here names number tries more is free =
    ap (first_free names number) is ∙ ap (λ (b : Bool). if b then first_free names (suc number) more else image_name number) free

free_later : (names : List (List ℕ)) (number tries more : ℕ) → tries ≡ suc more → is_among names (image_name number) ≡ true → first_free names number tries ≡ first_free names (suc number) more
unfolding first_free
free_later names number tries more is used =
    ap (first_free names number) is ∙ ap (λ (b : Bool). if b then first_free names (suc number) more else image_name number) used

pub found_free : (names : List (List ℕ)) (number k most : ℕ) → k < most → is_among names (image_name (number + k)) ≡ false → image_name (number + k) ≡ first_free names (number + k) (most - k)
found_free names number k most less is = sym (free_here names (number + k) (most - k) (most - (k + 1)) (omega (arith, less)) is)

pub tried_more : (names : List (List ℕ)) (number k most : ℕ) → k < most → is_among names (image_name (number + k)) ≡ true → first_free names (number + (k + 1)) (most - (k + 1)) ≡ first_free names (number + k) (most - k)
tried_more names number k most less is =
    let next : number + (k + 1) ≡ suc (number + k) = omega arith in
    ap (λ (n : ℕ). first_free names n (most - (k + 1))) next ∙ sym (free_later names (number + k) (most - k) (most - (k + 1)) (omega (arith, less)) is)

-- the name of a file: that of the image, or of a number
its_own : (names : List (List ℕ)) (image : List ℕ) → keeps_name names image ≡ true → image ≡ file_name names image
unfolding file_name
its_own names image is = sym (ap (λ (b : Bool). if b then image else first_free names (length names) 100) is)

its_number : (names : List (List ℕ)) (image : List ℕ) → keeps_name names image ≡ false → first_free names (length names) 100 ≡ file_name names image
unfolding file_name
its_number names image is = sym (ap (λ (b : Bool). if b then image else first_free names (length names) 100) is)

pub gives_own : (names new : List (List ℕ)) (image text : List ℕ) → keeps_name names image ≡ true → Gives image text names new → Gives (file_name names image) text names new
gives_own names new image text is gives = record { wanted_is = gives.wanted_is ∙ its_own names image is; is_name = gives.is_name; is_free = gives.is_free; given = gives.given }

pub gives_number : (names middle new : List (List ℕ)) (image text : List ℕ) → keeps_name names image ≡ false → middle ≡ names → Gives (first_free middle (length middle) 100) text middle new → Gives (file_name names image) text names new
gives_number names middle new image text is same gives =
    let its = subst (λ (ns : List (List ℕ)). Gives (first_free ns (length ns) 100) text ns new) same gives in
    record { wanted_is = its.wanted_is ∙ its_number names image is; is_name = its.is_name; is_free = its.is_free; given = its.given }

-- by what a result is
pub some_by : {X : Type 0} (P : Type 0) (Q : X → Type 0) (o : Option X) (x : X) → o ≡ Some x → MatchOption o P Q → Q x
some_by {X} P Q o x is found = subst (λ (k : Option X). MatchOption k P Q) is found

pub none_by : {X : Type 0} (P : Type 0) (Q : X → Type 0) (o : Option X) → o ≡ None → MatchOption o P Q → P
none_by {X} P Q o is found = subst (λ (k : Option X). MatchOption k P Q) is found

pub ok_by : {X E : Type 0} (P Q : X → Type 0) (r : Result X E) → ((x : X) → P x → Q x) → IfOk r P → IfOk r Q
ok_by P Q (Ok x) more is = more x is
ok_by P Q (Err e) more is = tt
