-- The keys of names, and the tokens that were read.
use Rattle.std.proofs.Common.{◌≡◌, ◌+◌, ℕ, suc, List, [], ◌∷◌, ◌++◌, find, Option, Some, None, Result, Ok, Err, Bool, true, false, IsTrue, refl, ap, sym, ◌∙◌, subst, cond, if◌then◌else◌, OnOk, is_ok, replicate, arith}
use Rattle.std.{specs.{Prelude.IsErrAnd, Str.bytes_eq}, proofs.lemmas.Result.err_from_is_err_and}
use Rattle.std.{specs.Option.{option_map, is_some}, proofs.lemmas.List.length-replicate}
use Rattle.std.proofs.lemmas.Slice.Eq.{bytes_eq-Decides}
use Rattle.uimg_blob_reading.specs.{declared.{fault.IndexFault.IndexFault, keys.Key.Key}, Rows.size}
use Rattle.uimg_blob_reading.specs.{declared.tokens.ReadToken.ReadToken, Grammar.none}
use Rattle.uimg_blob_reading.specs.{ReadTokens.{IsReadAs, IsSound}, Walk.{Open, opened}, Kept.slot}
use Rattle.uimg_blob_reading.specs.{Keys.{name_of, key_named, all_keys}, SoFar.entries_so_far}
use Rattle.uimg_blob_reading.specs.declared.keys.Key.TheVariants as key
use Rattle.uimg_blob_reading.specs.declared.tokens.ReadToken.TheVariants as read
use Rattle.uimg_blob_reading.specs.Tokens.{Property, Token, Blocks, token_at, begin_node, end_node, prop, nop, last, stray}
use Rattle.uimg_blob_reading.proofs.{KeepLaws.unchanged, ValueLaws.absent}
use Rattle.uimg_blob_reading.proofs.PhaseLaws.{some_none, by_bool, some_some, true_false}

find_some : {X : Type 0} (f : X → Bool) (xs : List X) (y : X) → find f xs ≡ Some y → f y ≡ true
find_some f [] y h = absurd (some_none (sym h))
find_some f (x ∷ xs) y h = by_bool (f x)
    (λ is. ap f (some_some y x (sym h ∙ ap (λ (b : Bool). cond b (Some x) (find f xs)) is)) ∙ is)
    (λ is. find_some f xs y (sym (ap (λ (b : Bool). cond b (Some x) (find f xs)) is) ∙ h))

pub named_some : (k : Key) (name : List ℕ) → Some k ≡ key_named name → name_of k ≡ name
named_some k name h = sym ((bytes_eq-Decides name (name_of k)).0 (find_some (λ (i : Key). bytes_eq name (name_of i)) all_keys k (sym h)))

keyed : (k : Key) → Some k ≡ key_named (name_of k)
keyed k = grind arith

no_key : (name : List ℕ) → None ≡ key_named name → (k : Key) → bytes_eq name (name_of k) ≡ false
no_key name h k = grind (arith, by_bool, bytes_eq-Decides, keyed, some_none)

slot_none : (name : List ℕ) (keys : List Key) → ((k : Key) → bytes_eq name (name_of k) ≡ false) → slot name keys ≡ None
slot_none name [] h = refl
slot_none name (k ∷ keys) h = by_bool (bytes_eq (name_of k) name)
    (λ is. absurd (true_false (sym ((bytes_eq-Decides name (name_of k)).1 (sym ((bytes_eq-Decides (name_of k) name).0 is))) ∙ h k)))
    (λ is. ap (λ (b : Bool). if b then Some 0 else option_map suc (slot name keys)) is ∙ ap (option_map suc) (slot_none name keys h))

-- nothing is kept of a property that no key names
pub named_none : (ls : List Open) (at : ℕ) (name : List ℕ) (own : List Property) (x : Property) → None ≡ key_named x.name
    → entries_so_far (opened at name own none ∷ ls) ≡ entries_so_far (opened at name (own ++ x ∷ []) none ∷ ls)
named_none ls at name own x h = grind (arith, absent, no_key, slot_none, unchanged)

pub none_from : (o : Option ℕ) → is_some o ≡ false → o ≡ None
none_from o h = grind (arith, true_false)

pub from_ok : {X E : Type 0} {P : Type 0} (r : Result X E) → OnOk r P → is_ok r ≡ true → P
from_ok r h is = grind (arith, true_false)

-- what a `?` returns
pub passed_on : {X : Type 0} (r : Result X IndexFault) (e : IndexFault) → IsErrAnd r (λ f. f ≡ e) → r ≡ Err e
passed_on r e h = let x = err_from_is_err_and r h in x.1 ∙ ap (λ (f : IndexFault). Err f) x.2

pub on_err : {X E : Type 0} (P : Type 0) (r : Result X E) (e : E) → r ≡ Err e → OnOk r P
on_err {X = X} {E = E} P r e is = subst (λ (k : Result X E). OnOk k P) (sym is) tt

abbrev name_for : Option Key → List ℕ
name_for None = []
name_for (Some k) = name_of k

keyed_by : (k : Option Key) → k ≡ key_named (name_for k)
keyed_by k = grind (arith, keyed)

-- whatever was read, it is read of some token
some_token : (at : ℕ) (found : ReadToken) → IsSound found → (t : Token) × IsReadAs at t found
some_token at (read.BeginNode size l) s = (begin_node at (Ok s.name), record { name = s.name; is = refl; sized = s.sized; labelled = s.labelled })
some_token at (read.BadBeginNode f) s = (begin_node at (Err f), refl)
some_token at read.EndNode s = (end_node at, refl)
some_token at (read.Prop size k) s = (
  prop at (Ok (record { name = name_for k; place = at + 12; value = replicate size 0 })),
  record {
    property = record { name = name_for k; place = at + 12; value = replicate size 0 };
    is = refl;
    place = refl;
    sized = sym (length-replicate size 0);
    keyed = keyed_by k;
  },
)
some_token at (read.BadProp f) s = (prop at (Err f), refl)
some_token at read.Nop s = (nop at, refl)
some_token at read.End s = (last at, refl)
some_token at (read.Stray f) s = (stray at f, refl)

-- the token that was read: that of the file, where the source is honest
pub a_token : (honest : Bool) (b : Blocks) (at : ℕ) (found : ReadToken) → (IsTrue honest → IsReadAs at (token_at b at) found) → IsSound found
    → (t : Token) × (IsTrue honest → t ≡ token_at b at) × IsReadAs at t found
a_token true b at found h s = (token_at b at, (λ x. refl), h refl)
a_token false b at found h s = let t = some_token at found s in (t.0, (λ x. absurd (true_false (sym x))), t.1)
