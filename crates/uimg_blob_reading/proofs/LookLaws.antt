-- What the entries of a tree say of each of its rows.
use Rattle.std.proofs.Common.{◌≡◌, ◌<◌, ◌≤◌, ◌+◌, ◌-◌, ◌^◌, ℕ, zero, suc, List, [], ◌∷◌, ◌++◌, length, map, replicate, find, Option, Some, None, IfSome, Bool, true, false, cond, if◌then◌else◌, refl, ap, sym, ◌∙◌, subst, append_assoc, get_or, arith}
use Rattle.std.specs.{Prelude.{⊤, ◌==◌}, List.{slice_get, AllByRecursion}, Str.bytes_eq}
use Rattle.std.{specs.Option.option_map, proofs.lemmas.{List.length-append, Bool.{eq-eqb, ne_eqb}}}
use Rattle.std.proofs.{lemmas.Option.{slice_get-map, slice_get_past}, Math.ListN.get_or-append}
use Rattle.uimg_blob_reading.specs.declared.{keys.Key.Key, roles.Role.Role, nodes.Blob.Blob}
use Rattle.uimg_blob_reading.specs.{Tokens.Property, Grammar.{Siblings, none, node}, Keys.name_of}
use Rattle.uimg_blob_reading.specs.{Rows.{Row, size, first_of, rows, table}, LookUps.first}
use Rattle.uimg_blob_reading.specs.{Spots.spot_of, declared.roles.Role.TheVariants.{Hash, Signature}}
use Rattle.uimg_blob_reading.specs.Indexed.{IsIndexed, IsRow, property_span, value_span, value_of}
use Rattle.uimg_blob_reading.specs.Roles.{Level, top, role_at, level_in, level_after, keys_of, is_hash_role, is_signature_role}
use Rattle.uimg_blob_reading.specs.Kept.{Kept, kept, kept_of, entry_of, slot, value_word, span_word, number_word, property_named, LiesIn, entry_under}
use Rattle.uimg_base.specs.declared.spans.Span.{Span}
use Rattle.uimg_blob_reading.proofs.{SoFarLaws.length_kept, KeepLaws.length_words}
use Rattle.uimg_blob_reading.proofs.ValueLaws.{words_of, word_at, slot_below}
use Rattle.uimg_blob_reading.proofs.PhaseLaws.{some_none, some_some, by_bool}
use Rattle.uimg_blob_reading.proofs.LinkLaws.{AreLinked, tree_linked}

-- a number, if a node's parent has this word
abbrev pub under : ℕ → ℕ → Option Kept → Option ℕ
under number word None = None
under number word (Some k) = if number_word k.parent == word then Some number else None

-- A row of a list of nodes that are numbered from i on, and what its neighbours say of its links.
pub record Seat (ks : List Kept) (i n : ℕ) (row : Row) : Type 0 where
  pub end : ℕ
  pub here : slice_get ks n ≡ Some (record { at = row.at; name = row.name; own = row.own; role = row.role; parent = row.parent; end = end })
  pub past : i + n < end
  pub child : row.first_child ≡ under (i + n + 1) (i + n + 1) (slice_get ks (suc n))
  pub sibling : row.next_sibling ≡ under end (number_word row.parent) (slice_get ks (end - i))

shift : (k : Kept) (ks : List Kept) (i n : ℕ) (row : Row) → Seat ks (i + 1) n row → Seat (k ∷ ks) i (suc n) row
shift k ks i n row s = grind arith

shift_by : (front ks : List Kept) (i n : ℕ) (row : Row) → Seat ks (i + length front) n row → Seat (front ++ ks) i (length front + n) row
shift_by [] ks i n row s =
    let there : i + 0 ≡ i = omega arith in
    let same : n ≡ 0 + n = omega arith in
    subst (λ (m : ℕ). Seat ks i m row) same (subst (λ (m : ℕ). Seat ks m n row) there s)
shift_by (k ∷ front) ks i n row s =
    let there : i + suc (length front) ≡ i + 1 + length front = omega arith in
    let same : suc (length front + n) ≡ suc (length front) + n = omega arith in
    subst (λ (m : ℕ). Seat (k ∷ (front ++ ks)) i m row) same
    (shift k (front ++ ks) i (length front + n) row
    (shift_by front ks (i + 1) n row (subst (λ (m : ℕ). Seat ks m n row) there s)))

-- what comes after some nodes is outside their parent
abbrev Outer : ℕ → List Kept → Type 0
Outer word [] = ⊤
Outer word (k ∷ ks) = number_word k.parent < word

not_same : (a b : ℕ) → a < b → (a == b) ≡ false
not_same a b lt = ne_eqb a b (λ same. absurd (omega (arith, lt, same)))

-- the first of some nodes, or what comes after them
first_under : (level : Level) (parent : Option ℕ) (i : ℕ) (t : Siblings) (rest : List Kept) → Outer (number_word parent) rest
    → first_of i t ≡ under i (number_word parent) (slice_get (kept level parent i t ++ rest) 0)
unfolding kept
first_under level parent i t rest outer = grind (arith, eq-eqb, not_same)

outer_more : (level : Level) (parent : Option ℕ) (i word : ℕ) (t : Siblings) (rest : List Kept) → number_word parent < word → Outer (number_word parent) rest
    → Outer word (kept level parent i t ++ rest)
unfolding kept
outer_more level parent i word none [] lt outer = tt
outer_more level parent i word none (k ∷ rest) lt outer = omega (arith, lt, outer)
outer_more level parent i word (node at name own below after) rest lt outer = lt

pub length_rows : (level : Level) (parent : Option ℕ) (i : ℕ) (t : Siblings) → length (rows level parent i t) ≡ size t
unfolding rows
length_rows level parent i none = refl
length_rows level parent i (node at name own below after) =
    omega (
      arith,
      length-append (rows (level_in (role_at level name)) (Some i) (i + 1) below) (rows (level_after level name) parent (i + (1 + size below)) after),
      length_rows (level_in (role_at level name)) (Some i) (i + 1) below,
      length_rows (level_after level name) parent (i + (1 + size below)) after,
    )

-- a place in a list of two parts
pub record Parted {X : Type 0} (a b : List X) (n : ℕ) (x : X) : Type 0 where
  pub at : ℕ
  pub place : n ≡ length a + at
  pub is : slice_get b at ≡ Some x

by_part : {X : Type 0} {P : Type 0} (a b : List X) (n : ℕ) (x : X) → slice_get (a ++ b) n ≡ Some x → (slice_get a n ≡ Some x → P) → (Parted a b n x → P) → P
by_part [] b n x is in_first in_second = in_second (record { at = n; place = omega arith; is = is })
by_part (y ∷ a) b zero x is in_first in_second = in_first is
by_part (y ∷ a) b (suc n) x is in_first in_second =
    by_part a b n x is in_first (λ p. in_second (record { at = p.at; place = omega (arith, p.place); is = p.is }))

pub slice_after : {X : Type 0} (a b : List X) (n : ℕ) → slice_get (a ++ b) (length a + n) ≡ slice_get b n
slice_after [] b n = let e : 0 + n ≡ n = omega arith in ap (slice_get b) e
slice_after (x ∷ a) b n =
    let e : suc (length a) + n ≡ suc (length a + n) = omega arith in
    ap (slice_get (x ∷ (a ++ b))) e ∙ slice_after a b n

-- each row has its seat
seat : (level : Level) (parent : Option ℕ) (i : ℕ) (t : Siblings) (rest : List Kept) → number_word parent ≤ i → Outer (number_word parent) rest
    → (n : ℕ) (row : Row) → slice_get (rows level parent i t) n ≡ Some row → Seat (kept level parent i t ++ rest) i n row
unfolding rows kept
seat level parent i none rest le outer n row is = absurd (some_none (sym is))
seat level parent i (node at name own below after) rest le outer zero row is =
    let role : Role = role_at level name in
    let front : List Kept = kept (level_in role) (Some i) (i + 1) below in
    let back : List Kept = kept (level_after level name) parent (i + (1 + size below)) after in
    let head : Kept = record { at = at; name = name; own = own; role = role; parent = parent; end = i + (1 + size below) } in
    let this : Row = record { at = at; name = name; own = own; role = role; parent = parent; first_child = first_of (i + 1) below; next_sibling = first_of (i + (1 + size below)) after } in
    let same : this ≡ row = some_some this row is in
    let here : i + 1 ≡ i + 0 + 1 = omega arith in
    let far : i + (1 + size below) - i ≡ suc (length front + 0) = omega (arith, length_kept (level_in role) (Some i) (i + 1) below) in
    subst (λ (r : Row). Seat ((head ∷ (front ++ back)) ++ rest) i 0 r) same (record {
      end = i + (1 + size below);
      here = refl;
      past = omega arith;
      child = first_under (level_in role) (Some i) (i + 1) below (back ++ rest)
          (outer_more (level_after level name) parent (i + (1 + size below)) (i + 1) after rest (omega (arith, le)) outer)
          ∙ ap (λ (l : List Kept). under (i + 1) (i + 1) (slice_get l 0)) (sym (append_assoc front back rest))
          ∙ ap (λ (m : ℕ). under m m (slice_get ((front ++ back) ++ rest) 0)) here;
      sibling = first_under (level_after level name) parent (i + (1 + size below)) after rest outer
          ∙ ap (λ (o : Option Kept). under (i + (1 + size below)) (number_word parent) o) (sym (slice_after front (back ++ rest) 0))
          ∙ ap (λ (l : List Kept). under (i + (1 + size below)) (number_word parent) (slice_get l (length front + 0))) (sym (append_assoc front back rest))
          ∙ ap (λ (m : ℕ). under (i + (1 + size below)) (number_word parent) (slice_get (head ∷ ((front ++ back) ++ rest)) m)) (sym far);
    })
seat level parent i (node at name own below after) rest le outer (suc n) row is =
    let role : Role = role_at level name in
    let front : List Kept = kept (level_in role) (Some i) (i + 1) below in
    let back : List Kept = kept (level_after level name) parent (i + (1 + size below)) after in
    let head : Kept = record { at = at; name = name; own = own; role = role; parent = parent; end = i + (1 + size below) } in
    let first_rows : List Row = rows (level_in role) (Some i) (i + 1) below in
    let tail_seat : Seat (front ++ (back ++ rest)) (i + 1) n row =
    by_part first_rows (rows (level_after level name) parent (i + (1 + size below)) after) n row is
    (λ in_first. seat (level_in role) (Some i) (i + 1) below (back ++ rest) (omega arith)
    (outer_more (level_after level name) parent (i + (1 + size below)) (i + 1) after rest (omega (arith, le)) outer) n row in_first)
    (λ p.
    let there : i + (1 + size below) ≡ i + 1 + length front = omega (arith, length_kept (level_in role) (Some i) (i + 1) below) in
    let number : length front + p.at ≡ n = omega (arith, p.place, length_rows (level_in role) (Some i) (i + 1) below, length_kept (level_in role) (Some i) (i + 1) below) in
    subst (λ (m : ℕ). Seat (front ++ (back ++ rest)) (i + 1) m row) number
    (shift_by front (back ++ rest) (i + 1) p.at row (subst (λ (m : ℕ). Seat (back ++ rest) m p.at row) there
    (seat (level_after level name) parent (i + (1 + size below)) after rest (omega (arith, le)) outer p.at row p.is)))) in
    shift head ((front ++ back) ++ rest) i n row
    (subst (λ (l : List Kept). Seat l (i + 1) n row) (sym (append_assoc front back rest)) tail_seat)

nothing : (ks : List Kept) → ks ++ [] ≡ ks
nothing [] = refl
nothing (k ∷ ks) = ap (λ (l : List Kept). k ∷ l) (nothing ks)

seat_of : (t : Siblings) (n : ℕ) (row : Row) → slice_get (table t) n ≡ Some row → Seat (kept_of t) 0 n row
seat_of t n row is = subst (λ (l : List Kept). Seat l 0 n row) (nothing (kept_of t)) (seat top None 0 t [] (omega arith) tt n row is)

-- the node of a row
abbrev pub node_of : Row → ℕ → Kept
node_of row end = record { at = row.at; name = row.name; own = row.own; role = row.role; parent = row.parent; end = end }

under_entry : (number word : ℕ) (o : Option Kept) → under number word o ≡ entry_under number word (option_map entry_of o)
under_entry number word o = grind arith

all_at : (limit : ℕ) (ks : List Kept) (n : ℕ) (k : Kept) → AllByRecursion (LiesIn limit) ks → slice_get ks n ≡ Some k → LiesIn limit k
all_at limit [] n k h is = absurd (some_none (sym is))
all_at limit (q ∷ ks) zero k h is = subst (LiesIn limit) (some_some q k is) h.0
all_at limit (q ∷ ks) (suc n) k h is = all_at limit ks n k h.1 is

-- What an entry is of which node.
pub record EntryOf (t : Siblings) (limit n : ℕ) (e : List ℕ) : Type 0 where
  pub kept : Kept
  pub at : slice_get (kept_of t) n ≡ Some kept
  pub is : e ≡ entry_of kept
  pub lies : LiesIn limit kept

from_option : (ks : List Kept) (n : ℕ) (e : List ℕ) (o : Option Kept) → slice_get ks n ≡ o → Some e ≡ option_map entry_of o → (k : Kept) × (slice_get ks n ≡ Some k) × (e ≡ entry_of k)
from_option ks n e o is h = grind (arith, some_none, some_some)

pub entry_is : (t : Siblings) (blob : Blob) (es : List (List ℕ)) (n : ℕ) (e : List ℕ) → IsIndexed t blob es → slice_get es n ≡ Some e → EntryOf t blob.totalsize n e
entry_is t blob es n e h read = grind (arith, all_at, from_option, slice_get-map)

-- the entry of a row
pub row_entry : (blob : Blob) (es : List (List ℕ)) (n : ℕ) (row : Row) (e : List ℕ) (h : IsRow blob es n row) → slice_get es n ≡ Some e
    → (end : ℕ) × (e ≡ entry_of (node_of row end)) × LiesIn blob.totalsize (node_of row end) × (row.next_sibling ≡ entry_under end (number_word row.parent) (slice_get es end))
row_entry blob es n row e h read =
    let s = seat_of h.nodes n row h.is in
    let x = entry_is h.nodes blob es n e h.indexed read in
    let same : x.kept ≡ node_of row s.end = some_some x.kept (node_of row s.end) (sym x.at ∙ s.here) in
    let there : s.end - 0 ≡ s.end = omega arith in (
      s.end,
      x.is ∙ ap entry_of same,
      subst (LiesIn blob.totalsize) same x.lies,
      s.sibling ∙ ap (λ (m : ℕ). under s.end (number_word row.parent) (slice_get (kept_of h.nodes) m)) there
          ∙ under_entry s.end (number_word row.parent) (slice_get (kept_of h.nodes) s.end)
          ∙ ap (entry_under s.end (number_word row.parent)) (sym (slice_get-map entry_of (kept_of h.nodes) s.end))
          ∙ ap (λ (l : List (List ℕ)). entry_under s.end (number_word row.parent) (slice_get l s.end)) (sym h.indexed.kept),
    )

-- the first child of a row
pub row_child : (blob : Blob) (es : List (List ℕ)) (n : ℕ) (row : Row) (h : IsRow blob es n row) → row.first_child ≡ entry_under (n + 1) (n + 1) (slice_get es (n + 1))
row_child blob es n row h =
    let s = seat_of h.nodes n row h.is in
    let number : 0 + n + 1 ≡ n + 1 = omega arith in
    let next : suc n ≡ n + 1 = omega arith in
    s.child ∙ ap (λ (m : ℕ). under m m (slice_get (kept_of h.nodes) (suc n))) number
    ∙ ap (λ (m : ℕ). under (n + 1) (n + 1) (slice_get (kept_of h.nodes) m)) next
    ∙ under_entry (n + 1) (n + 1) (slice_get (kept_of h.nodes) (n + 1))
    ∙ ap (entry_under (n + 1) (n + 1)) (sym (slice_get-map entry_of (kept_of h.nodes) (n + 1)))
    ∙ ap (λ (l : List (List ℕ)). entry_under (n + 1) (n + 1) (slice_get l (n + 1))) (sym h.indexed.kept)

linked_at : (i n : ℕ) (ks : List Kept) (m : ℕ) (k : Kept) → AreLinked i n ks → slice_get ks m ≡ Some k → i + m < k.end
linked_at i n [] m k h is = absurd (some_none (sym is))
linked_at i n (q ∷ ks) zero k h is = let e = ap (λ (x : Kept). x.end) (some_some q k is) in omega (arith, h.1, e)
linked_at i n (q ∷ ks) (suc m) k h is = omega (arith, linked_at (i + 1) n ks m k h.3 is)

-- a node ends after itself
pub ends_later : (t : Siblings) (limit n : ℕ) (e : List ℕ) → EntryOf t limit n e → n < get_or e 2 0
ends_later t limit n e x =
    let end : get_or e 2 0 ≡ x.kept.end = ap (λ (w : List ℕ). get_or w 2 0) x.is in
    omega (arith, linked_at 0 (length (kept_of t)) (kept_of t) n x.kept (tree_linked t) x.at, end)

-- the word of a value
pub value_at : (k : Kept) (key : Key) (j : ℕ) (e : List ℕ) → e ≡ entry_of k → slot (name_of key) (keys_of k.role) ≡ Some j
    → get_or e (j + 5) 0 ≡ value_word (property_named k.own (name_of key))
value_at k key j e is place =
    let below : j < length (words_of (keys_of k.role) k.own) = omega (arith, slot_below (keys_of k.role) (name_of key) j place, length_words (keys_of k.role) k.own) in
    let five : j + 5 ≡ suc (suc (suc (suc (suc j)))) = omega arith in
    ap (λ (x : List ℕ). get_or x (j + 5) 0) is ∙ ap (λ (i : ℕ). get_or (entry_of k) i 0) five
    ∙ get_or-append (words_of (keys_of k.role) k.own) (replicate (11 - length (keys_of k.role)) 0) 0 j below
    ∙ word_at (keys_of k.role) k.own (name_of key) j place

-- a value lies where all do
pub named_lies : (limit : ℕ) (own : List Property) (name : List ℕ) → AllByRecursion (λ p. (0 < p.place) × (p.place + length p.value ≤ limit)) own
    → IfSome (property_named own name) (λ p. (0 < p.place) × (p.place + length p.value ≤ limit))
named_lies limit [] name h = tt
named_lies limit (p ∷ own) name h = at_first (bytes_eq name p.name) p (property_named own name) h.0 (named_lies limit own name h.1)
  where
    at_first : (b : Bool) (p : Property) (o : Option Property) → (0 < p.place) × (p.place + length p.value ≤ limit)
        → IfSome o (λ q. (0 < q.place) × (q.place + length q.value ≤ limit)) → IfSome (cond b (Some p) o) (λ q. (0 < q.place) × (q.place + length q.value ≤ limit))
    at_first true p o here rest = here
    at_first false p o here rest = rest

-- the property of a name, as a look-up
pub first_spots : (own : List Property) (name : List ℕ) → first (map spot_of own) name ≡ option_map (λ p. record { place = p.place; bytes = p.value }) (property_named own name)
first_spots [] name = refl
first_spots (p ∷ own) name = by_bool (bytes_eq name p.name)
    (λ is. ap (λ (b : Bool). option_map (λ q. q.value) (cond b (Some (spot_of p)) (find (λ q. bytes_eq name q.name) (map spot_of own)))) is
    ∙ sym (ap (λ (b : Bool). option_map (λ q. record { place = q.place; bytes = q.value }) (cond b (Some p) (property_named own name))) is))
    (λ is. ap (λ (b : Bool). option_map (λ q. q.value) (cond b (Some (spot_of p)) (find (λ q. bytes_eq name q.name) (map spot_of own)))) is
    ∙ first_spots own name
    ∙ sym (ap (λ (b : Bool). option_map (λ q. record { place = q.place; bytes = q.value }) (cond b (Some p) (property_named own name))) is))

-- the last row has no child
pub last_child : (blob : Blob) (es : List (List ℕ)) (n : ℕ) (row : Row) → IsRow blob es n row → length es ≤ n + 1 → None ≡ row.first_child
last_child blob es n row h le = sym (row_child blob es n row h ∙ ap (entry_under (n + 1) (n + 1)) (slice_get_past es (n + 1) le))

pub later_by : (o : Option ℕ) (n m size : ℕ) → IfSome o (λ i. (i ≡ m) × (i < size)) → n < m → IfSome o (λ i. (n < i) × (i < size))
later_by o n m size h lt = grind arith

-- the span of a value that is there
pub value_some : (found : Option Property) (word : ℕ) (s : Span) → (word ≡ 0 → ⊥) → IfSome found (λ p. (0 < p.place) × (length p.value < 2 ^ 32)) → word ≡ value_word found
    → ((place size : ℕ) → size < 2 ^ 32 → word ≡ span_word place size → s ≡ record { place = place; length = size }) → Some s ≡ option_map property_span found
value_some None word s some placed is known = absurd (some is)
value_some (Some p) word s some placed is known = ap (λ (x : Span). Some x) (known p.place (length p.value) placed.1 is)

pub few_bytes : (found : Option Property) (limit : ℕ) → limit < 2 ^ 32 → IfSome found (λ p. (0 < p.place) × (p.place + length p.value ≤ limit))
    → IfSome found (λ p. (0 < p.place) × (length p.value < 2 ^ 32))
few_bytes found limit small h = grind arith

pub span_lies : (found : Option Property) (o : Option Span) (limit : ℕ) → o ≡ option_map property_span found → IfSome found (λ p. (0 < p.place) × (p.place + length p.value ≤ limit))
    → IfSome o (λ s. s.place + s.length ≤ limit)
span_lies found o limit is h = grind arith

-- no value of the key is kept
pub unkept : (row : Row) (key : Key) (role : Role) → role ≡ row.role → None ≡ slot (name_of key) (keys_of role) → None ≡ option_map value_span (value_of row key)
unkept row key role same place = grind arith

to_spot : (found : Option Property) → option_map property_span found ≡ option_map value_span (option_map (λ p. record { place = p.place; bytes = p.value }) found)
to_spot found = grind arith

-- the value of a key that is kept
pub is_kept : (row : Row) (key : Key) (role : Role) (i : ℕ) → role ≡ row.role → Some i ≡ slot (name_of key) (keys_of role)
    → option_map property_span (property_named row.own (name_of key)) ≡ option_map value_span (value_of row key)
is_kept row key role i same place = grind (arith, first_spots, to_spot)

pub not_hash : (role : Role) → (role ≡ Hash → ⊥) → false ≡ is_hash_role role
not_hash role h = grind arith

pub not_signature : (role : Role) → (role ≡ Signature → ⊥) → false ≡ is_signature_role role
not_signature role h = grind arith

-- a number by its word
pub same_number : (a b : Option ℕ) → number_word a ≡ number_word b → a ≡ b
same_number (Some x) (Some y) h = ap (λ (n : ℕ). (let o : Option ℕ = Some n in o)) (omega (arith, h))
same_number (Some x) None h = absurd (omega (arith, h))
same_number None (Some y) h = absurd (omega (arith, h))
same_number None None h = refl
