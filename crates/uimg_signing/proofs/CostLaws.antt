-- Why nodes are not listed, and what listing them costs.
use Rattle.std.proofs.Common.{◌≡◌, ℕ, zero, suc, ◌+◌, ◌*◌, ◌<◌, ◌≤◌, List, [], ◌∷◌, ◌++◌, length, map, Option, Some, None, Result, Err, Bool, true, false, if◌then◌else◌, ◌||◌, refl, ap, sym, ◌∙◌, suc-mul, zero-mul, length-append, arith}
use Rattle.std.specs.Prelude.{nat_lt}
use Rattle.std.proofs.lemmas.List.{length-map}
use Rattle.uimg_base.specs.declared.spans.Span.{Span}
use Rattle.uimg_blob_reading.specs.declared.places.PropertyPlace.{PropertyPlace}
use Rattle.uimg_blob_reading.specs.{Rows.Row, Plain.NamedOf, Places.{read_place}, Properties.places_of}
use Rattle.uimg_signing.proofs.TurnLaws.{less_false}
use Rattle.uimg_signing.specs.declared.faults.SigningFault.{SigningFault}
use Rattle.uimg_signing.specs.declared.faults.SigningFault.TheVariants.{TooLong}
use Rattle.uimg_signing.specs.{Faults.Refuses, Naming.{any_long, any_long_at}}
use Rattle.uimg_signing.specs.Listing.{is_over, mark_if, many_refusal, nodes_refusal, listing_refusal}

next_cost : (n k : ℕ) → (n + 1) * k ≡ n * k + k
next_cost n k = let e : n + 1 ≡ suc n = omega arith in ap (λ (m : ℕ). m * k) e ∙ suc-mul n k

times : (a b k : ℕ) → a ≤ b → a * k ≤ b * k
times zero b k h = omega (arith, zero-mul k)
times (suc a) zero k h = absurd (omega (arith, h))
times (suc a) (suc b) k h = omega (arith, suc-mul a k, suc-mul b k, times a b k (omega (arith, h)))

-- one node more was paid for
pub more_asked : (a b c n k : ℕ) → b ≤ a + n * k → c ≤ b + k → c ≤ a + (n + 1) * k
more_asked a b c n k h more = omega (arith, h, more, next_cost n k)

pub within_asked : (a b n m k : ℕ) → b ≤ a + n * k → n ≤ m → b ≤ a + m * k
within_asked a b n m k h le = omega (arith, h, times n m k le)

pub all_paid : (a b c s x y : ℕ) → b ≤ a + s → c ≤ b + (x + x) → x ≡ y → c ≤ a + (s + y + y)
all_paid a b c s x y first more same = omega (arith, first, more, same)

none_some : {X A : Type 0} (x : X) → (let o : Option X = Some x in o) ≡ None → A
none_some x h = absurd (grind (arith, h))

-- where nothing is refused, a fault is a failed read or refused memory
pub no_refusal : (fault : SigningFault) (o : Option SigningFault) → Refuses None (let r : Result Unit SigningFault = Err fault in r) → Refuses o (let r : Result Unit SigningFault = Err fault in r)
no_refusal fault o h = λ read memory. none_some fault (h read memory)

more_true : (k a b : ℕ) → a ≤ b → nat_lt k a ≡ true → nat_lt k b ≡ true
more_true k a b le h = grind (arith, le, h)

or_more : (x : Bool) (d : ℕ) → nat_lt 4096 d ≡ true → (if x then true else nat_lt 4096 d) ≡ true
or_more true d h = refl
or_more false d h = h

by_nodes : (x : Bool) (a b c d : ℕ) → nat_lt 100 a ≡ x → a ≤ c → b ≤ d → (if x then true else nat_lt 4096 b) ≡ true → is_over c d ≡ true
by_nodes true a b c d is nodes bytes over = ap (λ (x : Bool). if x then true else nat_lt 4096 d) (more_true 100 a c nodes is)
by_nodes false a b c d is nodes bytes over = or_more (nat_lt 100 c) d (more_true 4096 b d bytes over)

-- more nodes, or more bytes of paths, are too many as well
pub over_more : (a b c d : ℕ) → a ≤ c → b ≤ d → is_over a b ≡ true → is_over c d ≡ true
over_more a b c d nodes bytes over = by_nodes (nat_lt 100 a) a b c d refl nodes bytes over

-- nothing is refused
pub none_over : (over : Bool) → over ≡ false → None ≡ many_refusal over
none_over over is = sym (ap many_refusal is)

pub fits : (nodes bytes : ℕ) → nodes ≤ 100 → bytes ≤ 4096 → is_over nodes bytes ≡ false
fits nodes bytes few short = ap (λ (x : Bool). if x then true else nat_lt 4096 bytes) (less_false 100 nodes few) ∙ less_false 4096 bytes short

positive : (n : ℕ) → nat_lt 0 n ≡ true → 0 < n
positive n h = grind (arith, h)

by_mark : (b : Bool) (old new : List ℕ) (times at total sum : ℕ) → nat_lt 0 times ≡ b → new ≡ old ++ mark_if b at → sum ≡ total + times → length old ≤ total → length new ≤ sum
by_mark true old new times at total sum so is added few = omega (arith, ap length is, length-append old (at ∷ []), added, few, positive times so)
by_mark false old new times at total sum so is added few = omega (arith, ap length is, length-append old [], added, few)

-- a node that is marked was counted
pub few_more : (old new : List ℕ) (times at total sum : ℕ) → new ≡ old ++ mark_if (nat_lt 0 times) at → sum ≡ total + times → length old ≤ total → length new ≤ sum
few_more old new times at total sum is added few = by_mark (nat_lt 0 times) old new times at total sum refl is added few

-- spans and what is read of them have the same lengths
long_is : (file : List ℕ) (xs : List PropertyPlace) → any_long_at xs ≡ any_long (map (read_place file) xs)
long_is file [] = refl
long_is file (x ∷ xs) = ap (λ (b : Bool). nat_lt 8192 x.value.length || b) (long_is file xs)

pub long_of : (file : List ℕ) (xs : List PropertyPlace) (own : List (NamedOf Span)) → map (read_place file) xs ≡ own → any_long_at xs ≡ any_long own
long_of file xs own are = long_is file xs ∙ ap (λ (l : List (NamedOf Span)). any_long l) are

pub long_refusal : (own : List (NamedOf Span)) (many hashed b : Bool) → b ≡ any_long own → listing_refusal own many hashed ≡ (if b then Some TooLong else nodes_refusal many hashed)
long_refusal own many hashed b is = ap (λ (x : Bool). (let o : Option SigningFault = if x then Some TooLong else nodes_refusal many hashed in o)) (sym is)

pub count_of : (file : List ℕ) (xs : List PropertyPlace) (row : Row) → map (read_place file) xs ≡ places_of row → length xs ≡ length row.own
count_of file xs row are = sym (length-map xs (read_place file)) ∙ ap length are ∙ grind (arith, length-map)
