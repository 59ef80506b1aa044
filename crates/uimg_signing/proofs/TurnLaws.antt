-- The bits of the open nodes.
use Rattle.std.proofs.Common.{◌≡◌, ℕ, zero, suc, ◌+◌, ◌*◌, ◌/◌, ◌%◌, ◌<◌, ◌≤◌, List, [], ◌∷◌, length, Bool, true, false, ◌==◌, ◌||◌, if◌then◌else◌, refl, ap, sym, ◌∙◌, arith}
use Rattle.std.specs.Prelude.{nat_lt, nat_le}
use Rattle.uimg_blob_reading.specs.{declared.labels.Label.Label, Tokens.Token, ReadTokens.ReadsBeginNode}
use Rattle.uimg_signing.specs.{Covering.{innermost, outside, placed_in, begins_deep}, Turning.coded}

two : (c : ℕ) (x y : Bool) → (((c * 2 + (if x then 1 else 0)) * 2 + (if y then 1 else 0)) / 2 % 2 == 1) ≡ x
two c true true = grind arith
two c true false = grind arith
two c false true = grind arith
two c false false = grind arith

one : (y : Bool) → ((4 * 2 + (if y then 1 else 0)) / 2 % 2 == 1) ≡ false
one true = refl
one false = refl

-- the second lowest bit tells whether the node around the innermost is listed
pub second : (listed : ℕ → Bool) (nodes : List ℕ) (bits : ℕ) → bits ≡ coded listed nodes → (bits / 2 % 2 == 1) ≡ innermost listed (outside nodes)
second listed [] bits is = ap (λ (n : ℕ). n / 2 % 2 == 1) is
second listed (a ∷ []) bits is = ap (λ (n : ℕ). n / 2 % 2 == 1) is ∙ one (listed a)
second listed (a ∷ b ∷ nodes) bits is = ap (λ (n : ℕ). n / 2 % 2 == 1) is ∙ two (coded listed nodes) (listed b) (listed a)

pub less_true : (a b : ℕ) → a < b → nat_lt a b ≡ true
less_true a b h = grind (arith, h)

pub le_true : (a b : ℕ) → nat_le a b ≡ true → a ≤ b
le_true a b h = grind (arith, h)

pub less_false : (a b : ℕ) → b ≤ a → nat_lt a b ≡ false
less_false a b h = grind (arith, h)

by_order : (a b : ℕ) → (a < b → ⊥) → b ≤ a
by_order a b h = grind (arith, h)

by_order_lt : (a b : ℕ) → (b ≤ a → ⊥) → a < b
by_order_lt a b h = grind (arith, h)

bit_below : (c n : ℕ) (b : Bool) → c < n → c * 2 + (if b then 1 else 0) < n * 2
bit_below c n true h = omega (arith, h)
bit_below c n false h = omega (arith, h)

-- the most and the least that so many nodes give
abbrev most : ℕ → ℕ
most zero = 8
most (suc k) = most k * 2

abbrev least : ℕ → ℕ
least zero = 4
least (suc k) = least k * 2

four_most : (k : ℕ) → 4 < most k
four_most zero = omega arith
four_most (suc k) = omega (arith, four_most k)

below_most : (listed : ℕ → Bool) (k : ℕ) (nodes : List ℕ) → length nodes ≤ k → coded listed nodes < most k
below_most listed k [] few = four_most k
below_most listed zero (a ∷ nodes) few = absurd (omega (arith, few))
below_most listed (suc k) (a ∷ nodes) few = bit_below (coded listed nodes) (most k) (listed a) (below_most listed k nodes (omega (arith, few)))

from_least : (listed : ℕ → Bool) (k : ℕ) (nodes : List ℕ) → k ≤ length nodes → least k ≤ coded listed nodes
from_least listed zero [] many = omega arith
from_least listed zero (a ∷ nodes) many = omega (arith, from_least listed zero nodes (omega arith))
from_least listed (suc k) [] many = absurd (omega (arith, many))
from_least listed (suc k) (a ∷ nodes) many = omega (arith, from_least listed k nodes (omega (arith, many)))

most_31 : most 31 ≡ 17179869184
most_31 = refl

least_32 : least 32 ≡ 17179869184
least_32 = refl

many_open : (listed : ℕ → Bool) (nodes : List ℕ) (bits : ℕ) → bits ≡ coded listed nodes → 17179869184 ≤ bits → 32 ≤ length nodes
many_open listed nodes bits is deep = by_order (length nodes) 32 (λ few. absurd (omega (arith, is, deep, below_most listed 31 nodes (omega (arith, few)), most_31)))

few_open : (listed : ℕ → Bool) (nodes : List ℕ) (bits : ℕ) → bits ≡ coded listed nodes → bits < 17179869184 → length nodes < 32
few_open listed nodes bits is small = by_order_lt (length nodes) 32 (λ many. absurd (omega (arith, is, small, from_least listed 32 nodes many, least_32)))

-- a node begins in 32 others
pub deep_there : (listed : ℕ → Bool) (nodes : List ℕ) (bits at size : ℕ) (label : Label) (t : Token) → bits ≡ coded listed nodes → 17179869184 ≤ bits → ReadsBeginNode at t size label → begins_deep (placed_in nodes t) ≡ true
deep_there listed nodes bits at size label t is deep read =
    ap (λ (k : Token). begins_deep (placed_in nodes k)) read.is ∙ less_true 32 (suc (length nodes)) (omega (arith, many_open listed nodes bits is deep))

-- it begins in fewer
pub shallow_there : (listed : ℕ → Bool) (nodes : List ℕ) (bits at size : ℕ) (label : Label) (t : Token) → bits ≡ coded listed nodes → bits < 17179869184 → ReadsBeginNode at t size label → begins_deep (placed_in nodes t) ≡ false
shallow_there listed nodes bits at size label t is small read =
    ap (λ (k : Token). begins_deep (placed_in nodes k)) read.is ∙ less_false 32 (suc (length nodes)) (omega (arith, few_open listed nodes bits is small))

pub either : (x y r : Bool) → x ≡ false → r ≡ y → r ≡ (x || y)
either x y r off is = is ∙ ap (λ (b : Bool). b || y) (sym off)
