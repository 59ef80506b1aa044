-- The tokens behind a node's name are its properties.
use Rattle.std.proofs.Common.{◌≡◌, ◌+◌, ℕ, zero, suc, List, [], ◌∷◌, ◌++◌, length, drop, Option, Some, None, Result, Ok, Err, refl, ap, sym, ◌∙◌, subst, cond, append_assoc, arith}
use Rattle.std.specs.{Bool.⊤, List.{AllByRecursion, slice_get, count_by}, Option.option_map}
use Rattle.std.proofs.lemmas.List.Sums.{sum_by-append}
use Rattle.uimg_texts.specs.Numbers.{up4}
use Rattle.uimg_base.specs.Results.{◌>>=◌}
use Rattle.uimg_blob_reading.specs.{Reading.Fault, Blob.{tree, blocks, met_in, met_from, met}}
use Rattle.uimg_blob_reading.specs.{Counts.{is_nop, nops_met}, Rows.{Row, size, rows, table}}
use Rattle.uimg_blob_reading.specs.Roles.{Level, top, role_at, level_in, level_after}
use Rattle.uimg_blob_reading.specs.Owns.{own_of, LeftFrom}
use Rattle.uimg_blob_reading.specs.Tokens.{Property, Token, Blocks, begin_node, end_node, prop, nop, last, stray, token_at, next, tokens_from, tokens}
use Rattle.uimg_blob_reading.specs.Grammar.{Siblings, none, node, properties, end, inside, children, ended, root, without_nops}
use Rattle.uimg_blob_reading.proofs.PhaseLaws.{some_none, some_some}

err_ok : {A F : Type 0} {e : F} {x : A} → (let r : Result A F = Err e in r) ≡ Ok x → ⊥
err_ok h = grind (arith, h)

ok_ok : {A F : Type 0} (x y : A) → (let r : Result A F = Ok x in r) ≡ Ok y → x ≡ y
ok_ok x y h = cc

-- what was found first, where all was found
found_first : {A B F : Type 0} (r : Result A F) (f : A → Result B F) (y : B) → (r >>= f) ≡ Ok y → (x : A) × (r ≡ Ok x) × (f x ≡ Ok y)
found_first r f y h = grind (arith, err_ok)

-- tokens end with others
abbrev pub Behind : List Token → List Token → Type 0
Behind all rest = (before : List Token) × (all ≡ before ++ rest)

behind_one : (all : List Token) (t : Token) (ts : List Token) → Behind all (t ∷ ts) → Behind all ts
behind_one all t ts b = (b.0 ++ t ∷ [], b.1 ∙ sym (append_assoc b.0 (t ∷ []) ts))

behind_more : (all ts rest : List Token) → Behind all ts → Behind ts rest → Behind all rest
behind_more all ts rest a b = (a.0 ++ b.0, a.1 ∙ ap (λ (l : List Token). a.0 ++ l) b.1 ∙ sym (append_assoc a.0 b.0 rest))

-- what properties are read of is read of again
abbrev OwnIs : List Token → List Property × List Token → Type 0
OwnIs ts x = Behind ts x.1 × (own_of x.1 ≡ Some [] → own_of ts ≡ Some x.0)

no_more : (ts : List Token) (x : List Property × List Token) → (let r : Result (List Property × List Token) Fault = Ok ([], ts) in r) ≡ Ok x → OwnIs ts x
no_more ts x h = subst (OwnIs ts) (ok_ok ([], ts) x h) (([], refl), λ own. own)

one_own : (at : ℕ) (p : Property) (ts : List Token) (own : List Property) (rest : List Token) (x : List Property × List Token)
    → (let r : Result (List Property × List Token) Fault = Ok (p ∷ own, rest) in r) ≡ Ok x → OwnIs ts (own, rest) → OwnIs (prop at (Ok p) ∷ ts) x
unfolding own_of
one_own at p ts own rest x h more =
    subst (OwnIs (prop at (Ok p) ∷ ts)) (ok_ok (p ∷ own, rest) x h) (
      (prop at (Ok p) ∷ more.0.0, ap (λ (l : List Token). prop at (Ok p) ∷ l) more.0.1),
      λ owns. ap (λ (o : Option (List Property)). option_map (λ l. p ∷ l) o) (more.1 owns),
    )

properties_own : (ts : List Token) (x : List Property × List Token) → properties ts ≡ Ok x → OwnIs ts x
unfolding properties own_of
properties_own (prop at (Ok p) ∷ ts) x h =
    let f : List Property × List Token → Result (List Property × List Token) Fault = λ more. Ok (p ∷ more.0, more.1) in
    let first = found_first (properties ts) f x h in
    let more = properties_own ts first.0 first.1 in
    one_own at p ts first.0.0 first.0.1 x first.2 more
properties_own (prop at (Err fault) ∷ ts) x h = absurd (err_ok h)
properties_own [] x h = no_more [] x h
properties_own (begin_node at name ∷ ts) x h = no_more (begin_node at name ∷ ts) x h
properties_own (end_node at ∷ ts) x h = no_more (end_node at ∷ ts) x h
properties_own (nop at ∷ ts) x h = no_more (nop at ∷ ts) x h
properties_own (last at ∷ ts) x h = no_more (last at ∷ ts) x h
properties_own (stray at fault ∷ ts) x h = no_more (stray at fault ∷ ts) x h

end_behind : (ts rest : List Token) → end ts ≡ Ok rest → Behind ts rest
end_behind (end_node at ∷ ts) rest h = (end_node at ∷ [], ap (λ (l : List Token). end_node at ∷ l) (ok_ok ts rest h))
end_behind [] rest h = absurd (err_ok h)
end_behind (begin_node at name ∷ ts) rest h = absurd (err_ok h)
end_behind (prop at p ∷ ts) rest h = absurd (err_ok h)
end_behind (nop at ∷ ts) rest h = absurd (err_ok h)
end_behind (last at ∷ ts) rest h = absurd (err_ok h)
end_behind (stray at fault ∷ ts) rest h = absurd (err_ok h)

no_child : (ts : List Token) (below : Siblings × List Token) (rest : List Token) → (let r : Result (Siblings × List Token) Fault = Ok (none, ts) in r) ≡ Ok below → end below.1 ≡ Ok rest → end ts ≡ Ok rest
no_child ts below rest h ends = subst (λ (x : Siblings × List Token). end x.1 ≡ Ok rest) (sym (ok_ok (none, ts) below h)) ends

-- no property stands where children and the end of their parent do
children_edge : (n : ℕ) (ts : List Token) (below : Siblings × List Token) (rest : List Token) → children n ts ≡ Ok below → end below.1 ≡ Ok rest → own_of ts ≡ Some []
unfolding children own_of
children_edge n ts below rest h ends = grind (arith, err_ok, no_child)

-- A node begins among some tokens, and these properties stand behind its name.
pub record Begins (all : List Token) (at : ℕ) (name : List ℕ) (own : List Property) : Type 0 where
  pub before : List Token
  pub past : List Token
  pub is : all ≡ before ++ begin_node at (Ok name) ∷ past
  pub owns : own_of past ≡ Some own

-- all nodes begin so
abbrev AllBegin : List Token → Siblings → Type 0
AllBegin all none = ⊤
AllBegin all (node at name own below after) = Begins all at name own × AllBegin all below × AllBegin all after

-- siblings that were read of tokens, and what is left
abbrev AreRead : List Token → Siblings × List Token → Type 0
AreRead all x = AllBegin all x.0 × Behind all x.1

-- a node's properties and children
abbrev IsRead : List Token → List Token → (List Property × Siblings) × List Token → Type 0
IsRead all ts x = (own_of ts ≡ Some x.0.0) × AllBegin all x.0.1 × Behind all x.1

is_read : (all ts : List Token) (own : List Property) (below : Siblings) (rest : List Token) (x : (List Property × Siblings) × List Token)
    → (let r : Result ((List Property × Siblings) × List Token) Fault = Ok ((own, below), rest) in r) ≡ Ok x → own_of ts ≡ Some own → AllBegin all below → Behind all rest → IsRead all ts x
is_read all ts own below rest x h owns begin behind = subst (IsRead all ts) (ok_ok ((own, below), rest) x h) (owns, begin, behind)

inside_read : (n : ℕ) (all ts : List Token) → ((us : List Token) (x : Siblings × List Token) → Behind all us → children n us ≡ Ok x → AreRead all x)
    → (x : (List Property × Siblings) × List Token) → Behind all ts → inside (children n) ts ≡ Ok x → IsRead all ts x
inside_read n all ts those x behind h =
    let f : List Property × List Token → Result ((List Property × Siblings) × List Token) Fault =
    λ own. children n own.1 >>= λ below. end below.1 >>= λ rest. (let y : Result ((List Property × Siblings) × List Token) Fault = Ok ((own.0, below.0), rest) in y) in
    let own = found_first (properties ts) f x h in
    let g : Siblings × List Token → Result ((List Property × Siblings) × List Token) Fault =
    λ below. end below.1 >>= λ rest. (let y : Result ((List Property × Siblings) × List Token) Fault = Ok ((own.0.0, below.0), rest) in y) in
    let below = found_first (children n own.0.1) g x own.2 in
    let k : List Token → Result ((List Property × Siblings) × List Token) Fault = λ rest. Ok ((own.0.0, below.0.0), rest) in
    let rest = found_first (end below.0.1) k x below.2 in
    let is = properties_own ts own.0 own.1 in
    let under = those own.0.1 below.0 (behind_more all ts own.0.1 behind is.0) below.1 in
    is_read all ts own.0.0 below.0.0 rest.0 x rest.2
    (is.1 (children_edge n own.0.1 below.0 rest.0 below.1 rest.1)) under.0 (behind_more all below.0.1 rest.0 under.1 (end_behind below.0.1 rest.0 rest.1))

none_read : (all ts : List Token) (x : Siblings × List Token) → Behind all ts → (let r : Result (Siblings × List Token) Fault = Ok (none, ts) in r) ≡ Ok x → AreRead all x
none_read all ts x behind h = subst (AreRead all) (ok_ok (none, ts) x h) (tt, behind)

are_read : (all : List Token) (at : ℕ) (name : List ℕ) (own : List Property) (below after : Siblings) (rest : List Token) (x : Siblings × List Token)
    → (let r : Result (Siblings × List Token) Fault = Ok (node at name own below after, rest) in r) ≡ Ok x → Begins all at name own → AllBegin all below → AllBegin all after → Behind all rest → AreRead all x
are_read all at name own below after rest x h begins under others behind = subst (AreRead all) (ok_ok (node at name own below after, rest) x h) ((begins, under, others), behind)

children_read : (n : ℕ) (all ts : List Token) (x : Siblings × List Token) → Behind all ts → children n ts ≡ Ok x → AreRead all x
unfolding children
children_read zero all [] x behind h = none_read all [] x behind h
children_read zero all (t ∷ ts) x behind h = none_read all (t ∷ ts) x behind h
children_read (suc n) all (begin_node at (Ok name) ∷ ts) x behind h =
    let f : (List Property × Siblings) × List Token → Result (Siblings × List Token) Fault =
    λ first. children n first.1 >>= λ more. (let y : Result (Siblings × List Token) Fault = Ok (node at name first.0.0 first.0.1 more.0, more.1) in y) in
    let first = found_first (inside (children n) ts) f x h in
    let g : Siblings × List Token → Result (Siblings × List Token) Fault = λ more. Ok (node at name first.0.0.0 first.0.0.1 more.0, more.1) in
    let more = found_first (children n first.0.1) g x first.2 in
    let those : (us : List Token) (y : Siblings × List Token) → Behind all us → children n us ≡ Ok y → AreRead all y = λ us y b is. children_read n all us y b is in
    let one = inside_read n all ts those first.0 (behind_one all (begin_node at (Ok name)) ts behind) first.1 in
    let others = children_read n all first.0.1 more.0 one.2 more.1 in
    are_read all at name first.0.0.0 first.0.0.1 more.0.0 more.0.1 x more.2 (record { before = behind.0; past = ts; is = behind.1; owns = one.0 }) one.1 others.0 others.1
children_read (suc n) all (begin_node at (Err fault) ∷ ts) x behind h = absurd (err_ok h)
children_read (suc n) all [] x behind h = none_read all [] x behind h
children_read (suc n) all (end_node at ∷ ts) x behind h = none_read all (end_node at ∷ ts) x behind h
children_read (suc n) all (prop at p ∷ ts) x behind h = none_read all (prop at p ∷ ts) x behind h
children_read (suc n) all (nop at ∷ ts) x behind h = none_read all (nop at ∷ ts) x behind h
children_read (suc n) all (last at ∷ ts) x behind h = none_read all (last at ∷ ts) x behind h
children_read (suc n) all (stray at fault ∷ ts) x behind h = none_read all (stray at fault ∷ ts) x behind h

ended_is : (r t : Siblings) (ts : List Token) → ended r ts ≡ Ok t → r ≡ t
ended_is r t ts h = grind (arith, err_ok, ok_ok)

is_root : (all : List Token) (at : ℕ) (name : List ℕ) (own : List Property) (below t : Siblings) (rest : List Token) → ended (node at name own below none) rest ≡ Ok t
    → Begins all at name own → AllBegin all below → AllBegin all t
is_root all at name own below t rest h begins under = subst (AllBegin all) (ended_is (node at name own below none) t rest h) (begins, under, tt)

-- all nodes of a tree begin among its tokens, and their properties stand behind their names
root_read : (ts : List Token) (t : Siblings) → root ts ≡ Ok t → AllBegin ts t
unfolding root
root_read (begin_node at (Ok name) ∷ ts) t h =
    let all : List Token = begin_node at (Ok name) ∷ ts in
    let f : (List Property × Siblings) × List Token → Result Siblings Fault = λ it. ended (node at name it.0.0 it.0.1 none) it.1 in
    let it = found_first (inside (children (length ts)) ts) f t h in
    let one = inside_read (length ts) all ts (λ us x b is. children_read (length ts) all us x b is) it.0 (begin_node at (Ok name) ∷ [], refl) it.1 in
    is_root all at name it.0.0.0 it.0.0.1 t it.0.1 it.2 (record { before = []; past = ts; is = refl; owns = one.0 }) one.1
root_read [] t h = absurd (err_ok h)
root_read (begin_node at (Err fault) ∷ ts) t h = absurd (err_ok h)
root_read (end_node at ∷ ts) t h = absurd (err_ok h)
root_read (prop at p ∷ ts) t h = absurd (err_ok h)
root_read (nop at ∷ ts) t h = absurd (err_ok h)
root_read (last at ∷ ts) t h = absurd (err_ok h)
root_read (stray at fault ∷ ts) t h = absurd (err_ok h)

-- the same of the rows of a table
abbrev RowBegins : List Token → Row → Type 0
RowBegins all r = Begins all r.at r.name r.own

all_joined : (P : Row → Type 0) (a b : List Row) → AllByRecursion P a → AllByRecursion P b → AllByRecursion P (a ++ b)
all_joined P [] b h k = k
all_joined P (r ∷ a) b h k = (h.0, all_joined P a b h.1 k)

rows_begin : (all : List Token) (level : Level) (parent : Option ℕ) (i : ℕ) (t : Siblings) → AllBegin all t → AllByRecursion (RowBegins all) (rows level parent i t)
unfolding rows
rows_begin all level parent i none h = tt
rows_begin all level parent i (node at name own below after) h = (
  h.0,
  all_joined (RowBegins all) (rows (level_in (role_at level name)) (Some i) (i + 1) below) (rows (level_after level name) parent (i + (1 + size below)) after)
      (rows_begin all (level_in (role_at level name)) (Some i) (i + 1) below h.1)
      (rows_begin all (level_after level name) parent (i + (1 + size below)) after h.2),
)

all_at : (P : Row → Type 0) (rs : List Row) (i : ℕ) (r : Row) → AllByRecursion P rs → slice_get rs i ≡ Some r → P r
all_at P [] i r h is = absurd (some_none (sym is))
all_at P (x ∷ rs) zero r h is = subst P (some_some x r is) h.0
all_at P (x ∷ rs) (suc i) r h is = all_at P rs i r h.1 is

-- FDT_NOP let be
nops_own : (ts : List Token) → own_of (without_nops ts) ≡ own_of ts
unfolding own_of without_nops
nops_own [] = refl
nops_own (nop at ∷ ts) = nops_own ts
nops_own (prop at (Ok p) ∷ ts) = ap (λ (o : Option (List Property)). option_map (λ l. p ∷ l) o) (nops_own ts)
nops_own (prop at (Err fault) ∷ ts) = refl
nops_own (begin_node at name ∷ ts) = refl
nops_own (end_node at ∷ ts) = refl
nops_own (last at ∷ ts) = refl
nops_own (stray at fault ∷ ts) = refl

-- a token stands among others, and before some that are these but for FDT_NOP
pub record StandsAmong (ts : List Token) (t : Token) (past : List Token) : Type 0 where
  pub before : List Token
  pub more : List Token
  pub is : ts ≡ before ++ t ∷ more
  pub same : without_nops more ≡ past

among_more : (k t : Token) (ts past : List Token) → StandsAmong ts t past → StandsAmong (k ∷ ts) t past
among_more k t ts past s = record { before = k ∷ s.before; more = s.more; is = ap (λ (l : List Token). k ∷ l) s.is; same = s.same }

nil_joined : (before : List Token) (t : Token) (past : List Token) → [] ≡ before ++ t ∷ past → ⊥
nil_joined [] t past h = grind (arith, h)
nil_joined (k ∷ before) t past h = grind (arith, h)

first_same : (x y : Token) (xs ys : List Token) → x ∷ xs ≡ y ∷ ys → x ≡ y
first_same x y xs ys h = cc

-- among the tokens but for FDT_NOP
among_one : (k t : Token) (ts before past : List Token) → k ∷ without_nops ts ≡ before ++ t ∷ past → ((b : List Token) → without_nops ts ≡ b ++ t ∷ past → StandsAmong ts t past)
    → StandsAmong (k ∷ ts) t past
among_one k t ts [] past h those = record { before = []; more = ts; is = ap (λ (x : Token). x ∷ ts) (first_same k t _ _ h); same = ap (drop 1) h }
among_one k t ts (x ∷ before) past h those = among_more k t ts past (those before (ap (drop 1) h))

among : (ts before past : List Token) (t : Token) → without_nops ts ≡ before ++ t ∷ past → StandsAmong ts t past
unfolding without_nops
among [] before past t h = absurd (nil_joined before t past h)
among (nop at ∷ ts) before past t h = among_more (nop at) t ts past (among ts before past t h)
among (begin_node at name ∷ ts) before past t h = among_one (begin_node at name) t ts before past h (λ b is. among ts b past t is)
among (end_node at ∷ ts) before past t h = among_one (end_node at) t ts before past h (λ b is. among ts b past t is)
among (prop at p ∷ ts) before past t h = among_one (prop at p) t ts before past h (λ b is. among ts b past t is)
among (last at ∷ ts) before past t h = among_one (last at) t ts before past h (λ b is. among ts b past t is)
among (stray at fault ∷ ts) before past t h = among_one (stray at fault) t ts before past h (λ b is. among ts b past t is)

-- what stands behind a token of the blocks, stands from the next place on
from_next : (n : ℕ) (b : Blocks) (o : Option ℕ) (before past : List Token) (t : Token) → tokens_from n b o ≡ before ++ t ∷ past → (m : ℕ) × (past ≡ tokens_from m b (next t))
unfolding tokens_from
from_next n b None before past t h = absurd (nil_joined before t past h)
from_next zero b (Some at) before past t h = absurd (nil_joined before t past h)
from_next (suc n) b (Some at) [] past t h =
    (n, sym (ap (drop 1) h) ∙ ap (λ (k : Token). tokens_from n b (next k)) (first_same (token_at b at) t (tokens_from n b (next (token_at b at))) past h))
from_next (suc n) b (Some at) (k ∷ before) past t h = from_next n b (next (token_at b at)) before past t (ap (drop 1) h)

-- the root of the blocks of a file
tree_root : (file : List ℕ) (b : Blocks) (t : Siblings) → tree file ≡ Ok t → blocks file ≡ Ok b → root (without_nops (tokens b)) ≡ Ok t
unfolding tree
tree_root file b t is header = sym (ap (λ (r : Result Blocks Fault). r >>= (λ found. root (without_nops (tokens found)))) header) ∙ is

all_met : (file : List ℕ) (b : Blocks) (t : Siblings) → root (without_nops (tokens b)) ≡ Ok t → blocks file ≡ Ok b → met file ≡ tokens b
all_met file b t is header = ap met_from header ∙ ap (λ (r : Result Siblings Fault). met_in r (tokens b)) is

-- From behind a node's name on stand the node's properties.
pub own_stands : (file : List ℕ) (b : Blocks) (t : Siblings) (i : ℕ) (row : Row) → tree file ≡ Ok t → blocks file ≡ Ok b → slice_get (table t) i ≡ Some row
    → LeftFrom b (row.at + 4 + up4 (length row.name + 1)) row.own (nops_met file)
own_stands file b t i row is header at =
    let whole = tree_root file b t is header in
    let begins = all_at (RowBegins (without_nops (tokens b))) (table t) i row (rows_begin (without_nops (tokens b)) top None 0 t (root_read (without_nops (tokens b)) t whole)) at in
    let s = among (tokens b) begins.before begins.past (begin_node row.at (Ok row.name)) begins.is in
    let there = from_next _ b (Some b.structure) s.before s.more (begin_node row.at (Ok row.name)) s.is in
    let split = ap (λ (ts : List Token). count_by is_nop ts) (all_met file b t whole header ∙ s.is) ∙ sum_by-append (λ k. cond (is_nop k) 1 0) s.before (begin_node row.at (Ok row.name) ∷ s.more) in
    record {
      fuel = there.0;
      is = ap own_of (sym there.1) ∙ sym (nops_own s.more) ∙ ap own_of s.same ∙ begins.owns;
      few = omega (arith, split, ap (λ (ts : List Token). count_by is_nop ts) there.1);
    }
