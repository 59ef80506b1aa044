-- The offsets of a tree's nodes rise in reading order.
use Rattle.std.proofs.Common.{◌≡◌, ℕ, zero, suc, ◌+◌, ◌-◌, ◌≤◌, List, [], ◌∷◌, ◌++◌, map, Option, Some, None, Ok, Err, slice_get, refl, ap, sym, subst, ◌∙◌, append_assoc, append-nil, arith}
use Rattle.std.specs.Prelude.{nat_lt, ⊤}
use Rattle.std.proofs.lemmas.List.{map-append}
use Rattle.uimg_texts.specs.Numbers.{be32}
use Rattle.uimg_blob_reading.proofs.{PhaseLaws.some_some, WalkLaws.begun_is}
use Rattle.uimg_blob_reading.specs.Tokens.{Token, begin_node, end_node, prop, nop, last, stray, Blocks, token_at, next, offset, tokens, tokens_from}
use Rattle.uimg_blob_reading.specs.{Grammar.{Siblings, none, node, root, without_nops}, Rows.{Row, size, rows, table}, Roles.{Level, top, role_at, level_in, level_after}}
use Rattle.uimg_blob_reading.specs.Walk.{Open, opened, walk, begun, finished, as_node, close, join}
use Rattle.uimg_signing.proofs.{GoingLaws.err_ok, MessageLaws.ok_ok, ListedLaws.empty, TokenLaws.{either, each_word}}

-- the offsets of siblings and the nodes below them
abbrev ats : Siblings → List ℕ
ats none = []
ats (node at name own below after) = at ∷ (ats below ++ ats after)

-- Numbers rise, from `low` on, and are below `high`.
abbrev Rises : ℕ → List ℕ → ℕ → Type 0
Rises low [] high = low ≤ high
Rises low (x ∷ xs) high = (low ≤ x) × Rises (suc x) xs high

wider : (low high more : ℕ) (xs : List ℕ) → high ≤ more → Rises low xs high → Rises low xs more
wider low high more [] at h = omega (arith, at, h)
wider low high more (x ∷ xs) at h = (h.0, wider (suc x) high more xs at h.1)

one_after : (low high at : ℕ) (xs : List ℕ) → high ≤ at → Rises low xs high → Rises low (xs ++ at ∷ []) (suc at)
one_after low high at [] past h = (omega (arith, past, h), omega arith)
one_after low high at (x ∷ xs) past h = (h.0, one_after (suc x) high at xs past h.1)

-- Each token's offset is behind that of the token before it.
abbrev Onward : ℕ → List Token → Type 0
Onward low [] = ⊤
Onward low (k ∷ ts) = (low ≤ offset k) × Onward (suc (offset k)) ts

offset_at : (b : Blocks) (at : ℕ) → offset (token_at b at) ≡ at
unfolding token_at
offset_at b at = either (λ t. offset t ≡ at) (nat_lt b.structure_end (at + 4)) _ _ (λ h. refl)
    (λ h. each_word (λ t. offset t ≡ at) b at (be32 b.bytes at) (λ is. refl) (λ is. refl) (λ is. refl) (λ is. refl) (λ is. refl) refl)

next_on : (k : Token) (m : ℕ) → next k ≡ Some m → suc (offset k) ≤ m
next_on (begin_node at (Ok name)) m h = omega (arith, some_some _ m h)
next_on (begin_node at (Err fault)) m h = absurd (grind (arith, h))
next_on (end_node at) m h = omega (arith, some_some _ m h)
next_on (prop at (Ok p)) m h = omega (arith, some_some _ m h)
next_on (prop at (Err fault)) m h = absurd (grind (arith, h))
next_on (nop at) m h = omega (arith, some_some _ m h)
next_on (last at) m h = absurd (grind (arith, h))
next_on (stray at fault) m h = absurd (grind (arith, h))

onward : (n : ℕ) (b : Blocks) (low : ℕ) (o : Option ℕ) → ((m : ℕ) → o ≡ Some m → low ≤ m) → Onward low (tokens_from n b o)
unfolding tokens_from
onward zero b low None h = tt
onward (suc n) b low None h = tt
onward zero b low (Some at) h = tt
onward (suc n) b low (Some at) h = (omega (arith, h at refl, offset_at b at), onward n b (suc (offset (token_at b at))) (next (token_at b at)) (next_on (token_at b at)))

-- the offsets of open nodes and of what was closed in them
abbrev open_ats : List Open → List ℕ
open_ats [] = []
open_ats (opened at name own below ∷ ls) = open_ats ls ++ (at ∷ ats below)

ats_join : (a b : Siblings) → ats (join a b) ≡ ats a ++ ats b
ats_join none b = refl
ats_join (node at name own below after) b =
    ap (λ (l : List ℕ). at ∷ (ats below ++ l)) (ats_join after b) ∙ ap (λ (l : List ℕ). at ∷ l) (sym (append_assoc (ats below) (ats after) (ats b)))

closed : (o parent : Open) (ls : List Open) → open_ats (o ∷ parent ∷ ls) ≡ open_ats (close o parent ∷ ls)
closed (opened at name own below) (opened place above mine under) ls =
    append_assoc (open_ats ls) (place ∷ ats under) (at ∷ ats below)
    ∙ ap (λ (l : List ℕ). open_ats ls ++ (place ∷ (ats under ++ (at ∷ l)))) (sym (append-nil (ats below)))
    ∙ ap (λ (l : List ℕ). open_ats ls ++ (place ∷ l)) (sym (ats_join under (node at name own below none)))

alone : (o : Open) → open_ats (o ∷ []) ≡ ats (as_node o)
alone (opened at name own below) = ap (λ (l : List ℕ). at ∷ l) (sym (append-nil (ats below)))

finished_is : (r t : Siblings) (ts : List Token) → finished r ts ≡ Ok t → r ≡ t
unfolding finished
finished_is r t [] h = absurd (err_ok h)
finished_is r t (nop at ∷ ts) h = finished_is r t ts h
finished_is r t (last at ∷ ts) h = ok_ok r t h
finished_is r t (begin_node at name ∷ ts) h = absurd (err_ok h)
finished_is r t (end_node at ∷ ts) h = absurd (err_ok h)
finished_is r t (prop at p ∷ ts) h = absurd (err_ok h)
finished_is r t (stray at fault ∷ ts) h = absurd (err_ok h)

walk_rises : (t : Siblings) (low : ℕ) (ts : List Token) (o : Open) (ls : List Open) → Onward low ts → Rises 0 (open_ats (o ∷ ls)) low → walk o ls ts ≡ Ok t → (high : ℕ) × Rises 0 (ats t) high
unfolding walk
walk_rises t low [] o ls on up h = absurd (err_ok h)
walk_rises t low (nop at ∷ ts) o ls on up h = walk_rises t (suc at) ts o ls on.1 (wider 0 low (suc at) (open_ats (o ∷ ls)) (omega (arith, on.0)) up) h
walk_rises t low (begin_node at (Ok name) ∷ ts) o ls on up h = walk_rises t (suc at) ts (opened at name [] none) (o ∷ ls) on.1 (one_after 0 low at (open_ats (o ∷ ls)) on.0 up) h
walk_rises t low (begin_node at (Err fault) ∷ ts) o ls on up h = absurd (err_ok h)
walk_rises t low (prop at (Ok p) ∷ ts) (opened place name own none) ls on up h =
    walk_rises t (suc at) ts (opened place name (own ++ p ∷ []) none) ls on.1 (wider 0 low (suc at) (open_ats (opened place name own none ∷ ls)) (omega (arith, on.0)) up) h
walk_rises t low (prop at (Err fault) ∷ ts) (opened place name own none) ls on up h = absurd (err_ok h)
walk_rises t low (prop at p ∷ ts) (opened place name own (node a b c d e)) ls on up h = absurd (err_ok h)
walk_rises t low (end_node at ∷ ts) o [] on up h = (low, subst (λ (l : List ℕ). Rises 0 l low) (alone o ∙ ap ats (finished_is (as_node o) t ts h)) up)
walk_rises t low (end_node at ∷ ts) o (parent ∷ ls) on up h =
    walk_rises t (suc at) ts (close o parent) ls on.1
    (wider 0 low (suc at) (open_ats (close o parent ∷ ls)) (omega (arith, on.0)) (subst (λ (l : List ℕ). Rises 0 l low) (closed o parent ls) up)) h
walk_rises t low (last at ∷ ts) o ls on up h = absurd (err_ok h)
walk_rises t low (stray at fault ∷ ts) o ls on up h = absurd (err_ok h)

begun_rises : (t : Siblings) (low : ℕ) (ts : List Token) → Onward low ts → begun ts ≡ Ok t → (high : ℕ) × Rises 0 (ats t) high
unfolding begun
begun_rises t low [] on h = absurd (err_ok h)
begun_rises t low (nop at ∷ ts) on h = begun_rises t (suc at) ts on.1 h
begun_rises t low (begin_node at (Ok name) ∷ ts) on h = walk_rises t (suc at) ts (opened at name [] none) [] on.1 (omega arith, omega arith) h
begun_rises t low (begin_node at (Err fault) ∷ ts) on h = absurd (err_ok h)
begun_rises t low (end_node at ∷ ts) on h = absurd (err_ok h)
begun_rises t low (prop at p ∷ ts) on h = absurd (err_ok h)
begun_rises t low (last at ∷ ts) on h = absurd (err_ok h)
begun_rises t low (stray at fault ∷ ts) on h = absurd (err_ok h)

row_ats : (level : Level) (parent : Option ℕ) (i : ℕ) (t : Siblings) → map (λ (r : Row). r.at) (rows level parent i t) ≡ ats t
unfolding rows
row_ats level parent i none = refl
row_ats level parent i (node at name own below after) =
    let xs = rows (level_in (role_at level name)) (Some i) (i + 1) below in
    let ys = rows (level_after level name) parent (i + (1 + size below)) after in
    ap (λ (l : List ℕ). at ∷ l) (map-append (λ (r : Row). r.at) xs ys)
    ∙ ap (λ (l : List ℕ). at ∷ (l ++ map (λ (r : Row). r.at) ys)) (row_ats (level_in (role_at level name)) (Some i) (i + 1) below)
    ∙ ap (λ (l : List ℕ). at ∷ (ats below ++ l)) (row_ats (level_after level name) parent (i + (1 + size below)) after)

abbrev RowsRise : ℕ → List Row → ℕ → Type 0
RowsRise low rs high = Rises low (map (λ (r : Row). r.at) rs) high

behind : (low high : ℕ) (rs : List Row) (n : ℕ) (row : Row) → RowsRise low rs high → slice_get rs n ≡ Some row → low ≤ row.at
behind low high [] n row up at = absurd (empty n row at)
behind low high (x ∷ rs) zero row up at = subst (λ (r : Row). low ≤ r.at) (some_some x row at) up.0
behind low high (x ∷ rs) (suc n) row up at = omega (arith, up.0, behind (suc x.at) high rs n row up.1 at)

-- two rows at one offset are one
same_number : (low high : ℕ) (rs : List Row) (n m : ℕ) (row other : Row) → RowsRise low rs high → slice_get rs n ≡ Some row → slice_get rs m ≡ Some other → row.at ≡ other.at → n ≡ m
same_number low high [] n m row other up at its same = absurd (empty n row at)
same_number low high (x ∷ rs) zero zero row other up at its same = refl
same_number low high (x ∷ rs) zero (suc m) row other up at its same =
    absurd (omega (arith, same, ap (λ (r : Row). r.at) (some_some x row at), behind (suc x.at) high rs m other up.1 its))
same_number low high (x ∷ rs) (suc n) zero row other up at its same =
    absurd (omega (arith, same, ap (λ (r : Row). r.at) (some_some x other its), behind (suc x.at) high rs n row up.1 at))
same_number low high (x ∷ rs) (suc n) (suc m) row other up at its same = ap suc (same_number (suc x.at) high rs n m row other up.1 at its same)

-- an offset is that of one node of a tree only
pub one_at : (b : Blocks) (t : Siblings) → root (without_nops (tokens b)) ≡ Ok t → (n m : ℕ) (row other : Row) → slice_get (table t) n ≡ Some row → slice_get (table t) m ≡ Some other → row.at ≡ other.at → n ≡ m
one_at b t rooted n m row other at its same =
    let up = begun_rises t 0 (tokens b) (onward (suc (b.structure_end - b.structure)) b 0 (Some b.structure) (λ m is. omega arith)) (begun_is (tokens b) ∙ rooted) in
    same_number 0 up.0 (table t) n m row other (subst (λ (l : List ℕ). Rises 0 l up.0) (sym (row_ats top None 0 t)) up.1) at its same
