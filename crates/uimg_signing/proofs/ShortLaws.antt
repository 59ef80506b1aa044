-- The names of a tree's nodes are short, and a node's parent is one of its nodes.
use Rattle.std.proofs.Common.{◌≡◌, ℕ, zero, suc, ◌+◌, ◌-◌, ◌<◌, ◌≤◌, List, [], ◌∷◌, ◌++◌, length, take, drop, Option, Some, None, Result, Ok, Err, Bool, true, false, slice_get, if◌then◌else◌, ◌==◌, refl, ap, subst, ◌∙◌, arith}
use Rattle.std.specs.Prelude.{nat_lt, ⊤}
use Rattle.std.specs.List.{AllByRecursion}
use Rattle.uimg_texts.specs.{Nul.before_nul, Numbers.be32}
use Rattle.uimg_base.specs.Results.{◌>>=◌}
use Rattle.uimg_blob_reading.specs.Tokens.{Token, begin_node, end_node, prop, nop, last, stray, Blocks, token_at, next, tokens, tokens_from, node_name, reach}
use Rattle.uimg_blob_reading.specs.declared.fault.BlobFault.TheVariants.{Truncated, BadNodeName}
use Rattle.uimg_blob_reading.specs.{Reading.Fault, Grammar.{Siblings, none, node, root, without_nops}, Blob.{blocks, tree}}
use Rattle.uimg_blob_reading.specs.Walk.{Open, opened, walk, begun, finished, as_node, close, join}
use Rattle.uimg_blob_reading.specs.Rows.{Row, rows, table, size}
use Rattle.uimg_blob_reading.specs.Roles.{Level, top, role_at, level_in, level_after}
use Rattle.uimg_blob_reading.proofs.WalkLaws.{begun_is}
use Rattle.uimg_signing.specs.Paths.{Path, paths, ParentIs, Stands, AllStand}
use Rattle.uimg_signing.proofs.{TokenLaws.{either, each_word}, GoingLaws.err_ok, MessageLaws.ok_ok, ParentLaws.{table_stands, length_paths}}
use Rattle.uimg_signing.proofs.ListedLaws.{empty, within}
use Rattle.uimg_blob_reading.proofs.{PhaseLaws.some_some, LookLaws.length_rows}

abbrev IsShort : List ℕ → Type 0
IsShort name = length name ≤ 255

abbrev ShortToken : Token → Type 0
ShortToken (begin_node at (Ok name)) = IsShort name
ShortToken (begin_node at (Err fault)) = ⊤
ShortToken (end_node at) = ⊤
ShortToken (prop at p) = ⊤
ShortToken (nop at) = ⊤
ShortToken (last at) = ⊤
ShortToken (stray at fault) = ⊤

abbrev ShortTree : Siblings → Type 0
ShortTree none = ⊤
ShortTree (node at name own below after) = IsShort name × ShortTree below × ShortTree after

abbrev ShortOpen : Open → Type 0
ShortOpen (opened at name own below) = IsShort name × ShortTree below

joined : (a b : Siblings) → ShortTree a → ShortTree b → ShortTree (join a b)
joined none b x y = y
joined (node at name own below after) b x y = (x.0, x.1, joined after b x.2 y)

closed : (o parent : Open) → ShortOpen o → ShortOpen parent → ShortOpen (close o parent)
closed (opened at name own below) (opened place above mine under) x y = (y.0, joined under (node at name own below none) y.1 (x.0, x.1, tt))

as_tree : (o : Open) → ShortOpen o → ShortTree (as_node o)
as_tree (opened at name own below) x = (x.0, x.1, tt)

finished_short : (r t : Siblings) (ts : List Token) → ShortTree r → finished r ts ≡ Ok t → ShortTree t
unfolding finished
finished_short r t [] x h = absurd (err_ok h)
finished_short r t (nop at ∷ ts) x h = finished_short r t ts x h
finished_short r t (last at ∷ ts) x h = subst ShortTree (ok_ok r t h) x
finished_short r t (begin_node at name ∷ ts) x h = absurd (err_ok h)
finished_short r t (end_node at ∷ ts) x h = absurd (err_ok h)
finished_short r t (prop at p ∷ ts) x h = absurd (err_ok h)
finished_short r t (stray at fault ∷ ts) x h = absurd (err_ok h)

walk_short : (t : Siblings) (ts : List Token) (o : Open) (ls : List Open) → AllByRecursion ShortToken ts → ShortOpen o → AllByRecursion ShortOpen ls → walk o ls ts ≡ Ok t → ShortTree t
unfolding walk
walk_short t [] o ls k x y h = absurd (err_ok h)
walk_short t (nop at ∷ ts) o ls k x y h = walk_short t ts o ls k.1 x y h
walk_short t (begin_node at (Ok name) ∷ ts) o ls k x y h = walk_short t ts (opened at name [] none) (o ∷ ls) k.1 (k.0, tt) (x, y) h
walk_short t (begin_node at (Err fault) ∷ ts) o ls k x y h = absurd (err_ok h)
walk_short t (prop at (Ok p) ∷ ts) (opened place name own none) ls k x y h = walk_short t ts (opened place name (own ++ p ∷ []) none) ls k.1 (x.0, tt) y h
walk_short t (prop at (Err fault) ∷ ts) (opened place name own none) ls k x y h = absurd (err_ok h)
walk_short t (prop at p ∷ ts) (opened place name own (node a b c d e)) ls k x y h = absurd (err_ok h)
walk_short t (end_node at ∷ ts) o [] k x y h = finished_short (as_node o) t ts (as_tree o x) h
walk_short t (end_node at ∷ ts) o (parent ∷ ls) k x y h = walk_short t ts (close o parent) ls k.1 (closed o parent x y.0) y.1 h
walk_short t (last at ∷ ts) o ls k x y h = absurd (err_ok h)
walk_short t (stray at fault ∷ ts) o ls k x y h = absurd (err_ok h)

begun_short : (t : Siblings) (ts : List Token) → AllByRecursion ShortToken ts → begun ts ≡ Ok t → ShortTree t
unfolding begun
begun_short t [] k h = absurd (err_ok h)
begun_short t (nop at ∷ ts) k h = begun_short t ts k.1 h
begun_short t (begin_node at (Ok name) ∷ ts) k h = walk_short t ts (opened at name [] none) [] k.1 (k.0, tt) tt h
begun_short t (begin_node at (Err fault) ∷ ts) k h = absurd (err_ok h)
begun_short t (end_node at ∷ ts) k h = absurd (err_ok h)
begun_short t (prop at p ∷ ts) k h = absurd (err_ok h)
begun_short t (last at ∷ ts) k h = absurd (err_ok h)
begun_short t (stray at fault ∷ ts) k h = absurd (err_ok h)

some_same : (x y : List ℕ) → (let o : Option (List ℕ) = Some x in o) ≡ Some y → x ≡ y
some_same x y h = some_some x y h

nul_more : (b : ℕ) (xs name : List ℕ) (o : Option (List ℕ)) → ((m : List ℕ) → before_nul xs ≡ Some m → length m < length xs) → before_nul xs ≡ o
    → (elim o as (λ _. Option (List ℕ)) [ None ↦ None | Some m ↦ Some (suc b ∷ m) ]) ≡ Some name → length name < suc (length xs)
nul_more b xs name None shorter is h = grind (arith, h)
nul_more b xs name (Some m) shorter is h = omega (arith, ap length (some_same (suc b ∷ m) name h), shorter m is)

-- a text before a NUL has fewer bytes
nul_within : (xs name : List ℕ) → before_nul xs ≡ Some name → length name < length xs
unfolding before_nul
nul_within [] name h = grind (arith, h)
nul_within (zero ∷ xs) name h = omega (arith, ap length (some_same [] name h))
nul_within (suc b ∷ xs) name h = nul_more b xs name (before_nul xs) (λ m is. nul_within xs m is) refl h

few : (n : ℕ) (xs : List ℕ) → length (take n xs) ≤ n
few zero xs = omega arith
few (suc n) [] = omega arith
few (suc n) (x ∷ xs) = omega (arith, few n xs)

no_name : (c : Bool) (at : ℕ) → ShortToken (begin_node at (if c then Err BadNodeName else Err Truncated))
no_name true at = tt
no_name false at = tt

short_begin : (at : ℕ) (near : List ℕ) (o : Option (List ℕ)) → before_nul near ≡ o → length near ≤ 256 → ShortToken (begin_node at (node_name o (length near)))
short_begin at near (Some name) is most = omega (arith, nul_within near name is, most)
short_begin at near None is most = no_name (length near == 256) at

short_at : (b : Blocks) (at : ℕ) → ShortToken (token_at b at)
unfolding token_at
short_at b at =
    let near = reach b.bytes (at + 4) b.structure_end in
    either ShortToken (nat_lt b.structure_end (at + 4)) _ _ (λ h. tt)
    (λ h. each_word ShortToken b at (be32 b.bytes at) (λ is. short_begin at near (before_nul near) refl (few 256 (take (b.structure_end - (at + 4)) (drop (at + 4) b.bytes)))) (λ is. tt) (λ is. tt) (λ is. tt) (λ is. tt) tt)

tokens_short : (n : ℕ) (b : Blocks) (o : Option ℕ) → AllByRecursion ShortToken (tokens_from n b o)
unfolding tokens_from
tokens_short zero b None = tt
tokens_short (suc n) b None = tt
tokens_short zero b (Some at) = tt
tokens_short (suc n) b (Some at) = (short_at b at, tokens_short n b (next (token_at b at)))

all_both : {X : Type 0} (P : X → Type 0) (xs ys : List X) → AllByRecursion P xs → AllByRecursion P ys → AllByRecursion P (xs ++ ys)
all_both P [] ys a b = b
all_both P (x ∷ xs) ys a b = (a.0, all_both P xs ys a.1 b)

all_get : {X : Type 0} (P : X → Type 0) (xs : List X) (i : ℕ) (x : X) → AllByRecursion P xs → slice_get xs i ≡ Some x → P x
all_get P [] i x a is = absurd (empty i x is)
all_get P (y ∷ xs) zero x a is = subst P (some_some y x is) a.0
all_get P (y ∷ xs) (suc i) x a is = all_get P xs i x a.1 is

rows_short : (level : Level) (parent : Option ℕ) (i : ℕ) (t : Siblings) → ShortTree t → AllByRecursion (λ r. IsShort r.name) (rows level parent i t)
unfolding rows
rows_short level parent i none h = tt
rows_short level parent i (node at name own below after) h = (
  h.0,
  all_both (λ (r : Row). IsShort r.name) (rows (level_in (role_at level name)) (Some i) (i + 1) below) (rows (level_after level name) parent (i + (1 + size below)) after)
      (rows_short (level_in (role_at level name)) (Some i) (i + 1) below h.1) (rows_short (level_after level name) parent (i + (1 + size below)) after h.2),
)

tree_in : (t : Siblings) (r : Result Blocks Fault) → (r >>= (λ b. root (without_nops (tokens b)))) ≡ Ok t → (b : Blocks) × (r ≡ Ok b) × (root (without_nops (tokens b)) ≡ Ok t)
tree_in t (Ok b) h = (b, refl, h)
tree_in t (Err e) h = absurd (err_ok h)

-- the blocks of a file with a tree
pub tree_of : (file : List ℕ) (t : Siblings) → tree file ≡ Ok t → (b : Blocks) × (blocks file ≡ Ok b) × (root (without_nops (tokens b)) ≡ Ok t)
unfolding tree
tree_of file t h = tree_in t (blocks file) h

-- the name of a node of a file's tree has at most 255 bytes
pub name_short : (file : List ℕ) (t : Siblings) (i : ℕ) (row : Row) → tree file ≡ Ok t → slice_get (table t) i ≡ Some row → length row.name ≤ 255
name_short file t i row is at =
    let r = tree_of file t is in
    let all = tokens_short (suc (r.0.structure_end - r.0.structure)) r.0 (Some r.0.structure) in
    all_get (λ (x : Row). IsShort x.name) (table t) i row (rows_short top None 0 t (begun_short t (tokens r.0) all (begun_is (tokens r.0) ∙ r.2))) at

stand : (all : List Path) (rs : List Row) (ps : List Path) → AllStand all rs ps → (n : ℕ) (row : Row) → slice_get rs n ≡ Some row → (path : Path) × Stands all row path
stand all [] ps a n row is = absurd (empty n row is)
stand all (r ∷ rs) [] a n row is = absurd a
stand all (r ∷ rs) (p ∷ ps) a zero row is = (p, subst (λ (x : Row). Stands all x p) (some_some r row is) a.0)
stand all (r ∷ rs) (p ∷ ps) a (suc n) row is = stand all rs ps a.1 n row is

-- the parent of a node is a node
pub parent_within : (t : Siblings) (n parent : ℕ) (row : Row) → slice_get (table t) n ≡ Some row → row.parent ≡ Some parent → parent < length (table t)
parent_within t n parent row at is =
    let s = stand (paths [] t) (table t) (paths [] t) (table_stands t) n row at in
    let there : slice_get (paths [] t) parent ≡ Some s.1.above = subst (λ (o : Option ℕ). ParentIs (paths [] t) o s.1.above) is s.1.parent in
    omega (arith, within (paths [] t) parent s.1.above there, length_paths [] t, length_rows top None 0 t)
