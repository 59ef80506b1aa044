-- A node is listed if its path is.
use Rattle.std.proofs.Common.{◌≡◌, ℕ, zero, suc, ◌<◌, List, [], ◌∷◌, length, map, drop, get_or, Option, Some, None, Bool, slice_get, bytes_eq, ◌==◌, refl, ap, sym, subst, ◌∙◌, arith}
use Rattle.std.specs.Prelude.{nat_lt}
use Rattle.std.proofs.lemmas.Option.{slice_get_past}
use Rattle.std.specs.Int.{from_bool}
use Rattle.uimg_base.specs.declared.spans.Span.{Span}
use Rattle.uimg_blob_reading.specs.declared.roles.Role.{Role}
use Rattle.uimg_blob_reading.specs.declared.roles.Role.TheVariants as role
use Rattle.uimg_blob_reading.specs.{Grammar.Siblings, Rows.{Row, table}, Roles.top, Plain.NamedOf}
use Rattle.uimg_blob_reading.proofs.{PhaseLaws.some_some, LookLaws.length_rows}
use Rattle.uimg_signing.specs.{Naming.times, Texts.is_cipher}
use Rattle.uimg_signing.specs.Listing.{name_in, image_times, row_times, parent_times, listed_as, is_listed}
use Rattle.uimg_signing.specs.Paths.{Path, paths, role_of, IsSingle, ParentIs, Stands, AllStand, around_at, listed_at}
use Rattle.uimg_signing.proofs.{LookLaws.drop_at, PathLaws.roles_of_paths, ParentLaws.{table_stands, length_paths}}

-- an empty list has no element
pub empty : {X : Type 0} (n : ℕ) (x : X) → slice_get [] n ≡ Some x → ⊥
empty {X} n x h = grind (arith, h, slice_get_past (let xs : List X = [] in xs) n (omega arith))

-- an element is one of the list
pub within : {X : Type 0} (xs : List X) (n : ℕ) (x : X) → slice_get xs n ≡ Some x → n < length xs
within [] n x h = absurd (empty n x h)
within (y ∷ xs) zero x h = omega arith
within (y ∷ xs) (suc n) x h = omega (arith, within xs n x h)

stands_at : (all : List Path) (rs : List Row) (ps : List Path) → AllStand all rs ps → map (λ (r : Row). r.role) rs ≡ map role_of ps → (n : ℕ) (row : Row) (path : Path)
    → slice_get rs n ≡ Some row → slice_get ps n ≡ Some path → Stands all row path × (row.role ≡ role_of path)
stands_at all [] ps a h n row path r p = absurd (empty n row r)
stands_at all (x ∷ rs) [] a h n row path r p = absurd a
stands_at all (x ∷ rs) (y ∷ ps) a h zero row path r p =
    let same = some_some x row r in
    let also = some_some y path p in
    let heads : x.role ≡ role_of y = ap (λ (l : List Role). get_or l 0 role.Other) h in
    (subst (λ (q : Path). Stands all row q) also (subst (λ (k : Row). Stands all k y) same a.0), ap (λ (k : Row). k.role) (sym same) ∙ heads ∙ ap role_of also)
stands_at all (x ∷ rs) (y ∷ ps) a h (suc n) row path r p = stands_at all rs ps a.1 (ap (λ (l : List Role). drop 1 l) h) n row path r p

-- The bytes of each name are the name.
abbrev pub NamesAre : List ℕ → List Row → Type 0
NamesAre file rows = (n : ℕ) (row : Row) → slice_get rows n ≡ Some row → name_in file row ≡ row.name

around_is : (file : List ℕ) (own : List (NamedOf Span)) (t : Siblings) → IsSingle t → NamesAre file (table t) → (o : Option ℕ) (above : Path) → ParentIs (paths [] t) o above
    → parent_times file own (table t) o ≡ around_at file own above
around_is file own t single names None above h = ap (around_at file own) (sym h)
around_is file own t single names (Some p) above h =
    let r = drop_at (table t) p (omega (arith, within (paths [] t) p above h, length_paths [] t, length_rows top None 0 t)) in
    let s = stands_at (paths [] t) (table t) (paths [] t) (table_stands t) (roles_of_paths t single) p r.0 above r.1 h in
    ap (row_times file own) r.1
    ∙ ap (λ (x : List ℕ). image_times file own r.0.role x) (names p r.0 r.1)
    ∙ ap (λ (x : Role). image_times file own x r.0.name) (s.1 ∙ ap role_of s.0.is)
    ∙ ap (around_at file own) (sym s.0.is)

number_as : (r : Role) (x y : Bool) (named : ℕ) (cipher : Bool) (around : ℕ) → (r ≡ role.Configuration → x ≡ y) → listed_as r x named cipher around ≡ listed_as r y named cipher around
number_as role.Root x y named cipher around h = refl
number_as role.Images x y named cipher around h = refl
number_as role.Image x y named cipher around h = refl
number_as role.Hash x y named cipher around h = refl
number_as role.Signature x y named cipher around h = refl
number_as role.Configurations x y named cipher around h = refl
number_as role.Configuration x y named cipher around h = ap from_bool (h refl)
number_as role.Other x y named cipher around h = refl

-- a node is listed if its path is
pub listed_by_path : (file : List ℕ) (own : List (NamedOf Span)) (t : Siblings) (configuration : List ℕ) (number n : ℕ) (row : Row) (path : Path) → IsSingle t → NamesAre file (table t)
    → (row.role ≡ role.Configuration → (n == number) ≡ bytes_eq row.name configuration)
    → slice_get (table t) n ≡ Some row → slice_get (paths [] t) n ≡ Some path → is_listed file own (table t) number n row ≡ listed_at file own configuration path
listed_by_path file own t configuration number n row path single names unique at its =
    let s = stands_at (paths [] t) (table t) (paths [] t) (table_stands t) (roles_of_paths t single) n row path at its in
    ap (λ (x : List ℕ). nat_lt 0 (listed_as row.role (n == number) (times file x own) (is_cipher x) (parent_times file own (table t) row.parent))) (names n row at)
    ∙ ap (λ (k : ℕ). nat_lt 0 (listed_as row.role (n == number) (times file row.name own) (is_cipher row.name) k)) (around_is file own t single names row.parent s.0.above s.0.parent)
    ∙ ap (nat_lt 0) (number_as row.role (n == number) (bytes_eq row.name configuration) (times file row.name own) (is_cipher row.name) (around_at file own s.0.above) unique)
    ∙ ap (λ (r : Role). nat_lt 0 (listed_as r (bytes_eq row.name configuration) (times file row.name own) (is_cipher row.name) (around_at file own s.0.above))) (s.1 ∙ ap role_of s.0.is)
    ∙ ap (λ (p : Path). listed_at file own configuration p) (sym s.0.is)
