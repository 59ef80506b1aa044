-- The nodes that U-Boot lists have signed paths.
use Rattle.std.proofs.Common.{◌≡◌, ℕ, zero, suc, ◌+◌, List, [], ◌∷◌, ◌++◌, drop, Option, Some, None, Ok, Bool, true, false, ◌||◌, if◌then◌else◌, ◌==◌, slice_get, refl, ap, sym, subst, ◌∙◌, append_assoc, append-nil, inl, inr, arith}
use Rattle.std.specs.Prelude.{nat_lt, ◌⊎◌}
use Rattle.uimg_base.specs.declared.spans.Span.{Span}
use Rattle.uimg_blob_reading.specs.declared.roles.Role.{Role}
use Rattle.uimg_blob_reading.specs.declared.roles.Role.TheVariants as role
use Rattle.uimg_blob_reading.specs.{Grammar.{Siblings, none, node}, Blob.tree, Plain.NamedOf}
use Rattle.uimg_blob_reading.specs.Rows.{Row, size, first_of, rows, table}
use Rattle.uimg_blob_reading.specs.Roles.{Level, top, in_root, in_images, in_image, in_configurations, elsewhere, is_images, is_configurations, is_hash, is_signature, root_child, sum_role, role_at, level_in, level_after}
use Rattle.uimg_blob_reading.proofs.{PhaseLaws.some_some, LookLaws.length_rows}
use Rattle.uimg_signing.specs.{Covering.is_marked, Naming.times, Texts.is_cipher, SignedParts.{SignsPath, SignsPaths}}
use Rattle.uimg_signing.specs.Listing.{name_in, image_times, row_times, parent_times, listed_as, is_listed, mark_if, marks_from, marks_of}
use Rattle.uimg_signing.proofs.{GoingLaws.true_false, ListedLaws.empty, ShortLaws.tree_of, ParentLaws.{got, past}, RisingLaws.one_at}

or_true : (a b : Bool) → b ≡ true → (a || b) ≡ true
or_true true b h = refl
or_true false b h = h

either_true : (a b : Bool) → (a || b) ≡ true → (a ≡ true) ⊎ (b ≡ true)
either_true true b h = inl refl
either_true false b h = inr h

equal : (a b : ℕ) → (a == b) ≡ true → a ≡ b
equal a b h = grind (arith, h)

itself : (a : ℕ) (b : Bool) → ((a == a) || b) ≡ true
itself a b = let same : (a == a) ≡ true = grind arith in ap (λ (c : Bool). c || b) same

marked_first : (c : Bool) (at : ℕ) (marks : List ℕ) → c ≡ true → is_marked (mark_if c at ++ marks) at ≡ true
marked_first true at marks h = itself at (is_marked marks at)
marked_first false at marks h = true_false false h refl

marked_later : (c : Bool) (at a : ℕ) (marks : List ℕ) → is_marked marks a ≡ true → is_marked (mark_if c at ++ marks) a ≡ true
marked_later true at a marks h = or_true (at == a) (is_marked marks a) h
marked_later false at a marks h = h

marked_by : (c : Bool) (at a : ℕ) (marks : List ℕ) → is_marked (mark_if c at ++ marks) a ≡ true → ((c ≡ true) × (at ≡ a)) ⊎ (is_marked marks a ≡ true)
marked_by true at a marks h = by_one (either_true (at == a) (is_marked marks a) h)
  where
    by_one : ((at == a) ≡ true) ⊎ (is_marked marks a ≡ true) → ((true ≡ true) × (at ≡ a)) ⊎ (is_marked marks a ≡ true)
    by_one (inl x) = inl (refl, equal at a x)
    by_one (inr x) = inr x
marked_by false at a marks h = inr h

-- from a positive number of times to less
some_else : (c : Bool) (around : ℕ) → nat_lt 0 (if c then around else 0) ≡ true → nat_lt 0 around ≡ true
some_else true around h = h
some_else false around h = true_false false h refl

around_some : (hash sign its : Bool) (named : ℕ) (cipher : Bool) (around : ℕ) → nat_lt 0 (listed_as (sum_role hash sign) its named cipher around) ≡ true → nat_lt 0 around ≡ true
around_some true sign its named cipher around h = h
around_some false true its named cipher around h = true_false false h refl
around_some false false its named cipher around h = some_else cipher around h

not_some : (n : ℕ) → n ≡ 0 → nat_lt 0 n ≡ true → ⊥
not_some n is h = true_false (nat_lt 0 n) h (ap (nat_lt 0) is)

module _ (file : List ℕ) (own : List (NamedOf Span)) (all : List Row) (number : ℕ) where
  -- a listed node is marked
  marked : (i : ℕ) (rs : List Row) (n : ℕ) (row : Row) → slice_get rs n ≡ Some row → is_listed file own all number (i + n) row ≡ true → is_marked (marks_from file own all number i rs) row.at ≡ true
  unfolding marks_from
  marked i [] n row at is = absurd (empty n row at)
  marked i (r ∷ rs) zero row at is =
      let same = some_some r row at in
      let here : i + 0 ≡ i = omega arith in
      let listed : is_listed file own all number i r ≡ true = ap (λ (x : Row). is_listed file own all number i x) same ∙ ap (λ (m : ℕ). is_listed file own all number m row) (sym here) ∙ is in
      ap (λ (x : Row). is_marked (marks_from file own all number i (r ∷ rs)) x.at) (sym same)
      ∙ marked_first (is_listed file own all number i r) r.at (marks_from file own all number (i + 1) rs) listed
  marked i (r ∷ rs) (suc n) row at is =
      let there : i + suc n ≡ (i + 1) + n = omega arith in
      marked_later (is_listed file own all number i r) r.at row.at (marks_from file own all number (i + 1) rs)
      (marked (i + 1) rs n row at (ap (λ (m : ℕ). is_listed file own all number m row) (sym there) ∙ is))

  -- a mark is that of a listed node
  marker : (i : ℕ) (rs : List Row) (a : ℕ) → is_marked (marks_from file own all number i rs) a ≡ true → (n : ℕ) × (row : Row) × (slice_get rs n ≡ Some row) × (row.at ≡ a) × (is_listed file own all number (i + n) row ≡ true)
  unfolding marks_from
  marker i [] a h = true_false false h refl
  marker i (r ∷ rs) a h = by_first (marked_by (is_listed file own all number i r) r.at a (marks_from file own all number (i + 1) rs) h) (marker (i + 1) rs a)
    where
      by_first : ((is_listed file own all number i r ≡ true) × (r.at ≡ a)) ⊎ (is_marked (marks_from file own all number (i + 1) rs) a ≡ true)
          → (is_marked (marks_from file own all number (i + 1) rs) a ≡ true → (n : ℕ) × (row : Row) × (slice_get rs n ≡ Some row) × (row.at ≡ a) × (is_listed file own all number ((i + 1) + n) row ≡ true))
          → (n : ℕ) × (row : Row) × (slice_get (r ∷ rs) n ≡ Some row) × (row.at ≡ a) × (is_listed file own all number (i + n) row ≡ true)
      by_first (inl x) later = let here : i + 0 ≡ i = omega arith in (0, r, refl, x.1, ap (λ (m : ℕ). is_listed file own all number m r) here ∙ x.0)
      by_first (inr x) later =
          let m = later x in
          let there : i + suc m.0 ≡ (i + 1) + m.0 = omega arith in
          (suc m.0, m.1, m.2, m.3, ap (λ (k : ℕ). is_listed file own all number k m.1) there ∙ m.4)

module _ (file : List ℕ) (own : List (NamedOf Span)) (t : Siblings) (number : ℕ)
    (one : (n m : ℕ) (row other : Row) → slice_get (table t) n ≡ Some row → slice_get (table t) m ≡ Some other → row.at ≡ other.at → n ≡ m) where
  abbrev listed : ℕ → Bool
  listed = is_marked (marks_of file own (table t) number)

  marks_it : (i : ℕ) (row : Row) → slice_get (table t) i ≡ Some row → is_listed file own (table t) number i row ≡ true → listed row.at ≡ true
  marks_it i row at is =
      let here : 0 + i ≡ i = omega arith in marked file own (table t) number 0 (table t) i row at (ap (λ (m : ℕ). is_listed file own (table t) number m row) here ∙ is)

  lists_it : (i : ℕ) (row : Row) → slice_get (table t) i ≡ Some row → listed row.at ≡ true → is_listed file own (table t) number i row ≡ true
  lists_it i row at is =
      let m = marker file own (table t) number 0 (table t) row.at is in
      let same : i ≡ m.0 = one i m.0 row m.1 at m.2 (sym m.3) in
      let here : 0 + m.0 ≡ i = omega (arith, same) in
      let row_is = some_some row m.1 (sym at ∙ ap (slice_get (table t)) same ∙ m.2) in
      ap (λ (x : Row). is_listed file own (table t) number i x) row_is ∙ ap (λ (k : ℕ). is_listed file own (table t) number k m.1) (sym here) ∙ m.4

  -- What is known of the nodes around siblings of a level: the root is listed, and an image is that names them.
  abbrev Around : Level → Option ℕ → List ℕ → Type 0
  Around top parent nodes = nodes ≡ []
  Around (in_root h k) parent nodes = (r : ℕ) × (nodes ≡ r ∷ []) × (listed r ≡ true)
  Around in_images parent nodes = (x : ℕ) × (r : ℕ) × (nodes ≡ x ∷ r ∷ []) × (listed r ≡ true)
  Around in_configurations parent nodes = (x : ℕ) × (r : ℕ) × (nodes ≡ x ∷ r ∷ []) × (listed r ≡ true)
  Around in_image parent nodes =
      (x : ℕ) × (y : ℕ) × (r : ℕ) × (nodes ≡ x ∷ y ∷ r ∷ []) × (listed r ≡ true) × (nat_lt 0 (parent_times file own (table t) parent) ≡ true → listed x ≡ true)
  Around elsewhere parent nodes = parent_times file own (table t) parent ≡ 0

  from_root : (a x r : ℕ) → listed a ≡ true → listed r ≡ true → SignsPath listed (a ∷ x ∷ r ∷ [])
  from_root a x r its root_is = (ap (λ (b : Bool). b || listed x) its, (or_true (listed x) (listed r) root_is, (ap (λ (b : Bool). b || false) root_is, tt)))

  -- the path of a listed node is signed
  its_path : (level : Level) (parent : Option ℕ) (nodes : List ℕ) (i : ℕ) (row : Row) → row.role ≡ role_at level row.name → row.parent ≡ parent → slice_get (table t) i ≡ Some row
      → Around level parent nodes → listed row.at ≡ true → SignsPath listed (row.at ∷ nodes)
  its_path top parent nodes i row kind above at nodes_are is =
      subst (λ (l : List ℕ). SignsPath listed (row.at ∷ l)) (sym nodes_are) (ap (λ (b : Bool). b || false) is, tt)
  its_path (in_root h k) parent nodes i row kind above at (r, nodes_are, root_is) is =
      subst (λ (l : List ℕ). SignsPath listed (row.at ∷ l)) (sym nodes_are) (ap (λ (b : Bool). b || listed r) is, (ap (λ (b : Bool). b || false) root_is, tt))
  its_path in_images parent nodes i row kind above at (x, r, nodes_are, root_is) is =
      subst (λ (l : List ℕ). SignsPath listed (row.at ∷ l)) (sym nodes_are) (from_root row.at x r is root_is)
  its_path in_configurations parent nodes i row kind above at (x, r, nodes_are, root_is) is =
      subst (λ (l : List ℕ). SignsPath listed (row.at ∷ l)) (sym nodes_are) (from_root row.at x r is root_is)
  its_path in_image parent nodes i row kind above at (x, y, r, nodes_are, root_is, around) is =
      let times_of = parent_times file own (table t) in
      let some = around_some (is_hash row.name) (is_signature row.name) (i == number) (times file (name_in file row) own) (is_cipher (name_in file row)) (times_of parent)
      (ap (λ (o : Option ℕ). nat_lt 0 (listed_as (role_at in_image row.name) (i == number) (times file (name_in file row) own) (is_cipher (name_in file row)) (times_of o))) (sym above)
      ∙ ap (λ (k : Role). nat_lt 0 (listed_as k (i == number) (times file (name_in file row) own) (is_cipher (name_in file row)) (times_of row.parent))) (sym kind) ∙ lists_it i row at is) in
      subst (λ (l : List ℕ). SignsPath listed (row.at ∷ l)) (sym nodes_are) (ap (λ (b : Bool). b || listed x) is, from_root x y r (around some) root_is)
  its_path elsewhere parent nodes i row kind above at few is =
      let times_of = parent_times file own (table t) in
      absurd (not_some (times_of parent) few (some_else (is_cipher (name_in file row)) (times_of parent)
      (ap (λ (o : Option ℕ). nat_lt 0 (listed_as role.Other (i == number) (times file (name_in file row) own) (is_cipher (name_in file row)) (times_of o))) (sym above)
      ∙ ap (λ (k : Role). nat_lt 0 (listed_as k (i == number) (times file (name_in file row) own) (is_cipher (name_in file row)) (times_of row.parent))) (sym kind) ∙ lists_it i row at is)))

  below_root : (h k a b : Bool) (i at r : ℕ) (name : List ℕ) → parent_times file own (table t) (Some i) ≡ image_times file own (root_child h k a b) name → listed r ≡ true
      → Around (level_in (root_child h k a b)) (Some i) (at ∷ r ∷ [])
  below_root true k true b i at r name is root_is = is
  below_root false k true b i at r name is root_is = (at, r, refl, root_is)
  below_root h true false true i at r name is root_is = is
  below_root h false false true i at r name is root_is = (at, r, refl, root_is)
  below_root h k false false i at r name is root_is = is

  below_image : (hash sign : Bool) (i : ℕ) (nodes name : List ℕ) → parent_times file own (table t) (Some i) ≡ image_times file own (sum_role hash sign) name → Around (level_in (sum_role hash sign)) (Some i) nodes
  below_image true sign i nodes name is = is
  below_image false true i nodes name is = is
  below_image false false i nodes name is = is

  -- what is known of the nodes around a node's children
  inside : (level : Level) (parent : Option ℕ) (nodes : List ℕ) (i : ℕ) (row : Row) → row.role ≡ role_at level row.name → slice_get (table t) i ≡ Some row
      → Around level parent nodes → Around (level_in (role_at level row.name)) (Some i) (row.at ∷ nodes)
  inside level parent nodes i row kind at around = by_level level around (ap (row_times file own) at ∙ ap (λ (k : Role). image_times file own k (name_in file row)) kind) kind
    where
      by_level : (level : Level) → Around level parent nodes → parent_times file own (table t) (Some i) ≡ image_times file own (role_at level row.name) (name_in file row) → row.role ≡ role_at level row.name
          → Around (level_in (role_at level row.name)) (Some i) (row.at ∷ nodes)
      by_level top nodes_are times_are kind =
          (row.at, ap (λ (l : List ℕ). row.at ∷ l) nodes_are, marks_it i row at (ap (λ (k : Role). nat_lt 0 (listed_as k (i == number) (times file (name_in file row) own) (is_cipher (name_in file row)) (parent_times file own (table t) row.parent))) kind))
      by_level (in_root h k) (r, nodes_are, root_is) times_are kind =
          subst (λ (l : List ℕ). Around (level_in (root_child h k (is_images row.name) (is_configurations row.name))) (Some i) (row.at ∷ l)) (sym nodes_are)
          (below_root h k (is_images row.name) (is_configurations row.name) i row.at r (name_in file row) times_are root_is)
      by_level in_images (x, r, nodes_are, root_is) times_are kind = (
        row.at,
        x,
        r,
        ap (λ (l : List ℕ). row.at ∷ l) nodes_are,
        root_is,
        λ some. marks_it i row at (ap (λ (k : Role). nat_lt 0 (listed_as k (i == number) (times file (name_in file row) own) (is_cipher (name_in file row)) (parent_times file own (table t) row.parent))) kind ∙ ap (nat_lt 0) (sym times_are) ∙ some),
      )
      by_level in_configurations (x, r, nodes_are, root_is) times_are kind =
          (row.at, x, r, ap (λ (l : List ℕ). row.at ∷ l) nodes_are, root_is, λ some. absurd (not_some (parent_times file own (table t) (Some i)) times_are some))
      by_level in_image around times_are kind = below_image (is_hash row.name) (is_signature row.name) i (row.at ∷ nodes) (name_in file row) times_are
      by_level elsewhere around times_are kind = times_are

  beside : (level : Level) (parent : Option ℕ) (nodes name : List ℕ) → Around level parent nodes → Around (level_after level name) parent nodes
  beside top parent nodes name h = h
  beside (in_root a b) parent nodes name h = h
  beside in_images parent nodes name h = h
  beside in_configurations parent nodes name h = h
  beside in_image parent nodes name h = h
  beside elsewhere parent nodes name h = h

  all_signed : (level : Level) (parent : Option ℕ) (i : ℕ) (nodes : List ℕ) (s : Siblings) (rest : List Row) → drop i (table t) ≡ rows level parent i s ++ rest → Around level parent nodes → SignsPaths listed nodes s
  unfolding rows
  all_signed level parent i nodes none rest h around = tt
  all_signed level parent i nodes (node at name mine below after) rest h around =
      let row : Row = record { at = at; name = name; own = mine; role = role_at level name; parent = parent; first_child = first_of (i + 1) below; next_sibling = first_of (i + (1 + size below)) after } in
      let xs = rows (level_in (role_at level name)) (Some i) (i + 1) below in
      let ys = rows (level_after level name) parent (i + (1 + size below)) after in
      let here : drop i (table t) ≡ row ∷ (xs ++ (ys ++ rest)) = h ∙ ap (λ (l : List Row). row ∷ l) (append_assoc xs ys rest) in
      let its : slice_get (table t) i ≡ Some row = got (table t) (xs ++ (ys ++ rest)) i row here in
      let next : drop (i + 1) (table t) ≡ xs ++ (ys ++ rest) = past (table t) (row ∷ []) (xs ++ (ys ++ rest)) i 1 here refl in
      let last : drop ((i + 1) + size below) (table t) ≡ ys ++ rest = past (table t) xs (ys ++ rest) (i + 1) (size below) next (length_rows (level_in (role_at level name)) (Some i) (i + 1) below) in
      let to : i + (1 + size below) ≡ (i + 1) + size below = omega arith in (
        its_path level parent nodes i row refl refl its around,
        all_signed (level_in (role_at level name)) (Some i) (i + 1) (at ∷ nodes) below (ys ++ rest) next (inside level parent nodes i row refl its around),
        all_signed (level_after level name) parent (i + (1 + size below)) nodes after rest (ap (λ (m : ℕ). drop m (table t)) to ∙ last) (beside level parent nodes name around),
      )

-- The paths of the nodes that the signature of a configuration lists are signed.
pub marks_signed : (file : List ℕ) (own : List (NamedOf Span)) (t : Siblings) (number : ℕ) → tree file ≡ Ok t → SignsPaths (is_marked (marks_of file own (table t) number)) [] t
marks_signed file own t number is =
    let r = tree_of file t is in
    all_signed file own t number (one_at r.0 t r.2) top None 0 [] t [] (sym (append-nil (table t))) refl
