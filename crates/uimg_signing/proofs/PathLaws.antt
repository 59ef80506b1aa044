-- The role of a node is that of its path.
use Rattle.std.proofs.Common.{◌≡◌, ℕ, ◌+◌, List, [], ◌∷◌, ◌++◌, map, Option, Some, None, Bool, true, false, ◌&&◌, ◌||◌, if◌then◌else◌, refl, ap, sym, ◌∙◌, arith}
use Rattle.std.proofs.lemmas.List.{map-append}
use Rattle.uimg_blob_reading.specs.declared.roles.Role.{Role}
use Rattle.uimg_blob_reading.specs.declared.roles.Role.TheVariants as role
use Rattle.uimg_blob_reading.specs.Grammar.{Siblings, none, node}
use Rattle.uimg_blob_reading.specs.Rows.{Row, size, rows, table}
use Rattle.uimg_blob_reading.specs.Roles.{Level, top, in_root, in_images, in_image, in_configurations, elsewhere, is_images, is_configurations, is_hash, is_signature, sum_role, role_at, level_in, level_after, root_child}
use Rattle.uimg_blob_reading.specs.Tokens.{Property}
use Rattle.uimg_signing.specs.Paths.{Path, paths, role_of, AreSingle, IsSingle}

abbrev roles : List Row → List Role
roles rs = map (λ (r : Row). r.role) rs

one_more : (level : Level) (parent : Option ℕ) (i at : ℕ) (name : List ℕ) (above : Path) (own : List Property) (below after : Siblings)
    → role_at level name ≡ role_of (name ∷ above)
    → roles (rows (level_in (role_at level name)) (Some i) (i + 1) below) ≡ map role_of (paths (name ∷ above) below)
    → roles (rows (level_after level name) parent (i + (1 + size below)) after) ≡ map role_of (paths above after)
    → roles (rows level parent i (node at name own below after)) ≡ map role_of (paths above (node at name own below after))
unfolding rows paths
one_more level parent i at name above own below after its under others =
    let xs = rows (level_in (role_at level name)) (Some i) (i + 1) below in
    let ys = rows (level_after level name) parent (i + (1 + size below)) after in
    ap (λ (l : List Role). role_at level name ∷ l) (map-append (λ (r : Row). r.role) xs ys)
    ∙ ap (λ (r : Role). r ∷ (roles xs ++ roles ys)) its
    ∙ ap (λ (l : List Role). role_of (name ∷ above) ∷ (l ++ roles ys)) under
    ∙ ap (λ (l : List Role). role_of (name ∷ above) ∷ (map role_of (paths (name ∷ above) below) ++ l)) others
    ∙ ap (λ (l : List Role). role_of (name ∷ above) ∷ l) (sym (map-append role_of (paths (name ∷ above) below) (paths above after)))

nothing : (level : Level) (parent : Option ℕ) (i : ℕ) (above : Path) → roles (rows level parent i none) ≡ map role_of (paths above none)
unfolding rows paths
nothing level parent i above = refl

-- below four names or more there is nothing but others
far : (a b c d : List ℕ) (more : Path) (parent : Option ℕ) (i : ℕ) (t : Siblings) → roles (rows elsewhere parent i t) ≡ map role_of (paths (a ∷ b ∷ c ∷ d ∷ more) t)
far a b c d more parent i none = nothing elsewhere parent i (a ∷ b ∷ c ∷ d ∷ more)
far a b c d more parent i (node at name own below after) =
    one_more elsewhere parent i at name (a ∷ b ∷ c ∷ d ∷ more) own below after refl
    (far name a b c (d ∷ more) (Some i) (i + 1) below) (far a b c d more parent (i + (1 + size below)) after)

sum_elsewhere : (h s : Bool) → level_in (sum_role h s) ≡ elsewhere
sum_elsewhere true s = refl
sum_elsewhere false true = refl
sum_elsewhere false false = refl

-- below three names
abbrev level_3 : Bool → Bool → Level
level_3 a b = if a then in_image else if b then in_image else elsewhere

its_3 : (a b : Bool) (x : List ℕ) → role_at (level_3 a b) x ≡ (if a then sum_role (is_hash x) (is_signature x) else if b then sum_role (is_hash x) (is_signature x) else role.Other)
its_3 true b x = refl
its_3 false true x = refl
its_3 false false x = refl

under_3 : (a b : Bool) (x : List ℕ) → level_in (role_at (level_3 a b) x) ≡ elsewhere
under_3 true b x = sum_elsewhere (is_hash x) (is_signature x)
under_3 false true x = sum_elsewhere (is_hash x) (is_signature x)
under_3 false false x = refl

after_3 : (a b : Bool) (x : List ℕ) → level_after (level_3 a b) x ≡ level_3 a b
after_3 true b x = refl
after_3 false true x = refl
after_3 false false x = refl

third : (y z r : List ℕ) (parent : Option ℕ) (i : ℕ) (t : Siblings) → roles (rows (level_3 (is_images z) (is_configurations z)) parent i t) ≡ map role_of (paths (y ∷ z ∷ r ∷ []) t)
third y z r parent i none = nothing (level_3 (is_images z) (is_configurations z)) parent i (y ∷ z ∷ r ∷ [])
third y z r parent i (node at name own below after) =
    let a = is_images z in
    let b = is_configurations z in
    one_more (level_3 a b) parent i at name (y ∷ z ∷ r ∷ []) own below after (its_3 a b name)
    (ap (λ (l : Level). roles (rows l (Some i) (i + 1) below)) (under_3 a b name) ∙ far name y z r [] (Some i) (i + 1) below)
    (ap (λ (l : Level). roles (rows l parent (i + (1 + size below)) after)) (after_3 a b name) ∙ third y z r parent (i + (1 + size below)) after)

-- below two names
abbrev level_2 : Bool → Bool → Level
level_2 a b = if a then in_images else if b then in_configurations else elsewhere

its_2 : (a b : Bool) (x : List ℕ) → role_at (level_2 a b) x ≡ (if a then role.Image else if b then role.Configuration else role.Other)
its_2 true b x = refl
its_2 false true x = refl
its_2 false false x = refl

under_2 : (a b : Bool) (x : List ℕ) → level_in (role_at (level_2 a b) x) ≡ level_3 a b
under_2 true b x = refl
under_2 false true x = refl
under_2 false false x = refl

after_2 : (a b : Bool) (x : List ℕ) → level_after (level_2 a b) x ≡ level_2 a b
after_2 true b x = refl
after_2 false true x = refl
after_2 false false x = refl

second : (z r : List ℕ) (parent : Option ℕ) (i : ℕ) (t : Siblings) → roles (rows (level_2 (is_images z) (is_configurations z)) parent i t) ≡ map role_of (paths (z ∷ r ∷ []) t)
second z r parent i none = nothing (level_2 (is_images z) (is_configurations z)) parent i (z ∷ r ∷ [])
second z r parent i (node at name own below after) =
    let a = is_images z in
    let b = is_configurations z in
    one_more (level_2 a b) parent i at name (z ∷ r ∷ []) own below after (its_2 a b name)
    (ap (λ (l : Level). roles (rows l (Some i) (i + 1) below)) (under_2 a b name) ∙ third name z r (Some i) (i + 1) below)
    (ap (λ (l : Level). roles (rows l parent (i + (1 + size below)) after)) (after_2 a b name) ∙ second z r parent (i + (1 + size below)) after)

-- below the root
off_true : {A : Type 0} → true ≡ false → A
off_true h = absurd (grind (arith, h))

its_1 : (h k a b : Bool) → (h && a) ≡ false → (k && b) ≡ false → root_child h k a b ≡ (if a then role.Images else if b then role.Configurations else role.Other)
its_1 false k true b p q = refl
its_1 true k true b p q = off_true p
its_1 h false false true p q = refl
its_1 h true false true p q = off_true q
its_1 h k false false p q = refl

under_1 : (a b : Bool) → level_in (if a then role.Images else if b then role.Configurations else role.Other) ≡ level_2 a b
under_1 true b = refl
under_1 false true = refl
under_1 false false = refl

first : (r : List ℕ) (h k : Bool) (parent : Option ℕ) (i : ℕ) (t : Siblings) → AreSingle h k t → roles (rows (in_root h k) parent i t) ≡ map role_of (paths (r ∷ []) t)
first r h k parent i none single = nothing (in_root h k) parent i (r ∷ [])
first r h k parent i (node at name own below after) single =
    let a = is_images name in
    let b = is_configurations name in
    let its = its_1 h k a b single.0 single.1 in
    one_more (in_root h k) parent i at name (r ∷ []) own below after its
    (ap (λ (l : Level). roles (rows l (Some i) (i + 1) below)) (ap level_in its ∙ under_1 a b) ∙ second name r (Some i) (i + 1) below)
    (first r (h || a) (k || b) parent (i + (1 + size below)) after single.2)

-- each node's role is that of its path
pub roles_of_paths : (t : Siblings) → IsSingle t → map (λ (r : Row). r.role) (table t) ≡ map role_of (paths [] t)
roles_of_paths none single = nothing top None 0 []
roles_of_paths (node at name own below after) single =
    one_more top None 0 at name [] own below after refl (first name false false (Some 0) (0 + 1) below single.0)
    (ap (λ (t : Siblings). roles (rows top None (0 + (1 + size below)) t)) single.1 ∙ nothing top None (0 + (1 + size below)) [] ∙ sym (ap (λ (t : Siblings). map role_of (paths [] t)) single.1))
