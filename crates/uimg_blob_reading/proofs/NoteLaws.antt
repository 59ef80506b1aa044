-- The numbers of the root's `images` and `configurations`, of the nodes so far.
use Rattle.std.proofs.Common.{◌≡◌, ◌+◌, ℕ, suc, List, [], ◌∷◌, ◌++◌, length, Option, Some, None, Bool, true, false, ◌||◌, if◌then◌else◌, ap, sym, ◌∙◌, arith}
use Rattle.std.specs.{Option.{is_some, option_or}, Prelude.codes}
use Rattle.std.proofs.lemmas.Slice.Eq.{bytes_eq-Decides}
use Rattle.uimg_blob_reading.specs.declared.roles.Role.{Role}
use Rattle.uimg_blob_reading.specs.{Grammar.none, Kept.{Kept, number_of_role}, Walk.{Open, opened}}
use Rattle.uimg_blob_reading.specs.SoFar.{next_level, level_past, so_far}
use Rattle.uimg_blob_reading.specs.Roles.{Level, in_root, role_at, root_child, sum_role, level_after, is_images, is_configurations, is_images_role, is_configurations_role}
use Rattle.uimg_blob_reading.specs.Passes.{root_level, child_level, noted_images, noted_configurations}
use Rattle.uimg_blob_reading.proofs.{SoFarLaws.{Seam, begin_row}, KeyLaws.none_from}
use Rattle.uimg_blob_reading.proofs.PhaseLaws.{true_false}
use Rattle.uimg_blob_reading.proofs.RoleLaws.{is_root, level_is, inner_not_root}

or_none : (x : Option ℕ) → option_or x None ≡ x
or_none x = grind arith

pub first_or : (b : Bool) (i : ℕ) (n m z : Option ℕ) → m ≡ option_or n z → (if b then Some i else m) ≡ option_or (if b then Some i else n) z
first_or b i n m z h = grind arith

-- with a node more
number_last : (is_it : Role → Bool) (i : ℕ) (ks : List Kept) (k : Kept)
    → number_of_role is_it i (ks ++ k ∷ []) ≡ option_or (number_of_role is_it i ks) (if is_it k.role then Some (i + length ks) else None)
number_last is_it i [] k = let e : i ≡ i + 0 = omega arith in ap (λ (n : ℕ). if is_it k.role then Some n else None) e
number_last is_it i (q ∷ ks) k =
    let e : i + 1 + length ks ≡ i + suc (length ks) = omega arith in
    first_or (is_it q.role) i (number_of_role is_it (i + 1) ks) (number_of_role is_it (i + 1) (ks ++ k ∷ [])) (if is_it k.role then Some (i + suc (length ks)) else None)
    (number_last is_it (i + 1) ks k
    ∙ ap (λ (n : ℕ). option_or (number_of_role is_it (i + 1) ks) (if is_it k.role then Some n else None)) e)

number_changed : (is_it : Role → Bool) (i : ℕ) (before after : List Kept) (row changed : Kept) → changed.role ≡ row.role
    → number_of_role is_it i (before ++ changed ∷ after) ≡ number_of_role is_it i (before ++ row ∷ after)
number_changed is_it i [] after row changed same = ap (λ (r : Role). if is_it r then Some i else number_of_role is_it (i + 1) after) same
number_changed is_it i (q ∷ before) after row changed same =
    ap (λ (o : Option ℕ). if is_it q.role then Some i else o) (number_changed is_it (i + 1) before after row changed same)

-- a change that leaves a node's role
pub seam_number : (is_it : Role → Bool) (i : ℕ) (change : Kept → Kept) (old new : List Kept) → ((k : Kept) → (change k).role ≡ k.role) → Seam i change old new
    → number_of_role is_it 0 old ≡ number_of_role is_it 0 new
seam_number is_it i change old new same s = grind (arith, number_changed)

-- a node of a role more, which is the first of its role
images_more : (role : Role) (n m : ℕ) (found number : Option ℕ) → found ≡ number → n ≡ m → (is_images_role role ≡ true → is_some found ≡ false)
    → noted_images role n found ≡ option_or number (if is_images_role role then Some m else None)
images_more role n m found number same at fresh = grind (arith, none_from, or_none)

configurations_more : (role : Role) (n m : ℕ) (found number : Option ℕ) → found ≡ number → n ≡ m → (is_configurations_role role ≡ true → is_some found ≡ false)
    → noted_configurations role n found ≡ option_or number (if is_configurations_role role then Some m else None)
configurations_more role n m found number same at fresh = grind (arith, none_from, or_none)

fresh_root_images : (a b c d : Bool) → is_images_role (root_child a b c d) ≡ true → a ≡ false
fresh_root_images a b c d h = grind (arith, true_false)

fresh_root_configurations : (a b c d : Bool) → is_configurations_role (root_child a b c d) ≡ true → b ≡ false
fresh_root_configurations a b c d h = grind (arith, true_false)

pub sum_images : (a b : Bool) → is_images_role (sum_role a b) ≡ false
sum_images a b = grind arith

pub sum_configurations : (a b : Bool) → is_configurations_role (sum_role a b) ≡ false
sum_configurations a b = grind arith

-- only children of the root are `images` or `configurations`
never_images : (r : Role) (hi hc : Bool) (name : List ℕ) → is_root r ≡ false → is_images_role (role_at (child_level r hi hc) name) ≡ false
never_images r hi hc name h = grind (arith, sum_images, true_false)

never_configurations : (r : Role) (hi hc : Bool) (name : List ℕ) → is_root r ≡ false → is_configurations_role (role_at (child_level r hi hc) name) ≡ false
never_configurations r hi hc name h = grind (arith, sum_configurations, true_false)

fresh_images_in : (r : Role) (hi hc : Bool) (name : List ℕ) → is_images_role (role_at (child_level r hi hc) name) ≡ true → hi ≡ false
fresh_images_in r hi hc name h = grind (arith, fresh_root_images, sum_images, true_false)

fresh_configurations_in : (r : Role) (hi hc : Bool) (name : List ℕ) → is_configurations_role (role_at (child_level r hi hc) name) ≡ true → hc ≡ false
fresh_configurations_in r hi hc name h =
    grind (arith, fresh_root_configurations, sum_configurations, true_false)

-- the first of its role, by what the root had
fresh_images : (ls : List Open) (name : List ℕ) (hi hc : Bool) → root_level ls ≡ in_root hi hc → is_images_role (role_at (next_level ls) name) ≡ true → hi ≡ false
unfolding next_level
fresh_images [] name hi hc marks h = absurd (true_false (sym h))
fresh_images (opened at' name' own' below' ∷ ls) name hi hc marks h =
    fresh_images_in (role_at (next_level ls) name') hi hc name
    (ap (λ l. is_images_role (role_at l name)) (sym (level_is ls at' name' own' below' hi hc marks)) ∙ h)

fresh_configurations : (ls : List Open) (name : List ℕ) (hi hc : Bool) → root_level ls ≡ in_root hi hc → is_configurations_role (role_at (next_level ls) name) ≡ true → hc ≡ false
unfolding next_level
fresh_configurations [] name hi hc marks h = absurd (true_false (sym h))
fresh_configurations (opened at' name' own' below' ∷ ls) name hi hc marks h =
    fresh_configurations_in (role_at (next_level ls) name') hi hc name
    (ap (λ l. is_configurations_role (role_at l name)) (sym (level_is ls at' name' own' below' hi hc marks)) ∙ h)

-- the numbers after a node begins
pub images_begun : (ls : List Open) (at n : ℕ) (name : List ℕ) (role : Role) (found : Option ℕ) (hc : Bool)
    → role ≡ role_at (next_level ls) name → root_level ls ≡ in_root (is_some found) hc → found ≡ number_of_role is_images_role 0 (so_far ls) → n ≡ length (so_far ls)
    → noted_images role n found ≡ number_of_role is_images_role 0 (so_far (opened at name [] none ∷ ls))
images_begun ls at n name role found hc is marks same number =
    grind (arith, begin_row, fresh_images, images_more, number_last)

pub configurations_begun : (ls : List Open) (at n : ℕ) (name : List ℕ) (role : Role) (found : Option ℕ) (hi : Bool)
    → role ≡ role_at (next_level ls) name → root_level ls ≡ in_root hi (is_some found) → found ≡ number_of_role is_configurations_role 0 (so_far ls) → n ≡ length (so_far ls)
    → noted_configurations role n found ≡ number_of_role is_configurations_role 0 (so_far (opened at name [] none ∷ ls))
configurations_begun ls at n name role found hi is marks same number =
    grind (arith, begin_row, configurations_more, fresh_configurations, number_last)

pub or_false : (x : Bool) → (x || false) ≡ x
or_false x = grind arith

pub images_not : (name : List ℕ) → is_images name ≡ true → is_configurations name ≡ false
images_not name h = ap is_configurations ((bytes_eq-Decides name (codes "images")).0 h)

-- what the root had, with a child more
marked_root : (a b : Bool) (images configurations : Option ℕ) (n : ℕ) → (a ≡ true → b ≡ false)
    → in_root (is_some images || a) (is_some configurations || b)
    ≡ in_root (is_some (noted_images (root_child (is_some images) (is_some configurations) a b) n images))
    (is_some (noted_configurations (root_child (is_some images) (is_some configurations) a b) n configurations))
marked_root a b images configurations n other = grind (arith, or_false, true_false)

unnoted_images : (role : Role) (n : ℕ) (found : Option ℕ) → is_images_role role ≡ false → noted_images role n found ≡ found
unnoted_images role n found h = grind (arith, true_false)

unnoted_configurations : (role : Role) (n : ℕ) (found : Option ℕ) → is_configurations_role role ≡ false → noted_configurations role n found ≡ found
unnoted_configurations role n found h = grind (arith, true_false)

abbrev marked : Role → ℕ → Option ℕ → Option ℕ → Level
marked role n images configurations = in_root (is_some (noted_images role n images)) (is_some (noted_configurations role n configurations))

pub marks_begin : (ls : List Open) (at n : ℕ) (name : List ℕ) (role : Role) (images configurations : Option ℕ) → role ≡ role_at (next_level ls) name
    → root_level ls ≡ in_root (is_some images) (is_some configurations)
    → root_level (opened at name [] none ∷ ls) ≡ in_root (is_some (noted_images role n images)) (is_some (noted_configurations role n configurations))
unfolding next_level level_past
marks_begin [] at n name role images configurations is h = h ∙ ap (λ (r : Role). marked r n images configurations) (sym is)
marks_begin (o ∷ []) at n name role images configurations is h =
    ap (λ (l : Level). level_after l name) h
    ∙ marked_root (is_images name) (is_configurations name) images configurations n (images_not name)
    ∙ ap (λ (r : Role). marked r n images configurations) (sym (is ∙ ap (λ (l : Level). role_at l name) h))
marks_begin (opened a b c d ∷ opened at' name' own' below' ∷ ls) at n name role images configurations is h =
    let outer : Role = role_at (next_level (opened at' name' own' below' ∷ ls)) b in
    let deep : is_root outer ≡ false = inner_not_root ls at' name' own' below' b in
    let level = level_is (opened at' name' own' below' ∷ ls) a b c d (is_some images) (is_some configurations) h in
    let same : role ≡ role_at (child_level outer (is_some images) (is_some configurations)) name = is ∙ ap (λ (l : Level). role_at l name) level in
    h ∙ ap (λ (o : Option ℕ). in_root (is_some o) (is_some configurations))
    (sym (unnoted_images role n images (ap is_images_role same ∙ never_images outer (is_some images) (is_some configurations) name deep)))
    ∙ ap (λ (o : Option ℕ). in_root (is_some (noted_images role n images)) (is_some o))
    (sym (unnoted_configurations role n configurations (ap is_configurations_role same ∙ never_configurations outer (is_some images) (is_some configurations) name deep)))
