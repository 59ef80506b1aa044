-- The first node of a role is the root's first child of a name.
use Rattle.std.proofs.Common.{◌≡◌, ◌+◌, ℕ, suc, List, [], ◌∷◌, ◌++◌, length, Option, Some, None, Bool, true, false, ◌||◌, if◌then◌else◌, refl, ap, sym, ◌∙◌, arith}
use Rattle.std.specs.{Option.option_or, Prelude.{not, codes}}
use Rattle.std.proofs.lemmas.Slice.Eq.{bytes_eq-Decides}
use Rattle.uimg_blob_reading.specs.declared.roles.Role.{Role, TheVariants.{Root}}
use Rattle.uimg_blob_reading.specs.{Grammar.{Siblings, none, node}, Walk.{Open, as_node}}
use Rattle.uimg_blob_reading.specs.Rows.{size, number_named, child_number}
use Rattle.uimg_blob_reading.specs.Kept.{Kept, kept, kept_of, number_of_role}
use Rattle.uimg_blob_reading.specs.Roles.{Level, top, in_root, in_images, in_image, in_configurations, elsewhere, role_at, root_child, sum_role, level_in, level_after, is_images, is_configurations, is_images_role, is_configurations_role}
use Rattle.uimg_blob_reading.proofs.{SoFarLaws.length_kept, PhaseLaws.{true_false, by_bool}}
use Rattle.uimg_blob_reading.proofs.NoteLaws.{first_or, sum_images, sum_configurations}

number_append : (is_it : Role → Bool) (j : ℕ) (a b : List Kept) → number_of_role is_it j (a ++ b) ≡ option_or (number_of_role is_it j a) (number_of_role is_it (j + length a) b)
number_append is_it j [] b = let e : j ≡ j + 0 = omega arith in ap (λ (n : ℕ). number_of_role is_it n b) e
number_append is_it j (k ∷ a) b =
    let e : j + 1 + length a ≡ j + suc (length a) = omega arith in
    first_or (is_it k.role) j (number_of_role is_it (j + 1) a) (number_of_role is_it (j + 1) (a ++ b)) (number_of_role is_it (j + suc (length a)) b)
    (number_append is_it (j + 1) a b ∙ ap (λ (n : ℕ). option_or (number_of_role is_it (j + 1) a) (number_of_role is_it n b)) e)

-- A role, and the levels where none has it.
pub record Rare (is_it : Role → Bool) (gives : Level → Bool) : Type 0 where
  pub here : (level : Level) (name : List ℕ) → gives level ≡ false → is_it (role_at level name) ≡ false
  pub below : (level : Level) (name : List ℕ) → gives level ≡ false → gives (level_in (role_at level name)) ≡ false
  pub past : (level : Level) (name : List ℕ) → gives level ≡ false → gives (level_after level name) ≡ false

none_below : (is_it : Role → Bool) (gives : Level → Bool) → Rare is_it gives → (level : Level) (parent : Option ℕ) (i j : ℕ) (t : Siblings) → gives level ≡ false
    → number_of_role is_it j (kept level parent i t) ≡ None
unfolding kept
none_below is_it gives rare level parent i j none h = refl
none_below is_it gives rare level parent i j (node at name own below after) h =
    let under : List Kept = kept (level_in (role_at level name)) (Some i) (i + 1) below in
    let more : List Kept = kept (level_after level name) parent (i + (1 + size below)) after in
    ap (λ (b : Bool). if b then Some j else number_of_role is_it (j + 1) (under ++ more)) (rare.here level name h)
    ∙ number_append is_it (j + 1) under more
    ∙ ap (λ (o : Option ℕ). option_or o (number_of_role is_it (j + 1 + length under) more))
    (none_below is_it gives rare (level_in (role_at level name)) (Some i) (i + 1) (j + 1) below (rare.below level name h))
    ∙ none_below is_it gives rare (level_after level name) parent (i + (1 + size below)) (j + 1 + length under) after (rare.past level name h)

-- Where the first node of a role may stand: among the root's children, at that of a name.
pub record FirstOf (is_it : Role → Bool) (gives : Level → Bool) (named : List ℕ → Bool) (level : Bool → Level) : Type 0 where
  pub rare : Rare is_it gives
  pub is : (other : Bool) (name : List ℕ) → named name ≡ true → is_it (role_at (level other) name) ≡ true
  pub differs : (other : Bool) (name : List ℕ) → named name ≡ false → is_it (role_at (level other) name) ≡ false
  pub past : (other : Bool) (name : List ℕ) → named name ≡ false → (more : Bool) × (level_after (level other) name ≡ level more)
  pub under : (other : Bool) (name : List ℕ) → gives (level_in (role_at (level other) name)) ≡ false

first_is : (is_it : Role → Bool) (gives : Level → Bool) (named : List ℕ → Bool) (level : Bool → Level) → FirstOf is_it gives named level
    → (other : Bool) (parent : Option ℕ) (i : ℕ) (t : Siblings) → number_of_role is_it i (kept (level other) parent i t) ≡ number_named named i t
unfolding kept number_named
first_is is_it gives named level f other parent i none = refl
first_is is_it gives named level f other parent i (node at name own below after) =
    let under : List Kept = kept (level_in (role_at (level other) name)) (Some i) (i + 1) below in
    let more : List Kept = kept (level_after (level other) name) parent (i + (1 + size below)) after in
    by_bool (named name)
    (λ yes_named. ap (λ (b : Bool). if b then Some i else number_of_role is_it (i + 1) (under ++ more)) (f.is other name yes_named)
    ∙ sym (ap (λ (b : Bool). if b then Some i else number_named named (i + (1 + size below)) after) yes_named))
    (λ not_named.
    let next = f.past other name not_named in
    let place : i + 1 + length under ≡ i + (1 + size below) = omega (arith, length_kept (level_in (role_at (level other) name)) (Some i) (i + 1) below) in
    ap (λ (b : Bool). if b then Some i else number_of_role is_it (i + 1) (under ++ more)) (f.differs other name not_named)
    ∙ number_append is_it (i + 1) under more
    ∙ ap (λ (o : Option ℕ). option_or o (number_of_role is_it (i + 1 + length under) more))
    (none_below is_it gives f.rare (level_in (role_at (level other) name)) (Some i) (i + 1) (i + 1) below (f.under other name))
    ∙ ap (λ (n : ℕ). number_of_role is_it n more) place
    ∙ ap (λ (l : Level). number_of_role is_it (i + (1 + size below)) (kept l parent (i + (1 + size below)) after)) next.1
    ∙ first_is is_it gives named level f next.0 parent (i + (1 + size below)) after
    ∙ sym (ap (λ (b : Bool). if b then Some i else number_named named (i + (1 + size below)) after) not_named))

root_first : (is_it : Role → Bool) (gives : Level → Bool) (named : List ℕ → Bool) (level : Bool → Level) → FirstOf is_it gives named level
    → is_it Root ≡ false → level false ≡ in_root false false → (o : Open) → number_of_role is_it 0 (kept_of (as_node o)) ≡ child_number named (as_node o)
unfolding kept
root_first is_it gives named level f apart start o = grind (arith, first_is, number_append)

-- the root alone, and its children before the first of the name
abbrev gives_images : Level → Bool
gives_images top = true
gives_images (in_root had_images had_configurations) = not had_images
gives_images in_images = false
gives_images in_image = false
gives_images in_configurations = false
gives_images elsewhere = false

abbrev gives_configurations : Level → Bool
gives_configurations top = true
gives_configurations (in_root had_images had_configurations) = not had_configurations
gives_configurations in_images = false
gives_configurations in_image = false
gives_configurations in_configurations = false
gives_configurations elsewhere = false

root_other_images : (hi hc a b : Bool) → not hi ≡ false → is_images_role (root_child hi hc a b) ≡ false
root_other_images hi hc a b h = grind (arith, true_false)

root_other_configurations : (hi hc a b : Bool) → not hc ≡ false → is_configurations_role (root_child hi hc a b) ≡ false
root_other_configurations hi hc a b h = grind (arith, true_false)

in_child_images : (hi hc a b : Bool) → gives_images (level_in (root_child hi hc a b)) ≡ false
in_child_images hi hc a b = grind arith

in_child_configurations : (hi hc a b : Bool) → gives_configurations (level_in (root_child hi hc a b)) ≡ false
in_child_configurations hi hc a b = grind arith

sum_in_images : (a b : Bool) → gives_images (level_in (sum_role a b)) ≡ false
sum_in_images a b = grind arith

sum_in_configurations : (a b : Bool) → gives_configurations (level_in (sum_role a b)) ≡ false
sum_in_configurations a b = grind arith

still_had : (a b : Bool) → not a ≡ false → not (a || b) ≡ false
still_had a b h = grind (arith, true_false)

images_here : (level : Level) (name : List ℕ) → gives_images level ≡ false → is_images_role (role_at level name) ≡ false
images_here level name h = grind (arith, sum_images, root_other_images, true_false)

images_below : (level : Level) (name : List ℕ) → gives_images level ≡ false → gives_images (level_in (role_at level name)) ≡ false
images_below level name h = grind (arith, sum_in_images, in_child_images, true_false)

images_past : (level : Level) (name : List ℕ) → gives_images level ≡ false → gives_images (level_after level name) ≡ false
images_past level name h = grind (arith, still_had, true_false)

configurations_here : (level : Level) (name : List ℕ) → gives_configurations level ≡ false → is_configurations_role (role_at level name) ≡ false
configurations_here level name h =
    grind (arith, sum_configurations, root_other_configurations, true_false)

configurations_below : (level : Level) (name : List ℕ) → gives_configurations level ≡ false → gives_configurations (level_in (role_at level name)) ≡ false
configurations_below level name h =
    grind (arith, sum_in_configurations, in_child_configurations, true_false)

configurations_past : (level : Level) (name : List ℕ) → gives_configurations level ≡ false → gives_configurations (level_after level name) ≡ false
configurations_past level name h = grind (arith, still_had, true_false)

named_images : (hc a b : Bool) → a ≡ true → is_images_role (root_child false hc a b) ≡ true
named_images hc a b h = grind (arith, true_false)

other_images : (hc a b : Bool) → a ≡ false → is_images_role (root_child false hc a b) ≡ false
other_images hc a b h = grind (arith, true_false)

named_configurations : (hi a b : Bool) → a ≡ false → b ≡ true → is_configurations_role (root_child hi false a b) ≡ true
named_configurations hi a b h is = grind (arith, true_false)

other_configurations : (hi a b : Bool) → b ≡ false → is_configurations_role (root_child hi false a b) ≡ false
other_configurations hi a b h = grind (arith, true_false)

configurations_not : (name : List ℕ) → is_configurations name ≡ true → is_images name ≡ false
configurations_not name h = ap is_images ((bytes_eq-Decides name (codes "configurations")).0 h)

-- the node `images`
pub images_number : (o : Open) → number_of_role is_images_role 0 (kept_of (as_node o)) ≡ child_number is_images (as_node o)
images_number o = root_first is_images_role gives_images is_images (λ other. in_root false other) (record {
  rare = record { here = images_here; below = images_below; past = images_past };
  is = λ other name h. named_images other (is_images name) (is_configurations name) h;
  differs = λ other name h. other_images other (is_images name) (is_configurations name) h;
  past = λ other name h. (other || is_configurations name, ap (λ (b : Bool). in_root (false || b) (other || is_configurations name)) h);
  under = λ other name. in_child_images false other (is_images name) (is_configurations name);
}) refl refl o

-- the node `configurations`
pub configurations_number : (o : Open) → number_of_role is_configurations_role 0 (kept_of (as_node o)) ≡ child_number is_configurations (as_node o)
configurations_number o = root_first is_configurations_role gives_configurations is_configurations (λ other. in_root other false) (record {
  rare = record { here = configurations_here; below = configurations_below; past = configurations_past };
  is = λ other name h. named_configurations other (is_images name) (is_configurations name) (configurations_not name h) h;
  differs = λ other name h. other_configurations other (is_images name) (is_configurations name) h;
  past = λ other name h. (other || is_images name, ap (λ (b : Bool). in_root (other || is_images name) (false || b)) h);
  under = λ other name. in_child_configurations other false (is_images name) (is_configurations name);
}) refl refl o
