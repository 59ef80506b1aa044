-- The roles of the nodes that a pass enters.
use Rattle.std.proofs.Common.{◌≡◌, ◌+◌, ℕ, List, [], ◌∷◌, ◌++◌, length, map, Some, Bool, true, false, refl, ap, sym, ◌∙◌, if◌then◌else◌, get_or, arith}
use Rattle.std.{specs.List.slice_get, proofs.lemmas.{List.map-append, Option.get_or_from_slice_get}}
use Rattle.std.proofs.Math.Seq.{get_or-append_seam}
use Rattle.uimg_blob_reading.specs.{declared.roles.Role.Role, Tokens.Property, Walk.{Open, opened}}
use Rattle.uimg_blob_reading.specs.{Grammar.{Siblings, none, node}, Kept.{Kept, kept, entry_of}}
use Rattle.uimg_blob_reading.specs.Passes.{root_level, child_level}
use Rattle.uimg_blob_reading.specs.declared.roles.Role.TheVariants.{Root, Images, Image, Hash, Signature, Configurations, Configuration, Other}
use Rattle.uimg_blob_reading.specs.Roles.{Level, top, in_root, in_images, in_image, in_configurations, elsewhere, role_at, root_child, sum_role, level_in, level_after}
use Rattle.uimg_blob_reading.specs.SoFar.{next_number, level_past, next_level, open_row, so_far, entries_so_far}
use Rattle.uimg_blob_reading.proofs.{SoFarLaws.length_so_far, EntryLaws.length_entries}
use Rattle.uimg_blob_reading.proofs.PhaseLaws.{true_false}

-- the entry of the innermost node
pub row_at : (ls : List Open) (at n : ℕ) (name : List ℕ) (own : List Property) (below : Siblings) (es : List (List ℕ)) (e : List ℕ)
    → es ≡ entries_so_far (opened at name own below ∷ ls) → slice_get es n ≡ Some e → n ≡ next_number ls → e ≡ entry_of (open_row ls at name own)
unfolding so_far
row_at ls at n name own below es e old read is =
    let under : List Kept = kept (level_in (role_at (next_level ls) name)) (Some (next_number ls)) (next_number ls + 1) below in
    let row : Kept = open_row ls at name own in
    let long : length (entries_so_far ls) ≡ next_number ls = length_entries (so_far ls) ∙ length_so_far ls in
    sym (get_or_from_slice_get es n e [] read)
    ∙ ap (λ (x : List (List ℕ)). get_or x n []) (old ∙ map-append entry_of (so_far ls) (row ∷ under))
    ∙ ap (λ (i : ℕ). get_or (entries_so_far ls ++ entry_of row ∷ map entry_of under) i []) (is ∙ sym long)
    ∙ get_or-append_seam (entries_so_far ls) (entry_of row) (map entry_of under) []

abbrev is_top : Level → Bool
is_top top = true
is_top (in_root a b) = false
is_top in_images = false
is_top in_image = false
is_top in_configurations = false
is_top elsewhere = false

abbrev pub is_root : Role → Bool
is_root Root = true
is_root Images = false
is_root Image = false
is_root Hash = false
is_root Signature = false
is_root Configurations = false
is_root Configuration = false
is_root Other = false

after_not_top : (l : Level) (name : List ℕ) → is_top l ≡ false → is_top (level_after l name) ≡ false
after_not_top l name h = grind arith

past_not_top : (l : Level) (b : Siblings) → is_top l ≡ false → is_top (level_past l b) ≡ false
unfolding level_past
past_not_top l none h = h
past_not_top l (node at name own below next) h = past_not_top (level_after l name) next (after_not_top l name h)

in_not_top : (r : Role) → is_top (level_in r) ≡ false
in_not_top r = grind arith

root_child_not : (a b c d : Bool) → is_root (root_child a b c d) ≡ false
root_child_not a b c d = grind arith

sum_not : (a b : Bool) → is_root (sum_role a b) ≡ false
sum_not a b = grind arith

role_not_root : (l : Level) (name : List ℕ) → is_top l ≡ false → is_root (role_at l name) ≡ false
role_not_root l name h = grind (arith, sum_not, root_child_not, true_false)

past_same : (l : Level) (b : Siblings) → ((name : List ℕ) → level_after l name ≡ l) → level_past l b ≡ l
unfolding level_past
past_same l none same = refl
past_same l (node at name own below next) same = ap (λ (k : Level). level_past k next) (same name) ∙ past_same l next same

past_child : (r : Role) (b : Siblings) (hi hc : Bool) → is_root r ≡ false → level_past (level_in r) b ≡ child_level r hi hc
past_child r b hi hc h = grind (arith, past_same, true_false)

pub inner_not_root : (ls : List Open) (at : ℕ) (name : List ℕ) (own : List Property) (below : Siblings) (inner : List ℕ)
    → is_root (role_at (next_level (opened at name own below ∷ ls)) inner) ≡ false
unfolding next_level
inner_not_root ls at name own below inner =
    role_not_root (next_level (opened at name own below ∷ ls)) inner (past_not_top (level_in (role_at (next_level ls) name)) below (in_not_top (role_at (next_level ls) name)))

-- where the innermost node's children stand, by its role and what the root had
pub level_is : (ls : List Open) (at : ℕ) (name : List ℕ) (own : List Property) (below : Siblings) (hi hc : Bool)
    → root_level (opened at name own below ∷ ls) ≡ in_root hi hc → next_level (opened at name own below ∷ ls) ≡ child_level (role_at (next_level ls) name) hi hc
unfolding next_level
level_is [] at name own below hi hc h = h
level_is (opened at' name' own' below' ∷ ls) at name own below hi hc h =
    past_child (role_at (next_level (opened at' name' own' below' ∷ ls)) name) below hi hc
    (role_not_root (next_level (opened at' name' own' below' ∷ ls)) name (past_not_top (level_in (role_at (next_level ls) name')) below' (in_not_top (role_at (next_level ls) name'))))
