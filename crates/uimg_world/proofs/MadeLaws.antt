-- What a map of paths has after a change.
use Rattle.std.proofs.Common.{◌≡◌, ℕ, List, bytes_eq, string_bytes, Bool, true, false, Option, Some, refl, ap, subst, ◌∙◌, if◌then◌else◌, Vec, String}
use Rattle.std.specs.BTreeMap.{BTreeMap, UpdatesBy, get_by_text}
use Rattle.std.specs.Cmp.Lexicographic.{slice_cmp}
use Rattle.std.specs.Option.{option_map}
use Rattle.std.specs.Ordering.{nat_cmp}
use Rattle.std.specs.String.{string_cmp}
use Rattle.std.proofs.lemmas.Map.Text.{btree_map_updates_text}
use Rattle.uimg_world.specs.Made.{MadeBut}

either : {A B : Type 0} (f : A → B) (is : Bool) (one other : A) → f (if is then one else other) ≡ (if is then f one else f other)
either f true one other = refl
either f false one other = refl

pub made_but : {Y Z : Type 0} (old new : BTreeMap (String Y) (Option (Vec ℕ Z))) (path : List ℕ) (found : Option (Option (Vec ℕ Z))) → UpdatesBy string_cmp (λ key. slice_cmp nat_cmp path (string_bytes key)) old new found → MadeBut old new path (option_map (option_map (λ bytes. bytes.items)) found)
made_but old new path found updates = λ asked.
    ap (option_map (option_map (λ bytes. bytes.items))) (btree_map_updates_text path old new found updates asked)
    ∙ either (option_map (option_map (λ bytes. bytes.items))) (bytes_eq path asked) found (get_by_text old asked)

-- the same of a key and a value that are copies
pub made_put : {Y Z : Type 0} (old new : BTreeMap (String Y) (Option (Vec ℕ Z))) (key path : List ℕ) (found : Option (Vec ℕ Z)) (bytes : Option (List ℕ)) → key ≡ path → option_map (λ it. it.items) found ≡ bytes → UpdatesBy string_cmp (λ other. slice_cmp nat_cmp key (string_bytes other)) old new (Some found) → MadeBut old new path (Some bytes)
made_put old new key path found bytes same copied updates =
    subst (λ (it : Option (List ℕ)). MadeBut old new path (Some it)) copied
    (subst (λ (it : List ℕ). MadeBut old new it (Some (option_map (λ its. its.items) found))) same (made_but old new key (Some found) updates))
