-- Where strictness refuses nothing, U-Boot reads a FIT image as a check does.
use Rattle.std.proofs.Common.{◌≡◌, ◌&&◌, ℕ, List, [], Option, Some, None, Result, Ok, Bool, true, is_some, codes, refl, ap, sym, ◌∙◌, subst}
use Rattle.std.specs.List.{AllByRecursion}
use Rattle.std.specs.Option.{option_map, option_and_then}
use Rattle.uimg_blob_reading.specs.Blob.{tree}
use Rattle.uimg_blob_reading.specs.Grammar.{Siblings}
use Rattle.uimg_blob_reading.specs.LookUps.{NodeOf, listed, first, child, images, hashes}
use Rattle.uimg_blob_reading.specs.Plain.{NamedOf, NodesOf, no_node, a_node}
use Rattle.uimg_blob_reading.specs.Spots.{Spot, spots}
use Rattle.uimg_blob_reading.proofs.PhaseLaws.{some_none, some_some}
use Rattle.std.specs.Result.{IfOk}
use Rattle.uimg_fit_base.specs.Lying.{Lie}
use Rattle.uimg_fit_base.proofs.ReadLaws.{tree-lies}
use Rattle.uimg_strict.specs.Looseness.{first_found, loose_root, loose_image, loose_in}
use Rattle.uimg_fit_base.specs.Files.{root_own, value_bytes}
use Rattle.uimg_strict.specs.UBoot.{has_no_at, subnode, path, image_found, hashes_compared}
use Rattle.uimg_strict.specs.Readings.{SamePayload, ReadsSame}
use Rattle.uimg_strict.proofs.CleanLaws.{Clean, none_first, none_later, none_found, all_clean, all_no_at, same_subnode, same_images, same_hashes, clean_below, loose_found, no_again, find_each}
use Rattle.uimg_strict.proofs.PayloadLaws.{AreThere, same_payloads, there_below, spots_there}

-- a root with both its properties
both_some : (d s : Option (List ℕ)) → loose_root d s ≡ None → (is_some d ≡ true) × (is_some s ≡ true)
both_some None s is = absurd (some_none is)
both_some (Some d) None is = absurd (some_none is)
both_some (Some d) (Some s) is = (refl, refl)

has_value : (own : List (NamedOf Spot)) (key : List ℕ) → is_some (value_bytes own key) ≡ is_some (first own key)
has_value own key = by_option (first own key)
  where
    by_option : (o : Option Spot) → is_some (option_map (λ s. s.bytes) o) ≡ is_some o
    by_option None = refl
    by_option (Some s) = refl

all_four : (a b c d : Bool) → a ≡ true → b ≡ true → c ≡ true → d ≡ true → (a && (b && (c && d))) ≡ true
all_four a b c d p q r s = ap (λ x. x && (b && (c && d))) p ∙ ap (λ x. x && (c && d)) q ∙ ap (λ x. x && d) r ∙ s

-- by the node `images`
by_node : (file : List ℕ) (t : NodesOf Spot) (found : List (NodeOf Spot)) → Clean t → AreThere file t → (o : Option (NodeOf Spot)) → child t (codes "images") ≡ o
    → option_map (λ n. listed n.below) o ≡ Some found → loose_root (value_bytes (root_own t) (codes "description")) (value_bytes (root_own t) (codes "timestamp")) ≡ None
    → first_found loose_image found ≡ None → ReadsSame file t found
by_node file t found clean there None is are root strict = absurd (some_none (sym are))
by_node file no_node found clean there (Some n) is are root strict = absurd (some_none (sym is))
by_node file (a_node name own below after) found clean there (Some n) is are root strict =
    let t : NodesOf Spot = a_node name own below after in
    let same : listed n.below ≡ found = some_some _ _ are in
    let none = none_found loose_image (listed n.below) (ap (first_found loose_image) same ∙ strict) in
    let inner = clean_below below clean.1 (codes "images") n is in
    let here : path t (codes "images") ≡ Some n = same_subnode below clean.1 (codes "images") ∙ is in
    let roots = both_some _ _ root in
    record {
      format = all_four (has_no_at t) _ _ (is_some (path t (codes "images"))) (all_no_at t clean)
          (sym (has_value own (codes "description")) ∙ roots.0) (sym (has_value own (codes "timestamp")) ∙ roots.1) (ap is_some here);
      images = same_images t clean ∙ ap (option_map (λ c. listed c.below)) is ∙ are;
      named = subst (λ (l : List (NodeOf Spot)). AllByRecursion (λ image. image_found t image.name ≡ Some image) l) same
          (find_each [] (listed n.below) (no_again n (loose_found below clean.1 (codes "images") n is)) (image_found t)
          (λ key other. ap (option_and_then (λ c. subnode c.below key)) here ∙ same_subnode n.below inner key));
      payloads = subst (λ (l : List (NodeOf Spot)). AllByRecursion (SamePayload file) l) same (same_payloads file n.below (there_below file below there.1 (codes "images") n is) none);
      hashes = subst (λ (l : List (NodeOf Spot)). AllByRecursion (λ image. hashes_compared file image ≡ hashes image) l) same (same_hashes file n.below inner);
    }

pub reads_same : (file : List ℕ) (t : Siblings) (found : List (NodeOf Spot)) → tree file ≡ Ok t → images (spots t) ≡ Some found → loose_in file (spots t) found ≡ None → ReadsSame file (spots t) found
reads_same file t found is are strict =
    let after_root = none_later _ _ strict in
    let clean = all_clean (spots t) (none_first _ _ after_root) in
    let loose = none_first _ _ (none_later _ _ after_root) in
    by_node file (spots t) found clean (spots_there file t (subst (λ (r : Result Siblings (_)). IfOk r (Lie file)) is (tree-lies file))) (child (spots t) (codes "images")) refl are (none_first _ _ strict) loose
