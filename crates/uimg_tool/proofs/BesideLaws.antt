-- Files beside a path, by their numbers.
use Rattle.std.proofs.Common.{◌≡◌, ℕ, ◌+◌, List, ◌∷◌, ◌++◌, true, false, refl, ap, ◌∙◌, add-one, codes, decimal}
use Rattle.std.specs.{List.list_all, Option.option_map_or}
use Rattle.uimg_unpacking.proofs.Placing.{are_digits, behind-self}
use Rattle.uimg_world.specs.Deeds.{Creates, Deed}
use Rattle.uimg_world.specs.declared.call.Answer.TheVariants.{Exists}
use Rattle.uimg_unpacking.specs.Places.{is_digit}
use Rattle.uimg_tool.specs.{BesidePaths.is_beside, Writings.{beside, tried}}

pub numbered : (path : List ℕ) (number : ℕ) → is_beside path (path ++ codes ".uimg-new" ++ decimal number) ≡ true
unfolding is_beside
numbered path number =
    ap (λ o. option_map_or (list_all is_digit) o false) (behind-self (path ++ codes ".uimg-new") (decimal number)) ∙ are_digits number

-- none was tried
pub none_tried : (path : List ℕ) (before : List Deed) → tried path 0 before ≡ before
unfolding tried
none_tried path before = refl

-- one more was tried
pub next_tried : (path : List ℕ) (number : ℕ) (before : List Deed) → tried path (number + 1) before ≡ Creates (beside path (number + 1)) Exists ∷ tried path number before
unfolding tried
next_tried path number before = ap (λ (n : ℕ). tried path n before) (add-one number)
