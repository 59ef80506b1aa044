-- The first thing that is found.
use Rattle.std.proofs.Common.{◌≡◌, ℕ, List, [], ◌∷◌, Option, Some, None, true, false, is_some, ap, sym, ◌∙◌}
use Rattle.std.specs.Option.{option_map}
use Rattle.std.proofs.lemmas.Bool.{false≢true}
use Rattle.uimg_blob_reading.specs.Grammar.{Siblings}
use Rattle.uimg_blob_reading.specs.LookUps.{NodeOf}
use Rattle.uimg_blob_reading.specs.Roles.{in_images}
use Rattle.uimg_blob_reading.specs.Spots.{Spot}
use Rattle.uimg_fit_reading.specs.Nodes.{AreFrom}
use Rattle.uimg_strict.specs.Looseness.{or_then, first_found, loose_image}

-- nothing is found in an element, so the others decide
pub passed : {X Y Z : Type 0} (f : X → Option Y) (read : Z → Y) (xs left more : List X) (x : X) (o : Option Z)
    → first_found f left ≡ first_found f xs → left ≡ x ∷ more → is_some o ≡ false → option_map read o ≡ f x → first_found f more ≡ first_found f xs
unfolding first_found
passed f read xs left more x None so are none told = ap (λ o. or_then o (first_found f more)) told ∙ ap (first_found f) (sym are) ∙ so
passed f read xs left more x (Some z) so are none told = absurd (false≢true (sym none))

-- something is found in an element
pub found : {X Y Z : Type 0} (f : X → Option Y) (read : Z → Y) (xs left more : List X) (x : X) (o : Option Z)
    → first_found f left ≡ first_found f xs → left ≡ x ∷ more → is_some o ≡ true → option_map read o ≡ f x → option_map read o ≡ first_found f xs
unfolding first_found
found f read xs left more x None so are some told = absurd (false≢true some)
found f read xs left more x (Some z) so are some told = ap (λ o. or_then o (first_found f more)) told ∙ ap (first_found f) (sym are) ∙ so

-- nothing is left
pub nothing : {X Y : Type 0} (f : X → Option Y) (xs left : List X) → first_found f left ≡ first_found f xs → left ≡ [] → None ≡ first_found f xs
unfolding first_found
nothing f xs left so none = ap (first_found f) (sym none) ∙ so

-- The images from a number on, of which the first thing refused is that of all.
pub record LeftImages (t : Siblings) (next : Option ℕ) (all : List (NodeOf Spot)) : Type 0 where
  pub left : List (NodeOf Spot)
  pub from : AreFrom t in_images next left
  pub is : first_found loose_image left ≡ first_found loose_image all

-- nothing is found in two of three
pub third : {Y Z : Type 0} (read : Z → Y) (x y z : Option Z) (a b c : Option Y) → is_some x ≡ false → option_map read x ≡ a → is_some y ≡ false → option_map read y ≡ b
    → option_map read z ≡ c → option_map read z ≡ or_then a (or_then b c)
third read None None z a b c no_x is_a no_y is_b is_c = is_c ∙ ap (λ o. or_then o c) is_b ∙ ap (λ o. or_then o (or_then b c)) is_a
third read (Some x) y z a b c no_x is_a no_y is_b is_c = absurd (false≢true (sym no_x))
third read None (Some y) z a b c no_x is_a no_y is_b is_c = absurd (false≢true (sym no_y))

-- nothing is found in three of four
pub fourth : {Y Z : Type 0} (read : Z → Y) (w x y z : Option Z) (a b c d : Option Y) → is_some w ≡ false → option_map read w ≡ a → is_some x ≡ false → option_map read x ≡ b
    → is_some y ≡ false → option_map read y ≡ c → option_map read z ≡ d → option_map read z ≡ or_then a (or_then b (or_then c d))
fourth read None x y z a b c d no_w is_a no_x is_b no_y is_c is_d = third read x y z b c d no_x is_b no_y is_c is_d ∙ ap (λ o. or_then o (or_then b (or_then c d))) is_a
fourth read (Some w) x y z a b c d no_w is_a no_x is_b no_y is_c is_d = absurd (false≢true (sym no_w))

-- something is found in the third
some_first : {Y Z : Type 0} (read : Z → Y) (z : Option Z) (c d : Option Y) → is_some z ≡ true → option_map read z ≡ c → option_map read z ≡ or_then c d
some_first read None c d some is = absurd (false≢true some)
some_first read (Some z) c d some is = ap (λ o. or_then o d) is

pub third_found : {Y Z : Type 0} (read : Z → Y) (x y z : Option Z) (a b c d : Option Y) → is_some x ≡ false → option_map read x ≡ a → is_some y ≡ false → option_map read y ≡ b
    → is_some z ≡ true → option_map read z ≡ c → option_map read z ≡ or_then a (or_then b (or_then c d))
third_found read x y z a b c d no_x is_a no_y is_b some is_c = third read x y z a b (or_then c d) no_x is_a no_y is_b (some_first read z c d some is_c)
