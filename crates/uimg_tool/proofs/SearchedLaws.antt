-- What follows the last mark, and the folder, piece by piece.
use Rattle.std.proofs.Common.{arith, ◌≡◌, ◌++◌, ◌∷◌, ◌==◌, ◌||◌, ℕ, List, [], true, false, Option, Some, None, refl, length}
use Rattle.std.specs.List.{list_any}
use Rattle.uimg_tool.specs.SearchedNames.{or_else, own_in, or_own, after_mark, folder_in}

or_else_own : (later one : Option (List ℕ)) (own : List ℕ) → or_own (or_else later one) own ≡ or_own later (or_own one own)
or_else_own (Some found) one own = refl
or_else_own None one own = refl

-- a mark counts unless one follows
pub one_more : (byte : ℕ) (rest own : List ℕ) → or_own (own_in (byte ∷ rest)) own ≡ or_own (own_in rest) (or_own (after_mark (byte ∷ rest)) own)
unfolding own_in
one_more byte rest own = or_else_own (own_in rest) (after_mark (byte ∷ rest)) own

any_last : (byte : ℕ) (rest : List ℕ) → list_any (λ b. b == 47) (rest ++ byte ∷ []) ≡ (list_any (λ b. b == 47) rest || (byte == 47))
any_last byte [] = grind arith
any_last byte (first ∷ rest) = let e = any_last byte rest in grind arith

-- a last byte that is no slash is in no folder
pub without_last : (byte : ℕ) (rest : List ℕ) → (byte == 47) ≡ false → folder_in (rest ++ byte ∷ []) ≡ folder_in rest
unfolding folder_in
without_last byte [] other = grind arith
without_last byte (first ∷ rest) other = let e = any_last byte (first ∷ rest) in let f = without_last byte rest other in grind arith

pub up_to_slash : (byte : ℕ) (rest : List ℕ) → (byte == 47) ≡ true → folder_in (rest ++ byte ∷ []) ≡ rest ++ byte ∷ []
unfolding folder_in
up_to_slash byte [] is = grind arith
up_to_slash byte (first ∷ rest) is = let e = any_last byte (first ∷ rest) in let f = up_to_slash byte rest is in grind arith

pub nothing_left : (rest own : List ℕ) → length rest ≡ 0 → or_own (own_in rest) own ≡ own
unfolding own_in
nothing_left [] own empty = refl
nothing_left (byte ∷ rest) own empty = absurd (grind arith)

pub no_folder : (name : List ℕ) → length name ≡ 0 → folder_in name ≡ name
unfolding folder_in
no_folder [] empty = refl
no_folder (byte ∷ rest) empty = absurd (grind arith)
