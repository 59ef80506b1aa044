-- The folder of a path ends with its last slash.
use Rattle.std.proofs.Common.{◌≡◌, ◌≢◌, ◌<◌, ◌≤◌, ℕ, zero, suc, ◌+◌, List, [], ◌∷◌, length, take, get_or, true, false, ◌==◌, Option, Some, None, refl, arith}
use Rattle.std.specs.List.{list_any}
use Rattle.std.proofs.{lemmas.List.Folds.list_any_at, lemmas.Bool.ne_eqb}
use Rattle.uimg_requests.specs.Requests.{folder_of}

no_slash : (path : List ℕ) → ((i : ℕ) → i < length path → get_or path i 0 ≢ 47) → list_any (λ b. b == 47) path ≡ false
no_slash [] h = refl
no_slash (b ∷ more) h = rw (ne_eqb b 47 (h 0 (omega arith)), no_slash more (λ i l. h (suc i) (omega arith))) refl

-- without a slash
pub no_folder : (path : List ℕ) → ((i : ℕ) → i < length path → get_or path i 0 ≢ 47) → folder_of path ≡ []
unfolding folder_of
no_folder [] h = refl
no_folder (b ∷ more) h = rw (no_slash (b ∷ more) h) refl

-- with its last slash at an index
pub folder_to : (path : List ℕ) (k : ℕ) → k < length path → get_or path k 0 ≡ 47 → ((i : ℕ) → k < i → i < length path → get_or path i 0 ≢ 47) → folder_of path ≡ take (k + 1) path
unfolding folder_of
folder_to [] k l at last = absurd (omega arith)
folder_to (b ∷ more) zero l at last =
    let some : list_any (λ x. x == 47) (b ∷ more) ≡ true = list_any_at (λ x. x == 47) (b ∷ more) 0 0 l (rw at refl) in
    let rest : folder_of more ≡ [] = no_folder more (λ i l. last (suc i) (omega arith) (omega arith)) in
    rw (some, rest) refl
folder_to (b ∷ more) (suc k) l at last =
    let some : list_any (λ x. x == 47) (b ∷ more) ≡ true = list_any_at (λ x. x == 47) (b ∷ more) (suc k) 0 l (rw at refl) in
    let rest : folder_of more ≡ take (k + 1) more = folder_to more k (omega arith) at (λ i a l. last (suc i) (omega arith) (omega arith)) in
    let next : suc k + 1 ≡ suc (k + 1) = omega arith in
    rw (some, rest, next) refl
