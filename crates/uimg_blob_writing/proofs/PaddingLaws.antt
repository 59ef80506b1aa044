-- The zeros behind a name and behind a value.
use Rattle.std.proofs.Common.{◌++◌, ◌∷◌, ◌≡◌, ◌<◌, ◌-◌, ◌%◌, List, ℕ, zero, suc, [], length, take, replicate, append-nil, append_assoc, ◌∙◌, ap, sym, refl, length-append, arith}
use Rattle.uimg_texts.specs.Numbers.{up4}
use Rattle.uimg_blob_writing.specs.Encoding.{padded, with_nul}

-- the first of four zeros
pub zeros-first : (n : ℕ) → n < 4 → take {A = ℕ} n (0 ∷ 0 ∷ 0 ∷ 0 ∷ []) ≡ replicate n 0
zeros-first zero h = refl
zeros-first (suc zero) h = refl
zeros-first (suc (suc zero)) h = refl
zeros-first (suc (suc (suc zero))) h = refl
zeros-first (suc (suc (suc (suc n)))) h = absurd (omega (arith, h))

zeros-behind : (r k : ℕ) → r < 4 → k ≡ 3 - r → take {A = ℕ} (4 - r) (0 ∷ 0 ∷ 0 ∷ 0 ∷ []) ≡ 0 ∷ replicate k 0
zeros-behind zero k h e = ap (λ (n : ℕ). 0 ∷ replicate n 0) (sym e)
zeros-behind (suc zero) k h e = ap (λ (n : ℕ). 0 ∷ replicate n 0) (sym e)
zeros-behind (suc (suc zero)) k h e = ap (λ (n : ℕ). 0 ∷ replicate n 0) (sym e)
zeros-behind (suc (suc (suc zero))) k h e = ap (λ (n : ℕ). 0 ∷ replicate n 0) (sym e)
zeros-behind (suc (suc (suc (suc r)))) k h e = absurd (omega (arith, h))

-- a name, its NUL and the zeros behind that
pub name-padded : (name : List ℕ) → name ++ (take {A = ℕ} (4 - length name % 4) (0 ∷ 0 ∷ 0 ∷ 0 ∷ []) ++ []) ≡ padded (with_nul name)
name-padded name =
    let k = up4 (length (with_nul name)) - length (with_nul name) in
    let rest : k ≡ 3 - length name % 4 = omega (arith, length-append name (0 ∷ [])) in
    let small : length name % 4 < 4 = omega arith in
    ap (λ (w : List ℕ). name ++ w) (append-nil (take {A = ℕ} (4 - length name % 4) (0 ∷ 0 ∷ 0 ∷ 0 ∷ [])) ∙ zeros-behind (length name % 4) k small rest)
    ∙ sym (append_assoc name (0 ∷ []) (replicate k 0))
