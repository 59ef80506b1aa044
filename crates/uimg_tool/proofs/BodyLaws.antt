-- The bytes after the room for a header.
use Rattle.std.proofs.Common.{◌≡◌, ◌+◌, ◌-◌, ◌∙◌, ℕ, List, length, drop, take, ap, arith}
use Rattle.std.proofs.lemmas.List.{drop-drop, length-drop}

pub rest_length : (count : ℕ) (bytes : List ℕ) → length (drop count bytes) ≡ length bytes - count
rest_length count bytes = length-drop count bytes

pub part_of_rest : (bytes : List ℕ) (skipped at count : ℕ) → take count (drop at (drop skipped bytes)) ≡ take count (drop (at + skipped) bytes)
part_of_rest bytes skipped at count =
    let e : skipped + at ≡ at + skipped = omega arith in
    ap (λ (l : List ℕ). take count l) (drop-drop at skipped bytes ∙ ap (λ (n : ℕ). drop n bytes) e)
