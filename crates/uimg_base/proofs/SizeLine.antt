-- The pieces of a size's line, joined.
use Rattle.std.proofs.Common.{◌≡◌, ℕ, ◌/◌, ◌%◌, List, [], ◌++◌, codes, decimal, append_assoc, append-nil}
use Rattle.uimg_texts.specs.{Digits.two_digits, Sizes.{hundredths, size_text}}

pub size_text-parts : (n k m : ℕ) (a b c d e : List ℕ) → k ≡ hundredths n 1024 → m ≡ hundredths n 1048576 → a ≡ decimal n → b ≡ decimal (k / 100) → c ≡ two_digits (k % 100) → d ≡ decimal (m / 100) → e ≡ two_digits (m % 100)
    → a ++ (codes " Bytes = " ++ (b ++ (codes "." ++ (c ++ (codes " KiB = " ++ (d ++ (codes "." ++ (e ++ (codes " MiB" ++ []))))))))) ≡ size_text n
unfolding size_text
size_text-parts n k m a b c d e kib mib is_a is_b is_c is_d is_e =
    simp (is_a, is_b, is_c, is_d, is_e, kib, mib, append_assoc, append-nil)
