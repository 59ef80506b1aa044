-- What follows the letter that a text begins with.
use Rattle.std.proofs.Common.{◌≡◌, ◌≢◌, ◌==◌, ◌<◌, ◌+◌, ℕ, Bool, true, false, refl, ap, rules, arith, [], ◌∷◌, Option, Some, None, length, option_map, drop, MatchOption}
use Rattle.std.specs.Borrow.{Bor}
use Rattle.std.specs.Str.Pattern.{FindsCharPrefix}
use Rattle.std.proofs.lemmas.Str.Pattern.{strip_prefix_char}
use Rattle.uimg_compat.specs.Getopt.{Text, behind}

abbrev Cut : ℕ → Text → Option (Bor Text) → Type 0
Cut letter text r = MatchOption r ((rest : Text) → text ≢ letter ∷ rest) (λ x. text ≡ letter ∷ x.now)

cut_is : (letter : ℕ) (text : Text) (r : Option (Bor Text)) → letter < 128 → Cut letter text r → option_map (λ rest. rest.now) r ≡ behind letter text
cut_is letter text (Some rest) ascii h = rw h (search (rules, arith))
cut_is letter [] None ascii h = refl
cut_is letter (x ∷ rest) None ascii h = go (x == letter) refl where
  go : (b : Bool) → (x == letter) ≡ b → None ≡ behind letter (x ∷ rest)
  go false e = rw e refl
  go true e = let same : x ≡ letter = search (rules, arith) in absurd (h rest (ap (λ l. l ∷ rest) same))

pub behind_is : (letter : ℕ) (text : Text) (r : Option (Bor Text))
    → MatchOption r (FindsCharPrefix letter text None) (λ x. (n : ℕ) × FindsCharPrefix letter text (Some n) × (x.now ≡ drop n text) × (length x.now + n ≡ length text))
    → letter < 128 → option_map (λ rest. rest.now) r ≡ behind letter text
behind_is letter text r h ascii = cut_is letter text r ascii (strip_prefix_char letter text r h ascii)
