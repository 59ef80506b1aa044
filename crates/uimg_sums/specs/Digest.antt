-- What the end of a sum writes.
use Rattle.std.specs.Prelude.{◌≡◌, ℕ, List, ◌++◌, length, drop}

-- the array begins with the digest, n is its length, and the rest is unchanged
abbrev pub PutsDigest : List ℕ → List ℕ → List ℕ → ℕ → Type 0
PutsDigest digest old new n = (n ≡ length digest) × (new ≡ digest ++ drop n old)
