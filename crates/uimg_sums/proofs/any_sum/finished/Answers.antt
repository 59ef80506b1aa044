use Rattle.std.proofs.Common.{◌≡◌, ◌∙◌, ◌++◌, ◌-◌, ℕ, List, ap, replicate}
use Rattle.std.proofs.lemmas.List.{drop-replicate}
use Rattle.uimg_sums.specs.{AnySum.padded_digest, Digest.PutsDigest}
use Rattle.uimg_sums.proofs.any_sum.finished.Goals as goal

-- a digest that was put over zeros has zeros behind it
padded_digest-puts : (digest new : List ℕ) (n : ℕ) → PutsDigest digest (replicate 64 0) new n → ◌≡◌ {A = List ℕ × ℕ} (new, n) (padded_digest digest)
padded_digest-puts digest new n puts =
    let bytes : new ≡ digest ++ replicate (64 - n) 0 = puts.1 ∙ ap (λ (w : List ℕ). digest ++ w) (drop-replicate n 64 0) in
    ap (λ (w : List ℕ). let e : List ℕ × ℕ = (w, n) in e) bytes ∙ ap (λ (k : ℕ). let e : List ℕ × ℕ = (digest ++ replicate (64 - k) 0, k) in e) puts.0

pub returns : goal.returns
returns _ c = λ fed held. padded_digest-puts _ _ _ (c.finish-length.ensures.digest fed held)
