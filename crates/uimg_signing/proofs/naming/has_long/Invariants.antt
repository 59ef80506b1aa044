use Rattle.std.proofs.Common.{◌≡◌, drop}
use Rattle.uimg_signing.specs.Naming.{any_long_at}
use Rattle.uimg_signing.proofs.naming.has_long.Given as goal

-- what is left says the same
abbrev pub invariant-loop-place : goal.invariant-loop-place
invariant-loop-place l = any_long_at (drop l.place-index l.places) ≡ any_long_at l.places
