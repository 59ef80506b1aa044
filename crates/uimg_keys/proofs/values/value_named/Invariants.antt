use Rattle.std.proofs.Common.{◌≡◌, drop}
use Rattle.uimg_keys.proofs.TreeLaws.{value_at}
use Rattle.uimg_keys.proofs.values.value_named.Given as goal

-- what is left says the same
abbrev pub invariant-loop-place : goal.invariant-loop-place
invariant-loop-place l = value_at l.file l.name (drop l.place-index l.places) ≡ value_at l.file l.name l.places
