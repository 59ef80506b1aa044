use Rattle.std.proofs.Common.{◌≡◌, map}
use Rattle.uimg_requests.proofs.names.cut_at_colons.Given as goal

-- the names so far are the parts that have come
abbrev pub invariant-loop-name : goal.invariant-loop-name
invariant-loop-name l = map (λ name. name.items) l.names.items ≡ map (λ part. part.now) l.yielded
