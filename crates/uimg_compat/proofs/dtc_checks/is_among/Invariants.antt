use Rattle.std.{proofs.Common.{◌≡◌, drop, map}, specs.{List.list_any, Str.bytes_eq}}
use Rattle.uimg_compat.proofs.dtc_checks.is_among.Given as goal

-- no name before the index is this one
abbrev pub invariant-loop-known : goal.invariant-loop-known
invariant-loop-known l = list_any (λ known. bytes_eq known l.name) (map (λ known. known.now) (drop l.known-index l.names))
    ≡ list_any (λ known. bytes_eq known l.name) (map (λ known. known.now) l.names)
