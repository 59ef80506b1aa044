use Rattle.std.proofs.Common.{◌≡◌, ◌==◌, map, drop}
use Rattle.std.specs.List.{list_any}
use Rattle.uimg_texts.specs.Names.{row_of}
use Rattle.uimg_strict.proofs.headers.has_code.Given as goal

-- no row before the index has the code
abbrev pub invariant-loop-known : goal.invariant-loop-known
invariant-loop-known l = list_any (λ row. l.code == row.code) (map row_of (drop l.known-index l.rows)) ≡ list_any (λ row. l.code == row.code) (map row_of l.rows)
