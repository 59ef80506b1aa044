use Rattle.std.proofs.Common.{◌≡◌, drop, map, find}
use Rattle.std.specs.Str.{bytes_eq}
use Rattle.uimg_compat.specs.Getopt.{row_of}
use Rattle.uimg_compat.proofs.getopt.option_by_name.Given as goal

-- what is left gives the same
abbrev pub invariant-loop-row : goal.invariant-loop-row
invariant-loop-row l = find (λ row. bytes_eq row.name l.name) (map row_of (drop l.row-index l.rows))
    ≡ find (λ row. bytes_eq row.name l.name) (map row_of l.rows)
