use Rattle.std.proofs.Common.{◌≡◌, ◌==◌, drop, map, find}
use Rattle.uimg_compat.specs.Getopt.{row_of}
use Rattle.uimg_compat.proofs.getopt.row_with.Given as goal

-- what is left gives the same
abbrev pub invariant-loop-row : goal.invariant-loop-row
invariant-loop-row l = find (λ row. row.letter == l.letter) (map row_of (drop l.row-index l.rows))
    ≡ find (λ row. row.letter == l.letter) (map row_of l.rows)
