use Rattle.std.proofs.Common.{◌≡◌, drop, map, filter, option_map}
use Rattle.uimg_compat.specs.Getopt.{only, only_with, is_begun, row_of}
use Rattle.uimg_compat.proofs.getopt.option_by_beginning.Given as goal

-- what is left gives the same
abbrev pub invariant-loop-row : goal.invariant-loop-row
invariant-loop-row l = only_with l.text (option_map row_of l.found) (filter (is_begun l.text) (map row_of (drop l.row-index l.rows)))
    ≡ only l.text (filter (is_begun l.text) (map row_of l.rows))
