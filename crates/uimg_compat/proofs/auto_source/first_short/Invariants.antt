use Rattle.std.proofs.Common.{◌≡◌, drop, map}
use Rattle.uimg_texts.specs.Names.{row_of}
use Rattle.uimg_compat.specs.AutoSource.{short_in}
use Rattle.uimg_compat.proofs.auto_source.first_short.Given as goal

-- what is left gives the same
abbrev pub invariant-loop-short : goal.invariant-loop-short
invariant-loop-short l = short_in (map row_of (drop l.short-index l.rows)) l.code ≡ short_in (map row_of l.rows) l.code
