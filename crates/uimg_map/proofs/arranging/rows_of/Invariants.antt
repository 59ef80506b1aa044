use Rattle.std.proofs.Common.{◌≡◌, ◌++◌, drop, None}
use Rattle.uimg_map.specs.Rows.{rows_from}
use Rattle.uimg_map.proofs.arranging.rows_of.Given as goal

-- the rows so far and those of what is left are those of all
abbrev pub invariant-loop-thing : goal.invariant-loop-thing
invariant-loop-thing l = l.rows.items ++ rows_from l.size l.last (drop l.thing-index l.things) ≡ rows_from l.size None l.things
