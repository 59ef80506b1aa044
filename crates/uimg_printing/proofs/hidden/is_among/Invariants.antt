use Rattle.std.{proofs.Common.{◌≡◌, drop}, specs.List.list_any}
use Rattle.uimg_printing.specs.Hidden.{is_in}
use Rattle.uimg_printing.proofs.hidden.is_among.Given as goal

-- no range before the index has the letter
abbrev pub invariant-loop-first : goal.invariant-loop-first
invariant-loop-first l = list_any (is_in l.letter) (drop l.first-index l.ranges) ≡ list_any (is_in l.letter) l.ranges
