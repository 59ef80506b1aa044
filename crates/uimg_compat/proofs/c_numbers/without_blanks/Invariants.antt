use Rattle.std.proofs.Common.{◌≡◌, length}
use denote.Shadow.{shadow}
use denote.Text.{Utf8}
use Rattle.uimg_compat.specs.CNumbers.{without_blanks}
use Rattle.uimg_compat.proofs.c_numbers.without_blanks.Given as goal

-- what is left gives the same
abbrev pub invariant-loop-behind : goal.invariant-loop-behind
invariant-loop-behind l = shadow (Utf8 l.rest) × (without_blanks l.rest ≡ without_blanks l.text)

abbrev pub decreases-loop-behind : goal.decreases-loop-behind
decreases-loop-behind l = length l.rest
