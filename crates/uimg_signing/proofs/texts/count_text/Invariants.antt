use Rattle.std.proofs.Common.{length, ◌+◌, ◌≤◌}
use Rattle.uimg_signing.specs.{Texts.count_text, Looking.LooksOn}
use Rattle.uimg_signing.proofs.texts.count_text.Given as goal

-- what is left says the same
abbrev pub invariant-loop-text : goal.invariant-loop-text
invariant-loop-text l = record {
  few : l.found + length l.rest ≤ length l.bytes;
  left : LooksOn l.rest l.wanted l.found (count_text l.bytes l.wanted);
}

abbrev pub decreases-loop-text : goal.decreases-loop-text
decreases-loop-text l = length l.rest
