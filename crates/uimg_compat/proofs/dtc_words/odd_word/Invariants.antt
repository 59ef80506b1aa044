use Rattle.std.proofs.Common.{◌≡◌, drop, map, find}
use Rattle.uimg_compat.specs.Dtc.{is_odd}
use Rattle.uimg_compat.proofs.dtc_words.odd_word.Given as goal

-- what is left gives the same
abbrev pub invariant-loop-word : goal.invariant-loop-word
invariant-loop-word l = find is_odd (map (λ word. word.now) (drop l.word-index l.words)) ≡ find is_odd (map (λ word. word.now) l.words)
