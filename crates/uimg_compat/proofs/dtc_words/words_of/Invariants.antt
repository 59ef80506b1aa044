use Rattle.std.proofs.Common.{◌≡◌, map, filter, length, nat_lt}
use Rattle.uimg_compat.proofs.dtc_words.words_of.Given as goal

-- the words so far are the parts that have come and are not empty
abbrev pub invariant-loop-word : goal.invariant-loop-word
invariant-loop-word l = map (λ word. word.now) l.words.items ≡ filter (λ word. nat_lt 0 (length word)) (map (λ part. part.now) l.yielded)
