use Rattle.std.proofs.Common.{◌≡◌, map}
use Rattle.uimg_compat.specs.Dtc.{dtc_after, dtc_of, dtc_rows, no_options}
use Rattle.uimg_compat.specs.Getopt.{left, reading, unread}
use Rattle.uimg_compat.proofs.dtc_words.read_options.Given as goal

-- what is left gives the same
abbrev pub invariant-loop-given : goal.invariant-loop-given
invariant-loop-given l = dtc_after (unread dtc_rows l.unread) (dtc_of l.read) ≡ dtc_after (reading dtc_rows (map (λ word. word.now) l.words)) no_options

-- each option and each operand takes something of the words
abbrev pub decreases-loop-given : goal.decreases-loop-given
decreases-loop-given l = left l.unread
