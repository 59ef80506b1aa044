use Rattle.std.proofs.Common.{◌≡◌, map}
use Rattle.uimg_compat.specs.Dumpimage.{dumpimage_asked, dumpimage_rows, dumping_of, request_asked, step}
use Rattle.uimg_compat.specs.Steps.{asked_after}
use Rattle.uimg_compat.specs.Getopt.{left, unread}
use Rattle.uimg_compat.proofs.dumpimage.read_dumpimage.Given as goal

-- what is left gives the same
abbrev pub invariant-loop-given : goal.invariant-loop-given
invariant-loop-given l = asked_after step request_asked (unread dumpimage_rows l.unread) (dumping_of l.settings)
    ≡ dumpimage_asked (map (λ word. word.now) l.words)

-- each option and each operand takes something of the words
abbrev pub decreases-loop-given : goal.decreases-loop-given
decreases-loop-given l = left l.unread
