use Rattle.std.proofs.Common.{◌≡◌, map, option_map}
use Rattle.uimg_compat.specs.Getopt.{left, unread}
use Rattle.uimg_compat.specs.Mkimage.{mkimage_rows, setting_of, step}
use Rattle.uimg_compat.specs.Requests.{mkimage_asked, request_asked}
use Rattle.uimg_compat.specs.Steps.{asked_after}
use Rattle.uimg_compat.proofs.mkimage.read_mkimage.Given as goal

-- what is left gives the same
abbrev pub invariant-loop-given : goal.invariant-loop-given
invariant-loop-given l =
    asked_after step (request_asked (map (λ word. word.now) l.words) (option_map (λ text. text.now) l.epoch) l.now) (unread mkimage_rows l.unread) (setting_of l.settings)
    ≡ mkimage_asked (map (λ word. word.now) l.words) (option_map (λ text. text.now) l.epoch) l.now

-- each option and each operand takes something of the words
abbrev pub decreases-loop-given : goal.decreases-loop-given
decreases-loop-given l = left l.unread
