use Rattle.std.proofs.Common.{List, drop}
use Rattle.uimg_info.specs.Comparing.{HasTexts, changed, text_at}
use Rattle.uimg_info.specs.Statement.{Stated}
use Rattle.uimg_info.proofs.ComparingLaws.{Left}
use Rattle.uimg_info.proofs.comparing.add_changes.Given as goal

-- the differences of the statements before the index are there
abbrev pub invariant-loop-statement : goal.invariant-loop-statement
invariant-loop-statement l = (new : List Stated) → HasTexts l.texts new
    → Left (λ s. changed s (text_at new s.key)) l.to.items l.fn.to.items (drop l.statement-index l.old) l.old
