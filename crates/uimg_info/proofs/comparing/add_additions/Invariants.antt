use Rattle.std.proofs.Common.{List, drop}
use Rattle.uimg_info.specs.Comparing.{HasTexts, added, text_at}
use Rattle.uimg_info.specs.Statement.{Stated}
use Rattle.uimg_info.proofs.ComparingLaws.{Left}
use Rattle.uimg_info.proofs.comparing.add_additions.Given as goal

-- the differences of the statements before the index are there
abbrev pub invariant-loop-statement : goal.invariant-loop-statement
invariant-loop-statement l = (old : List Stated) → HasTexts l.texts old
    → Left (λ s. added s (text_at old s.key)) l.to.items l.fn.to.items (drop l.statement-index l.new) l.new
