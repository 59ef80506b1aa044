use Rattle.std.proofs.Common.{drop}
use Rattle.uimg_info.proofs.ComparingLaws.{LeftTexts}
use Rattle.uimg_info.proofs.comparing.texts_of.Given as goal

-- the map has the texts of the statements before the index
abbrev pub invariant-loop-statement : goal.invariant-loop-statement
invariant-loop-statement l = LeftTexts l.texts (drop l.statement-index l.all) l.all
