use Rattle.std.proofs.Common.{Option, List, ℕ, subst, sym}
use Rattle.std.specs.Borrow.{Bor}
use Rattle.uimg_printing.specs.{Members.tokens_of, Steps.Appends}
use Rattle.uimg_checks.specs.{Objects.only_members}
use Rattle.uimg_checks.proofs.object.put_only.Goals as goal

pub returns-in-Some : goal.returns-in-Some
returns-in-Some c =
    subst (λ (it : Option (Bor (List ℕ))). Appends c.put_text.result c.args.writer.now c.put_text.new.writer (tokens_of (only_members it))) (sym c.in-Some.is) c.put_text.ensures

pub returns-in-None : goal.returns-in-None
returns-in-None c =
    subst (λ (it : Option (Bor (List ℕ))). Appends c.put_string.result c.args.writer.now c.put_string.new.writer (tokens_of (only_members it))) (sym c.in-None.is) c.put_string.ensures
