use Rattle.std.proofs.Common.{rules, List, subst, sym}
use Rattle.uimg_printing.specs.{Members.{Member, tokens_of}, Steps.Appends}
use Rattle.uimg_checks.proofs.ObjectLaws.{some_listed}
use Rattle.uimg_checks.proofs.signatures.put_signatures_if.Goals as goal

pub returns : goal.returns
returns c =
    subst (λ (l : List Member). Appends c.put_listed.result c.args.writer.now c.put_listed.new.writer (tokens_of l)) (sym (some_listed c.args.signatures.now (search rules))) c.put_listed.ensures
