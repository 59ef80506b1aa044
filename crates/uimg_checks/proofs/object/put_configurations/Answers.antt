use Rattle.std.proofs.Common.{subst, sym}
use Rattle.uimg_printing.specs.{Members.tokens_of, Steps.Appends}
use Rattle.uimg_checks.specs.{Objects.about_configurations, declared.answer.Configurations.Configurations}
use Rattle.uimg_checks.proofs.object.put_configurations.Goals as goal

pub returns-in-Unchecked : goal.returns-in-Unchecked
returns-in-Unchecked c =
    subst (λ (it : Configurations). Appends c.put_number.result c.args.writer.now c.put_number.new.writer (tokens_of (about_configurations it))) (sym c.in-Unchecked.is) c.put_number.ensures

pub returns-in-Signed : goal.returns-in-Signed
returns-in-Signed c =
    subst (λ (it : Configurations). Appends c.put_signed.result c.args.writer.now c.put_signed.new.writer (tokens_of (about_configurations it))) (sym c.in-Signed.is) c.put_signed.ensures
