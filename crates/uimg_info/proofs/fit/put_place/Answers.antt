use Rattle.std.proofs.Common.{sym, subst, Result}
use Rattle.uimg_base.specs.declared.spans.Span.{Span}
use Rattle.uimg_fit_base.specs.declared.fault.FitFault.{FitFault}
use Rattle.uimg_info.specs.Fit.{place_members}
use Rattle.uimg_printing.specs.{Members.tokens_of, Steps.Appended}
use Rattle.uimg_printing.proofs.StepLaws.{after}
use Rattle.uimg_info.proofs.fit.put_place.Goals as goal

pub returns : goal.returns
returns c = subst (λ (r : Result Span FitFault). Appended c.args.writer.now c.put_number-2.new.writer (tokens_of (place_members r))) (sym c.in-Ok.is) (after c.in_ok-put_number.ensures c.in_ok-put_number-2.ensures)
