use Rattle.std.proofs.Common.{rules, Option, is_err, sym, subst}
use Rattle.uimg_base.specs.{Writing.Written, declared.spans.Span.Span}
use Rattle.uimg_fit_base.specs.Files.{bytes_in}
use Rattle.uimg_fit_reading.specs.Heads.{description_line}
use Rattle.uimg_fit_reading.proofs.listing.heads.put_description.Goals as goal

pub returns-in-Some : goal.returns-in-Some
returns-in-Some g c = record {
  uses = search rules;
  room = search rules;
  faults = search rules;
  told = λ honest.
      let file = (g.S.Source.device c.args.source.now).bytes in
      subst (λ (o : Option Span). Written (is_err c.put_text_line.result) c.args.out.now c.put_text_line.new.out (description_line (bytes_in file o))) (sym c.in-Some.is) (c.put_text_line.ensures.told honest);
}

pub returns-in-None : goal.returns-in-None
returns-in-None g c = record {
  uses = search rules;
  room = search rules;
  faults = search rules;
  told = λ honest.
      let file = (g.S.Source.device c.args.source.now).bytes in
      subst (λ (o : Option Span). Written (is_err c.put_line.result) c.args.out.now c.put_line.new.out (description_line (bytes_in file o))) (sym c.in-None.is) c.put_line.ensures.told;
}
