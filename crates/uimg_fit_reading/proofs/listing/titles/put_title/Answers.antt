use Rattle.std.proofs.Common.{rules, ℕ, List, true, is_err, decimal, sym, subst}
use Rattle.uimg_texts.specs.Slices.{slice}
use Rattle.uimg_base.specs.Writing.{Written}
use Rattle.uimg_fit_reading.proofs.{PutLaws.{◌▶◌, cut, title_parts}, PassedLaws.failed_of}
use Rattle.uimg_fit_reading.proofs.listing.titles.put_title.Goals as goal

pub returns-in_err-put_number : goal.returns-in_err-put_number
returns-in_err-put_number g c = record {
  uses = search rules;
  room = search rules;
  faults = search rules;
  told = λ honest.
      let failed = failed_of c.from_residual.result c.from_residual.ensures.0 in
      let name = slice (g.S.Source.device c.args.source.now).bytes c.args.name.place c.args.name.length in
      rw failed (subst (λ (w : List ℕ). Written true c.args.out.now c.put_number.new.out w) (sym (title_parts c.args.before.now (decimal c.args.number) name)) (cut _ _ _ _ c.in_err-put_number.ensures.told));
}

pub returns-in_err-put_span : goal.returns-in_err-put_span
returns-in_err-put_span g c = record {
  uses = search rules;
  room = search rules;
  faults = search rules;
  told = λ honest.
      let failed = failed_of c.from_residual-in_err-put_span.result c.from_residual-in_err-put_span.ensures.0 in
      let name = slice (g.S.Source.device c.args.source.now).bytes c.args.name.place c.args.name.length in
      rw failed (subst (λ (w : List ℕ). Written true c.args.out.now c.put_span.new.out w) (sym (title_parts c.args.before.now (decimal c.args.number) name))
      (c.in_ok-put_number.ensures.told.all ▶ cut _ _ _ _ (c.in_err-put_span.ensures.told honest)));
}

pub returns : goal.returns
returns g c = record {
  uses = search rules;
  room = search rules;
  faults = search rules;
  told = λ honest.
      let name = slice (g.S.Source.device c.args.source.now).bytes c.args.name.place c.args.name.length in
      subst (λ (w : List ℕ). Written (is_err c.put.result) c.args.out.now c.put.new.out w) (sym (title_parts c.args.before.now (decimal c.args.number) name))
      (c.in_ok-put_number.ensures.told.all ▶ ((c.in_ok-put_span.ensures.told honest).all ▶ c.put.ensures.told));
}
