use Rattle.std.proofs.Common.{rules, ℕ, Option, sym, subst, List, [], ◌∷◌, append_assoc}
use Rattle.std.specs.Prelude.{is_err}
use Rattle.uimg_base.specs.Writing.{Written}
use Rattle.uimg_fit_reading.specs.{Shows.size_line, Puts.PutsOwn}
use Rattle.uimg_fit_reading.proofs.{PutLaws.line_then, PassedLaws.own_stops}
use Rattle.uimg_texts.specs.Sizes.{size_text}
use Rattle.uimg_fit_reading.proofs.listing.fields.put_size_line.Goals as goal

pub returns : goal.returns
returns g c = record {
  faults = search rules;
  put = search rules;
  told = subst (λ (n : Option ℕ). Written (is_err c.put_size.result) c.args.out.now c.put_size.new.out (size_line c.args.label.now n)) (sym c.in-Some.is)
      (line_then _ _ _ _ _ _ c.in_ok-put.ensures.told.all c.put_size.ensures.told);
}

pub returns-in_err-put : goal.returns-in_err-put
returns-in_err-put g c =
    let n = c.in-Some.size in
    subst (λ (o : Option ℕ). PutsOwn c.from_residual.result c.args.out.now c.put.new.out (size_line c.args.label.now o)) (sym c.in-Some.is)
    (subst (λ (w : List ℕ). PutsOwn c.from_residual.result c.args.out.now c.put.new.out w) (sym (append_assoc c.args.label.now (size_text n) (10 ∷ [])))
    (own_stops _ _ _ _ _ _ c.from_residual.ensures.1 c.in_err-put.ensures))
