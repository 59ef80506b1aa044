use Rattle.std.proofs.Common.{rules, ◌≡◌, ◌⊎◌, inl, inr, ◌++◌, [], ◌∙◌, subst, sym, ap, ℕ, List, true, false, is_err, append-nil}
use Rattle.uimg_texts.specs.Slices.{slice}
use Rattle.uimg_base.specs.Writing.{Written}
use Rattle.uimg_fit_reading.specs.declared.listing.lists.Line.{Line}
use Rattle.uimg_fit_reading.specs.declared.listing.lists.Line.TheVariants.{First, Next, Open}
use Rattle.uimg_fit_reading.specs.Lists.{emitted, line_after, end_of_line}
use Rattle.uimg_fit_reading.proofs.{PutLaws.{◌▶◌, cut}, ListLaws.list_is, PassedLaws.failed_of}
use Rattle.uimg_fit_reading.proofs.listing.lists.put_list_lines.Goals as goal

pub returns-in_err-put_value : goal.returns-in_err-put_value
returns-in_err-put_value g c = record {
  uses = search rules;
  room = search rules;
  faults = search rules;
  told = λ honest.
      let failed = failed_of c.from_residual.result c.from_residual.ensures.0 in
      let value = slice (g.S.Source.device c.args.source.now).bytes c.args.span.place c.args.span.length in
      rw failed (subst (λ (w : List ℕ). Written true c.args.out.now c.put_value.new.out w) (list_is c.args.label.now value)
      (cut _ _ _ (end_of_line (line_after First value)) (c.in_err-put_value.ensures.puts.told honest)));
}

pub returns-in-Open : goal.returns-in-Open
returns-in-Open g c = record {
  uses = search rules;
  room = search rules;
  faults = search rules;
  told = λ honest.
      let value = slice (g.S.Source.device c.args.source.now).bytes c.args.span.place c.args.span.length in
      let after : Open ≡ line_after First value = sym c.in-Open.is ∙ c.in_ok-put_value.ensures.line honest in
      subst (λ (w : List ℕ). Written (is_err c.put.result) c.args.out.now c.put.new.out w)
      (ap (λ (k : Line). emitted c.args.label.now First value ++ end_of_line k) after ∙ list_is c.args.label.now value)
      ((c.in_ok-put_value.ensures.puts.told honest).all ▶ c.put.ensures.told);
}

no_end : (l : Line) → (l ≡ First) ⊎ (l ≡ Next) → end_of_line l ≡ []
no_end l (inl is) = ap end_of_line is
no_end l (inr is) = ap end_of_line is

pub returns-in-First : goal.returns-in-First
returns-in-First g c = record {
  uses = search rules;
  room = search rules;
  faults = search rules;
  told = λ honest.
      let value = slice (g.S.Source.device c.args.source.now).bytes c.args.span.place c.args.span.length in
      let ended : end_of_line (line_after First value) ≡ [] = ap end_of_line (sym (c.in_ok-put_value.ensures.line honest)) ∙ no_end _ c.in-First.is in
      subst (λ (w : List ℕ). Written false c.args.out.now c.put_value.new.out w)
      (sym (append-nil (emitted c.args.label.now First value)) ∙ ap (λ (w : List ℕ). emitted c.args.label.now First value ++ w) (sym ended) ∙ list_is c.args.label.now value)
      (c.in_ok-put_value.ensures.puts.told honest);
}
