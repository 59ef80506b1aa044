use Rattle.std.proofs.Common.{rules, ◌++◌, ◌∷◌, [], ℕ, List, true, is_err, codes, sym, subst}
use Rattle.uimg_texts.specs.{Nul.text, Slices.slice}
use Rattle.uimg_base.{specs.Writing.Written, proofs.WritingLaws.written_then}
use Rattle.uimg_fit_reading.proofs.{PutLaws.{cut, quoted_parts}, PassedLaws.failed_of}
use Rattle.uimg_fit_reading.proofs.listing.heads.put_default_line.Goals as goal

pub returns-in_err-put : goal.returns-in_err-put
returns-in_err-put g c = record {
  uses = search rules;
  room = search rules;
  faults = search rules;
  told = λ honest.
      let failed = failed_of c.from_residual.result c.from_residual.ensures.0 in
      let before = codes " Default Configuration: '" in
      let name = text (slice (g.S.Source.device c.args.source.now).bytes c.args.span.place c.args.span.length) in
      rw failed (subst (λ (w : List ℕ). Written true c.args.out.now c.put.new.out w) (sym (quoted_parts before name)) (cut c.args.out.now c.put.new.out before (name ++ 39 ∷ 10 ∷ []) c.in_err-put.ensures.told));
}

pub returns-in_err-put_text : goal.returns-in_err-put_text
returns-in_err-put_text g c = record {
  uses = search rules;
  room = search rules;
  faults = search rules;
  told = λ honest.
      let failed = failed_of c.from_residual-in_err-put_text.result c.from_residual-in_err-put_text.ensures.0 in
      let before = codes " Default Configuration: '" in
      let name = text (slice (g.S.Source.device c.args.source.now).bytes c.args.span.place c.args.span.length) in
      rw failed (subst (λ (w : List ℕ). Written true c.args.out.now c.put_text.new.out w) (sym (quoted_parts before name))
      (written_then true c.args.out.now c.put.new.out c.put_text.new.out before (name ++ 39 ∷ 10 ∷ []) c.in_ok-put.ensures.told.all
      (cut c.put.new.out c.put_text.new.out name (39 ∷ 10 ∷ []) (c.in_err-put_text.ensures.told honest))));
}

pub returns : goal.returns
returns g c = record {
  uses = search rules;
  room = search rules;
  faults = search rules;
  told = λ honest.
      let before = codes " Default Configuration: '" in
      let name = text (slice (g.S.Source.device c.args.source.now).bytes c.args.span.place c.args.span.length) in
      let e = is_err c.put-2.result in
      subst (λ (w : List ℕ). Written e c.args.out.now c.put-2.new.out w) (sym (quoted_parts before name))
      (written_then e c.args.out.now c.put.new.out c.put-2.new.out before (name ++ 39 ∷ 10 ∷ []) c.in_ok-put.ensures.told.all
      (written_then e c.put.new.out c.put_text.new.out c.put-2.new.out name (39 ∷ 10 ∷ []) (c.in_ok-put_text.ensures.told honest).all c.put-2.ensures.told));
}
