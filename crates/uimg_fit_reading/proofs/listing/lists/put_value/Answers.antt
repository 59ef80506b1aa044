use Rattle.std.proofs.Common.{rules, ◌≡◌, ◌+◌, ◌-◌, ◌++◌, ◌∙◌, IsTrue, subst, sym, ap, refl, ℕ, List, Bool, true, false, arith}
use Rattle.uimg_texts.specs.Slices.{slice}
use Rattle.uimg_base.{specs.{Sink.AppendsAll, Writing.Written}, proofs.Slices.slice-add}
use Rattle.uimg_base.proofs.SinkLaws.{Appends-none, all_then}
use Rattle.uimg_blob_reading.proofs.TextLaws.{written_all}
use Rattle.uimg_fit_reading.specs.declared.listing.lists.Line.{Line, TheVariants.First}
use Rattle.uimg_fit_reading.specs.Lists.{emitted, line_after}
use Rattle.uimg_fit_reading.proofs.PutLaws.{three_parts, stopped}
use Rattle.uimg_fit_reading.proofs.{ListLaws.{emitted_append, after_append}, PassedLaws.failed_of}
use Rattle.uimg_fit_reading.proofs.listing.lists.put_value.Goals as goal

pub loop-done-init : goal.loop-done-init
unfolding emitted line_after
loop-done-init g c = record {
  bound = omega arith;
  same = record { bytes = refl; honest = refl };
  asked = omega arith;
  failures = refl;
  faults = refl;
  line = λ honest. refl;
  put = λ honest. record { appended = Appends-none c.args.out.now.contents };
}

pub returns-in_err-line-clause-puts : goal.returns-in_err-line-clause-puts
returns-in_err-line-clause-puts g c = record {
  uses = search rules;
  faults = search rules;
  told =
      λ honest.
      let failed = failed_of c.from_residual.result c.from_residual.ensures.0 in
      let same = c.loop-done.invariant.same in
      let file = (g.S.Source.device c.args.source.now).bytes in
      let at = c.args.span.place in
      let done = c.loop-done.done in
      let next = c.min.result in
      let all = c.args.span.length in
      let label = c.args.label.now in
      let now = subst (λ (b : Bool). IsTrue b) (sym same.honest) honest in
      let told = subst (λ (xs : List ℕ). Written true c.loop-done.out c.put_window.new.out (emitted label c.loop-done.line (slice xs (at + done) next)))
      same.bytes (c.in_err-line.ensures.puts.told now) in
      let here : line_after First (slice file at done) ≡ c.loop-done.line = sym (c.loop-done.invariant.line honest) in
      let rest = slice file (at + done + next) (all - (done + next)) in
      let whole = ap (emitted label First) (three_parts file at done next all (omega arith)) ∙ emitted_append label First (slice file at done) _
      ∙ ap (λ (w : List ℕ). emitted label First (slice file at done) ++ w)
      (emitted_append label (line_after First (slice file at done)) (slice file (at + done) next) _
      ∙ ap (λ (k : Line). emitted label k (slice file (at + done) next) ++ emitted label (line_after (line_after First (slice file at done)) (slice file (at + done) next)) rest) here) in
      rw failed (stopped c.args.out.now c.loop-done.out c.put_window.new.out _ _ _ _ whole (c.loop-done.invariant.put honest) told);
}

pub loop-done-preserved : goal.loop-done-preserved
loop-done-preserved g c =
    let same = c.loop-done.invariant.same in
    let file = (g.S.Source.device c.args.source.now).bytes in
    let at = c.args.span.place in
    let done = c.loop-done.done in
    let next = c.min.result in
    let label = c.args.label.now in
    record {
      bound = omega arith;
      same = record { bytes = c.put_window.ensures.puts.uses.same.bytes ∙ same.bytes; honest = c.put_window.ensures.puts.uses.same.honest ∙ same.honest };
      asked = omega (arith, c.put_window.ensures.puts.uses.asked, c.loop-done.invariant.asked);
      failures = omega (arith, c.in_ok-line.ensures.puts.uses.failures, c.loop-done.invariant.failures);
      faults = omega (arith, c.in_ok-line.ensures.puts.faults, c.loop-done.invariant.faults);
      line = λ honest.
          let now = subst (λ (b : Bool). IsTrue b) (sym same.honest) honest in
          c.in_ok-line.ensures.line now
          ∙ ap (λ (xs : List ℕ). line_after c.loop-done.line (slice xs (at + done) next)) same.bytes
          ∙ ap (λ (k : Line). line_after k (slice file (at + done) next)) (c.loop-done.invariant.line honest)
          ∙ sym (ap (line_after First) (slice-add file at done next) ∙ after_append First (slice file at done) (slice file (at + done) next));
      put = λ honest.
          let now = subst (λ (b : Bool). IsTrue b) (sym same.honest) honest in
          let told = subst (λ (xs : List ℕ). Written false c.loop-done.out c.put_window.new.out (emitted label c.loop-done.line (slice xs (at + done) next))) same.bytes (c.in_ok-line.ensures.puts.told now) in
          subst (AppendsAll c.args.out.now c.put_window.new.out)
          (ap (λ (k : Line). emitted label First (slice file at done) ++ emitted label k (slice file (at + done) next)) (c.loop-done.invariant.line honest)
          ∙ sym (ap (emitted label First) (slice-add file at done next) ∙ emitted_append label First (slice file at done) (slice file (at + done) next)))
          (all_then c.args.out.now c.loop-done.out c.put_window.new.out _ _ (c.loop-done.invariant.put honest) told.all);
    }

pub returns-clause-puts : goal.returns-clause-puts
returns-clause-puts g c = record {
  uses = search rules;
  faults = search rules;
  told =
      λ honest.
      let file = (g.S.Source.device c.args.source.now).bytes in
      let all : c.loop-done.done ≡ c.args.span.length = omega arith in
      written_all c.args.out.now c.loop-done.out _
      (subst (λ (n : ℕ). AppendsAll c.args.out.now c.loop-done.out (emitted c.args.label.now First (slice file c.args.span.place n))) all (c.loop-done.invariant.put honest));
}
