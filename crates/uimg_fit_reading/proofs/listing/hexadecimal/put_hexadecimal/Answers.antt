use Rattle.std.proofs.Common.{rules, ◌≡◌, ◌+◌, ◌++◌, ◌∙◌, IsTrue, subst, sym, ap, refl, ℕ, List, Bool, true, false, arith}
use Rattle.hex.specs.Hex.{encode_lower, encode_with}
use Rattle.uimg_texts.specs.Slices.{slice}
use Rattle.uimg_base.{specs.{Sink.AppendsAll, Writing.Written}, proofs.Slices.slice-add}
use Rattle.uimg_base.proofs.SinkLaws.{Appends-none, all_then}
use Rattle.uimg_blob_reading.proofs.TextLaws.{written_all}
use Rattle.uimg_fit_reading.proofs.{PutLaws.{three_parts, stopped}, ShowLaws.encode_append}
use Rattle.uimg_fit_reading.proofs.PassedLaws.{failed_of}
use Rattle.uimg_fit_reading.proofs.listing.hexadecimal.put_hexadecimal.Goals as goal

pub loop-done-init : goal.loop-done-init
unfolding encode_with
loop-done-init g c = record {
  bound = omega arith;
  same = record { bytes = refl; honest = refl };
  asked = omega arith;
  failures = refl;
  faults = refl;
  put = λ honest. record { appended = Appends-none c.args.out.now.contents };
}

pub returns-in_err-put_part : goal.returns-in_err-put_part
returns-in_err-put_part g c = record {
  uses = search rules;
  faults = search rules;
  told = λ honest.
      let failed = failed_of c.from_residual.result c.from_residual.ensures.0 in
      let same = c.loop-done.invariant.same in
      let file = (g.S.Source.device c.args.source.now).bytes in
      let at = c.args.span.place in
      let done = c.loop-done.done in
      let next = c.min-next.result in
      let all = c.args.span.length in
      let now = subst (λ (b : Bool). IsTrue b) (sym same.honest) honest in
      let told = subst (λ (xs : List ℕ). Written true c.loop-done.out c.put_part.new.out (encode_lower (slice xs (at + done) next)))
      same.bytes (c.in_err-put_part.ensures.told now) in
      let whole = ap encode_lower (three_parts file at done next all (omega arith)) ∙ encode_append (slice file at done) _
      ∙ ap (λ (w : List ℕ). encode_lower (slice file at done) ++ w) (encode_append (slice file (at + done) next) _) in
      rw failed (stopped c.args.out.now c.loop-done.out c.put_part.new.out _ _ _ _ whole (c.loop-done.invariant.put honest) told);
}

pub loop-done-preserved : goal.loop-done-preserved
loop-done-preserved g c =
    let same = c.loop-done.invariant.same in
    let file = (g.S.Source.device c.args.source.now).bytes in
    let at = c.args.span.place in
    let done = c.loop-done.done in
    let next = c.min-next.result in
    record {
      bound = omega arith;
      same = record { bytes = c.put_part.ensures.uses.same.bytes ∙ same.bytes; honest = c.put_part.ensures.uses.same.honest ∙ same.honest };
      asked = omega (arith, c.put_part.ensures.uses.asked, c.loop-done.invariant.asked);
      failures = omega (arith, c.in_ok-put_part.ensures.uses.failures, c.loop-done.invariant.failures);
      faults = omega (arith, c.in_ok-put_part.ensures.faults, c.loop-done.invariant.faults);
      put = λ honest.
          let now = subst (λ (b : Bool). IsTrue b) (sym same.honest) honest in
          let told = subst (λ (xs : List ℕ). Written false c.loop-done.out c.put_part.new.out (encode_lower (slice xs (at + done) next))) same.bytes (c.in_ok-put_part.ensures.told now) in
          subst (AppendsAll c.args.out.now c.put_part.new.out) (sym (ap encode_lower (slice-add file at done next) ∙ encode_append (slice file at done) (slice file (at + done) next)))
          (all_then c.args.out.now c.loop-done.out c.put_part.new.out _ _ (c.loop-done.invariant.put honest) told.all);
    }

pub returns : goal.returns
returns g c = record {
  uses = search rules;
  faults = search rules;
  told = λ honest.
      let file = (g.S.Source.device c.args.source.now).bytes in
      let all : c.loop-done.done ≡ c.args.span.length = omega arith in
      written_all c.args.out.now c.loop-done.out _ (subst (λ (n : ℕ). AppendsAll c.args.out.now c.loop-done.out (encode_lower (slice file c.args.span.place n))) all (c.loop-done.invariant.put honest));
}
