use Rattle.std.proofs.Common.{◌≡◌, ◌+◌, ◌∙◌, IsTrue, subst, sym, ap, refl, ℕ, List, Bool, true, false, is_err, None, arith, rules}
use Rattle.std.specs.Option.{is_some}
use Rattle.uimg_texts.specs.{Nul.{before_nul, text}, Slices.slice}
use Rattle.uimg_base.{specs.{Sink.AppendsAll, Writing.Written}, proofs.SinkLaws.Appends-none}
use Rattle.uimg_base.proofs.Slices.{AppendsAll-slice}
use Rattle.uimg_blob_reading.proofs.TextLaws.{nul_nothing, text_stopped, text_put, text_all, still_without, without_nul, written_all, written_some}
use Rattle.uimg_blob_reading.proofs.texts.put_through.Goals as goal

pub loop-done-init : goal.loop-done-init
loop-done-init g c = record {
  bound = omega arith;
  same = record { bytes = refl; honest = refl };
  asked = omega arith;
  failures = refl;
  faults = refl;
  without = λ honest. nul_nothing (g.S.Source.device c.args.source.now).bytes c.args.span.place;
  put = λ honest. record { appended = Appends-none c.args.out.now.contents };
}

pub returns-in_err-put_window : goal.returns-in_err-put_window
returns-in_err-put_window g c = record {
  uses = search rules;
  faults = search rules;
  told = λ honest.
      let failed : is_err c.from_residual.result ≡ true = search rules in
      let same = c.loop-done.invariant.same in
      let bytes = (g.S.Source.device c.args.source.now).bytes in
      let now = subst (λ (b : Bool). IsTrue b) (sym same.honest) honest in
      let told = subst (λ (xs : List ℕ). Written (is_err c.put_window.result) c.loop-done.out c.put_window.new.out (text (slice xs (c.args.span.place + c.loop-done.done) c.min-next.result)))
      same.bytes (c.put_window.ensures.put.told now) in
      written_some (is_err c.from_residual.result) c.args.out.now c.put_window.new.out _ failed
      (text_stopped c.args.out.now c.loop-done.out c.put_window.new.out bytes c.args.span.place c.loop-done.done c.min-next.result c.args.span.length (omega arith)
      (c.loop-done.invariant.without honest) (c.loop-done.invariant.put honest) told.prefix);
}

pub returns-then-branch : goal.returns-then-branch
returns-then-branch g c = record {
  uses = search rules;
  faults = search rules;
  told = λ honest.
      let same = c.loop-done.invariant.same in
      let bytes = (g.S.Source.device c.args.source.now).bytes in
      let now = subst (λ (b : Bool). IsTrue b) (sym same.honest) honest in
      let told = subst (λ (xs : List ℕ). Written false c.loop-done.out c.put_window.new.out (text (slice xs (c.args.span.place + c.loop-done.done) c.min-next.result)))
      same.bytes (c.in_ok-put_window.ensures.put.told now) in
      let ended : is_some (before_nul (slice bytes (c.args.span.place + c.loop-done.done) c.min-next.result)) ≡ true =
      ap (λ (xs : List ℕ). is_some (before_nul (slice xs (c.args.span.place + c.loop-done.done) c.min-next.result))) (sym same.bytes)
      ∙ sym (c.in_ok-put_window.ensures.ended now) ∙ c.if-branch.true in
      written_all c.args.out.now c.put_window.new.out _
      (text_put c.args.out.now c.loop-done.out c.put_window.new.out bytes c.args.span.place c.loop-done.done c.min-next.result c.args.span.length (omega arith)
      (c.loop-done.invariant.without honest) (c.loop-done.invariant.put honest) ended told.all);
}

pub loop-done-preserved : goal.loop-done-preserved
loop-done-preserved g c =
    let same = c.loop-done.invariant.same in
    let bytes = (g.S.Source.device c.args.source.now).bytes in
    let place = c.args.span.place in
    let done = c.loop-done.done in
    let next = c.min-next.result in
    let bare : IsTrue (g.S.Source.device c.args.source.now).honest → before_nul (slice bytes (place + done) next) ≡ None = λ honest.
    let now = subst (λ (b : Bool). IsTrue b) (sym same.honest) honest in
    without_nul (slice bytes (place + done) next)
    (ap (λ (xs : List ℕ). is_some (before_nul (slice xs (place + done) next))) (sym same.bytes) ∙ sym (c.in_ok-put_window.ensures.ended now) ∙ c.if-branch.false) in
    record {
      bound = omega arith;
      same = record { bytes = c.put_window.ensures.put.uses.same.bytes ∙ same.bytes; honest = c.put_window.ensures.put.uses.same.honest ∙ same.honest };
      asked = omega (arith, c.put_window.ensures.put.uses.asked, c.loop-done.invariant.asked);
      failures = omega (arith, c.in_ok-put_window.ensures.put.uses.failures, c.loop-done.invariant.failures);
      faults = omega (arith, c.in_ok-put_window.ensures.put.faults, c.loop-done.invariant.faults);
      without = λ honest. still_without bytes place done next (c.loop-done.invariant.without honest) (bare honest);
      put = λ honest.
          let now = subst (λ (b : Bool). IsTrue b) (sym same.honest) honest in
          let told = subst (λ (xs : List ℕ). Written false c.loop-done.out c.put_window.new.out (text (slice xs (place + done) next))) same.bytes (c.in_ok-put_window.ensures.put.told now) in
          AppendsAll-slice c.args.out.now c.loop-done.out c.put_window.new.out bytes place done next (c.loop-done.invariant.put honest)
          (subst (AppendsAll c.loop-done.out c.put_window.new.out) (text_all (slice bytes (place + done) next) (bare honest)) told.all);
    }

pub returns : goal.returns
returns g c = record {
  uses = search rules;
  faults = search rules;
  told = λ honest.
      let bytes = (g.S.Source.device c.args.source.now).bytes in
      let all : c.loop-done.done ≡ c.args.span.length = omega arith in
      let text_is : slice bytes c.args.span.place c.loop-done.done ≡ text (slice bytes c.args.span.place c.args.span.length) =
      sym (text_all (slice bytes c.args.span.place c.loop-done.done) (c.loop-done.invariant.without honest)) ∙ ap (λ (n : ℕ). text (slice bytes c.args.span.place n)) all in
      written_all c.args.out.now c.loop-done.out _ (subst (AppendsAll c.args.out.now c.loop-done.out) text_is (c.loop-done.invariant.put honest));
}
