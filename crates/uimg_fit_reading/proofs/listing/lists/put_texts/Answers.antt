use Rattle.std.proofs.Common.{rules, ◌≡◌, ◌+◌, ◌++◌, ◌∙◌, subst, sym, ap, refl, ℕ, List, length, take, drop, take-append-drop, length-drop, arith}
use Rattle.std.proofs.Math.Seq.{take-add}
use Rattle.uimg_base.{specs.Sink.AppendsAll, proofs.SinkLaws.{Appends-none, all_then}}
use Rattle.uimg_fit_reading.specs.{declared.listing.lists.Line.Line, Lists.{emitted, line_after}}
use Rattle.uimg_fit_reading.proofs.{PutLaws.stopped, ListLaws.{emitted_append, after_append}}
use Rattle.uimg_fit_reading.proofs.PassedLaws.{failed_of}
use Rattle.uimg_fit_reading.proofs.listing.lists.put_texts.Goals as goal

pub loop-passed-init : goal.loop-passed-init
unfolding emitted line_after
loop-passed-init g c = record { bound = omega arith; faults = refl; line = refl; put = record { appended = Appends-none c.args.out.now.contents } }

pub returns-in_err-line-clause-puts : goal.returns-in_err-line-clause-puts
returns-in_err-line-clause-puts g c = record {
  faults = search rules;
  put = search rules;
  told =
      let failed = failed_of c.from_residual.result c.from_residual.ensures.0 in
      let bytes = c.args.bytes.now in
      let passed = c.loop-passed.passed in
      let piece = c.first_piece-piece.result.now in
      let label = c.args.label.now in
      let line = c.args.line in
      let front : piece ≡ take (length piece) (drop passed bytes) = c.first_piece-piece.ensures.front ∙ ap (take (length piece)) c.left.ensures in
      let here : line_after line (take passed bytes) ≡ c.loop-passed.line = sym c.loop-passed.invariant.line in
      let parts : bytes ≡ take passed bytes ++ (piece ++ drop (length piece) (drop passed bytes)) =
      sym (take-append-drop passed bytes) ∙ ap (λ (w : List ℕ). take passed bytes ++ w)
      (sym (take-append-drop (length piece) (drop passed bytes)) ∙ ap (λ (w : List ℕ). w ++ drop (length piece) (drop passed bytes)) (sym front)) in
      let whole = ap (emitted label line) parts ∙ emitted_append label line (take passed bytes) _
      ∙ ap (λ (w : List ℕ). emitted label line (take passed bytes) ++ w)
      (emitted_append label (line_after line (take passed bytes)) piece _
      ∙ ap (λ (k : Line). emitted label k piece ++ emitted label (line_after (line_after line (take passed bytes)) piece) (drop (length piece) (drop passed bytes))) here) in
      rw failed (stopped c.args.out.now c.loop-passed.out c.put_piece.new.out _ _ _ _ whole c.loop-passed.invariant.put c.in_err-line.ensures.puts.told);
}

pub loop-passed-preserved : goal.loop-passed-preserved
loop-passed-preserved g c =
    let bytes = c.args.bytes.now in
    let passed = c.loop-passed.passed in
    let piece = c.first_piece-piece.result.now in
    let label = c.args.label.now in
    let line = c.args.line in
    let front : piece ≡ take (length piece) (drop passed bytes) = c.first_piece-piece.ensures.front ∙ ap (take (length piece)) c.left.ensures in
    let parts : take (passed + length piece) bytes ≡ take passed bytes ++ piece =
    take-add passed (length piece) bytes ∙ ap (λ (w : List ℕ). take passed bytes ++ w) (sym front) in
    record {
      bound = omega (arith, c.first_piece-piece.ensures.within, ap (λ (w : List ℕ). length w) c.left.ensures, length-drop passed bytes, c.loop-passed-test.true);
      faults = search rules;
      line = c.in_ok-line.ensures.line ∙ ap (λ (k : Line). line_after k piece) c.loop-passed.invariant.line
          ∙ sym (ap (line_after line) parts ∙ after_append line (take passed bytes) piece);
      put = subst (AppendsAll c.args.out.now c.put_piece.new.out)
          (ap (λ (k : Line). emitted label line (take passed bytes) ++ emitted label k piece) c.loop-passed.invariant.line
          ∙ sym (ap (emitted label line) parts ∙ emitted_append label line (take passed bytes) piece))
          (all_then c.args.out.now c.loop-passed.out c.put_piece.new.out _ _ c.loop-passed.invariant.put c.in_ok-line.ensures.puts.told.all);
    }
