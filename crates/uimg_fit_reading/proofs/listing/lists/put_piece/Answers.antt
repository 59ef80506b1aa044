use Rattle.std.proofs.Common.{rules, ◌≡◌, ◌≢◌, ◌++◌, ◌∙◌, subst, sym, ap, refl, ℕ, List, length, true, false}
use Rattle.uimg_texts.specs.Nul.{text}
use Rattle.uimg_base.specs.{Outcome.line, Writing.Written}
use Rattle.uimg_fit_reading.specs.Lists.{start_of}
use Rattle.uimg_fit_reading.proofs.{ListLaws.{piece_open, piece_ended}, PassedLaws.failed_of}
use Rattle.uimg_fit_reading.proofs.listing.lists.put_piece.Goals as goal

pub returns-in_err-put_pair-clause-puts : goal.returns-in_err-put_pair-clause-puts
returns-in_err-put_pair-clause-puts g c = record {
  faults = search rules;
  put = search rules;
  told =
      let failed = failed_of c.from_residual.result c.from_residual.ensures.0 in
      let whole : length (text c.args.piece.now) ≡ length c.args.piece.now = ap (λ (w : List ℕ). length w) (sym c.before_nul-text.ensures) ∙ c.if-text-piece.true in
      let same : c.start_of.result.now ++ c.before_nul-text.result.now ≡ start_of c.args.label.now c.args.line ++ text c.args.piece.now = rw (c.start_of.ensures, c.before_nul-text.ensures) refl in
      rw failed (subst (λ (w : List ℕ). Written true c.args.out.now c.put_pair.new.out w)
      (same ∙ sym (piece_open c.args.label.now c.args.piece.now c.args.line c.requires whole).0) c.in_err-put_pair.ensures.told);
}

pub returns-then-text-piece-clause-line : goal.returns-then-text-piece-clause-line
returns-then-text-piece-clause-line g c =
    let whole : length (text c.args.piece.now) ≡ length c.args.piece.now = ap (λ (w : List ℕ). length w) (sym c.before_nul-text.ensures) ∙ c.if-text-piece.true in
    sym (piece_open c.args.label.now c.args.piece.now c.args.line c.requires whole).1

pub returns-then-text-piece-clause-puts : goal.returns-then-text-piece-clause-puts
returns-then-text-piece-clause-puts g c = record {
  faults = search rules;
  put = search rules;
  told =
      let whole : length (text c.args.piece.now) ≡ length c.args.piece.now = ap (λ (w : List ℕ). length w) (sym c.before_nul-text.ensures) ∙ c.if-text-piece.true in
      let same : c.start_of.result.now ++ c.before_nul-text.result.now ≡ start_of c.args.label.now c.args.line ++ text c.args.piece.now = rw (c.start_of.ensures, c.before_nul-text.ensures) refl in
      subst (λ (w : List ℕ). Written false c.args.out.now c.put_pair.new.out w)
      (same ∙ sym (piece_open c.args.label.now c.args.piece.now c.args.line c.requires whole).0) c.in_ok-put_pair.ensures.told;
}

pub returns-in_err-put_line-clause-puts : goal.returns-in_err-put_line-clause-puts
returns-in_err-put_line-clause-puts g c = record {
  faults = search rules;
  put = search rules;
  told =
      let failed = failed_of c.from_residual-in_err-put_line.result c.from_residual-in_err-put_line.ensures.0 in
      let shorter : length (text c.args.piece.now) ≢ length c.args.piece.now = λ is. c.if-text-piece.false (ap (λ (w : List ℕ). length w) c.before_nul-text.ensures ∙ is) in
      let same : line (c.start_of-2.result.now ++ c.before_nul-text.result.now) ≡ line (start_of c.args.label.now c.args.line ++ text c.args.piece.now) = rw (c.start_of-2.ensures, c.before_nul-text.ensures) refl in
      rw failed (subst (λ (w : List ℕ). Written true c.args.out.now c.put_line.new.out w)
      (same ∙ sym (piece_ended c.args.label.now c.args.piece.now c.args.line c.requires shorter).0) c.in_err-put_line.ensures.told);
}

pub returns-clause-line : goal.returns-clause-line
returns-clause-line g c =
    let shorter : length (text c.args.piece.now) ≢ length c.args.piece.now = λ is. c.if-text-piece.false (ap (λ (w : List ℕ). length w) c.before_nul-text.ensures ∙ is) in
    sym (piece_ended c.args.label.now c.args.piece.now c.args.line c.requires shorter).1

pub returns-clause-puts : goal.returns-clause-puts
returns-clause-puts g c = record {
  faults = search rules;
  put = search rules;
  told =
      let shorter : length (text c.args.piece.now) ≢ length c.args.piece.now = λ is. c.if-text-piece.false (ap (λ (w : List ℕ). length w) c.before_nul-text.ensures ∙ is) in
      let same : line (c.start_of-2.result.now ++ c.before_nul-text.result.now) ≡ line (start_of c.args.label.now c.args.line ++ text c.args.piece.now) = rw (c.start_of-2.ensures, c.before_nul-text.ensures) refl in
      subst (λ (w : List ℕ). Written false c.args.out.now c.put_line.new.out w)
      (same ∙ sym (piece_ended c.args.label.now c.args.piece.now c.args.line c.requires shorter).0) c.in_ok-put_line.ensures.told;
}
