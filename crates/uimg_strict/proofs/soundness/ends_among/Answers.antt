use Rattle.std.proofs.Common.{◌≡◌, ℕ, List, Bool, true, false, IsTrue, ap, sym, ◌∙◌, subst, arith}
use Rattle.uimg_texts.specs.Slices.{slice}
use Rattle.uimg_strict.specs.Soundness.{is_last}
use Rattle.uimg_strict.proofs.SoundLaws.{ends_here, ends_later, ends_never}
use Rattle.uimg_strict.proofs.soundness.ends_among.Goals as goal

pub returns-then-branch-clause-told : goal.returns-then-branch-clause-told
returns-then-branch-clause-told g c = λ honest.
    let now = c.loop-left in
    let file = (g.S.Source.device c.args.source.now).bytes in
    let last : is_last (slice file now.next 16) ≡ true =
    ap (λ (xs : List ℕ). is_last (slice xs now.next 16)) (sym now.invariant.same.bytes)
    ∙ sym (c.in_ok-is_last.ensures.told (subst (λ (b : Bool). IsTrue b) (sym now.invariant.same.honest) honest)) ∙ c.if-branch.true in
    ends_here file now.next now.left c.loop-left-test.true last ∙ now.invariant.told honest

pub loop-left-preserved : goal.loop-left-preserved
loop-left-preserved g c =
    let now = c.loop-left in
    let uses = c.in_ok-is_last.ensures.uses in
    record {
      same = record { bytes = uses.same.bytes ∙ now.invariant.same.bytes; honest = uses.same.honest ∙ now.invariant.same.honest };
      failures = uses.failures ∙ now.invariant.failures;
      within = omega (arith, now.invariant.within, c.loop-left-test.true);
      told = λ honest.
          let file = (g.S.Source.device c.args.source.now).bytes in
          let not_last : is_last (slice file now.next 16) ≡ false =
          ap (λ (xs : List ℕ). is_last (slice xs now.next 16)) (sym now.invariant.same.bytes)
          ∙ sym (c.in_ok-is_last.ensures.told (subst (λ (b : Bool). IsTrue b) (sym now.invariant.same.honest) honest)) ∙ c.if-branch.false in
          ends_later file now.next now.left c.loop-left-test.true not_last ∙ now.invariant.told honest;
    }

pub returns-clause-told : goal.returns-clause-told
returns-clause-told g c = λ honest.
    let now = c.loop-left in
    ends_never (g.S.Source.device c.args.source.now).bytes now.next now.left c.loop-left-test.false ∙ now.invariant.told honest
