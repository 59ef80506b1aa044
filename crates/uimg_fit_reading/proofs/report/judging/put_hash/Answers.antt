use Rattle.std.{proofs.Common.{ℕ, List, true, false, refl, subst, arith}, specs.Prelude.Ok}
use Rattle.uimg_texts.specs.Slices.{slice}
use Rattle.uimg_base.{specs.Writing.Written, proofs.SinkLaws.prefix_none}
use Rattle.uimg_fit_reading.specs.HashReports.{verdict_line}
use Rattle.uimg_fit_reading.proofs.{OpenedLaws.still, PlanLaws.if_err, LineLaws.puts_line}
use Rattle.uimg_fit_reading.proofs.PassedLaws.{failed_of}
use Rattle.uimg_fit_reading.proofs.report.judging.put_hash.Goals as goal

pub returns-in_default-clause-told : goal.returns-in_default-clause-told
returns-in_default-clause-told g c = λ t o found more at message are covered.
    record { word = tt; written = record { all = tt; prefix = prefix_none c.args.out.now _ }; paid = omega (arith, c.judge.ensures.uses.asked) }

pub returns-in_err-put_judged-clause-told : goal.returns-in_err-put_judged-clause-told
returns-in_err-put_judged-clause-told g c = λ t o found more at message are covered.
    let same = c.judge.ensures.uses.same in
    let here = still same refl o in
    let image = c.args.image in
    let failed = failed_of c.from_residual.result c.from_residual.ensures.0 in
    let put = c.in_err-put_judged.ensures.told t here found more at in
    let written = subst (λ (xs : List ℕ). Written true c.args.out.now c.put_judged.new.out (verdict_line (slice xs image.place image.length) c.in-Ok.word found)) same.bytes put.written in
    puts_line _ message image.length found _ _ _ c.in-Ok.word c.from_residual.result true c.args.out.now c.put_judged.new.out
    (c.in-Ok.ensures.word t o found more at message are covered) (if_err c.from_residual.result _ failed) failed written put.asked c.judge.ensures.uses.asked

pub returns-clause-told : goal.returns-clause-told
returns-clause-told g c = λ t o found more at message are covered.
    let same = c.judge.ensures.uses.same in
    let here = still same refl o in
    let image = c.args.image in
    let put = c.in_ok-put_judged.ensures.told t here found more at in
    let written = subst (λ (xs : List ℕ). Written false c.args.out.now c.put_judged.new.out (verdict_line (slice xs image.place image.length) c.in-Ok.word found)) same.bytes put.written in
    puts_line _ message image.length found _ _ _ c.in-Ok.word (Ok c.in-Ok.word) false c.args.out.now c.put_judged.new.out
    (c.in-Ok.ensures.word t o found more at message are covered) refl refl written put.asked c.judge.ensures.uses.asked
