use Rattle.std.proofs.Common.{◌∙◌, ℕ, List, refl, subst, sym, ap, arith, if◌then◌else◌}
use Rattle.uimg_texts.specs.Slices.{slice}
use Rattle.uimg_texts.specs.declared.naming.Naming.TheVariants.{Profile}
use Rattle.uimg_fit_base.specs.declared.algo_sets.AlgoSet.{AlgoSet}
use Rattle.uimg_fit_base.specs.AlgoSets.{is_empty, no_algos, AreDigests}
use Rattle.uimg_fit_reading.specs.HashReports.{AllCovered}
use Rattle.uimg_fit_reading.proofs.{OpenedLaws.still, PlanLaws.{of_answer, if_err}}
use Rattle.uimg_fit_reading.proofs.CompareLaws.{all_covered, read_where_compared}
use Rattle.uimg_fit_reading.proofs.PassedLaws.{failed_of}
use Rattle.uimg_fit_reading.proofs.report.digests.compared_digests.Goals as goal

pub returns-in_err-set-clause-found : goal.returns-in_err-set-clause-found
returns-in_err-set-clause-found g c = λ t o hs at.
    let found = c.in_err-set.ensures.found t o hs at in
    let failed = failed_of c.from_residual.result c.from_residual.ensures.0 in
    record {
      digests = if_err c.from_residual.result _ failed;
      covered = if_err c.from_residual.result _ failed;
      paid = omega (arith, found.paid);
    }

pub returns-clause-found : goal.returns-clause-found
returns-clause-found g c = λ t o hs at.
    let found = c.in_ok-set.ensures.found t o hs at in
    let same = c.compared_algos.ensures.uses.same in
    let here = still same refl o in
    let span = c.args.span in
    record {
      digests = of_answer c.payload_digests.result _ _ (λ x are. subst (λ (xs : List ℕ). AreDigests x (slice xs span.place span.length)) same.bytes are) (c.payload_digests.ensures.digests here.honest);
      covered = of_answer c.payload_digests.result _ _ (λ x is. subst (λ (s : AlgoSet). AllCovered Profile s hs) (sym (is ∙ found.algos)) (all_covered Profile no_algos hs)) c.payload_digests.ensures.set;
      paid = omega (
        arith,
        found.paid,
        c.payload_digests.ensures.uses.asked,
        ap (λ (s : AlgoSet). if is_empty s then 0 else span.length) found.algos,
        read_where_compared Profile hs span.length,
      );
    }
