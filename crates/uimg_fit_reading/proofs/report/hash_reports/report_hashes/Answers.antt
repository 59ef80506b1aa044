use Rattle.std.proofs.Common.{ℕ, List, subst, arith}
use Rattle.uimg_texts.specs.Slices.{slice}
use Rattle.uimg_base.proofs.SinkLaws.{prefix_none}
use Rattle.uimg_fit_reading.specs.HashReports.{PutsHashesBetween}
use Rattle.uimg_fit_reading.proofs.{OpenedLaws.stays, HashReportLaws.costs}
use Rattle.uimg_fit_reading.proofs.report.hash_reports.report_hashes.Goals as goal

pub returns-in_default-clause-told : goal.returns-in_default-clause-told
returns-in_default-clause-told g c = λ t o hs at.
    record {
      right = tt;
      written = record { all = tt; prefix = prefix_none c.args.out.now _ };
      paid = omega (arith, (c.compared_digests.ensures.found t o hs at).paid, costs c.args.image.length hs);
    }

pub returns-clause-told : goal.returns-clause-told
returns-clause-told g c = λ t o hs at.
    let d = g.S.Source.device in
    let image = c.args.image in
    let found = c.in-Ok.ensures.found t o hs at in
    let here = stays c.compared_digests.ensures.keeps o in
    let message = slice (d c.args.fit.now.source.now).bytes c.args.span.place c.args.span.length in
    let put = subst (λ (xs : List ℕ). PutsHashesBetween (slice xs image.place image.length) message image.length hs (d c.compared_digests.new.fit.source.now).asked (d c.put_hashes.new.fit.source.now).asked c.put_hashes.result c.args.out.now c.put_hashes.new.out) c.compared_digests.ensures.keeps.uses.same.bytes
    (c.put_hashes.ensures.told t here hs at message found.digests found.covered) in
    record {
      right = put.right;
      written = put.written;
      paid = omega (arith, found.paid, put.paid, costs image.length hs);
    }
