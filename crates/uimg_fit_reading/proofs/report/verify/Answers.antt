use Rattle.std.proofs.Common.{rules, ◌≤◌, ◌+◌, IsTrue, ℕ, List, refl, subst, arith}
use Rattle.uimg_fit_reading.specs.{ImageReports.ReportsImagesBetween, Nodes.Opened}
use Rattle.uimg_fit_reading.specs.Work.{verify_work}
use Rattle.uimg_fit_reading.proofs.{OpenedLaws.still, ReportLaws.{found_told, work_within}}
use Rattle.uimg_fit_reading.proofs.report.verify.Goals as goal

pub returns-clause-delivers : goal.returns-clause-delivers
returns-clause-delivers g c = record {
  uses = record {
    same = search rules;
    asked =
        let d = g.S.Source.device in
        let paid : IsTrue (d c.args.source.now).honest → (d c.report_images.new.fit.source.now).asked ≤ (d c.args.source.now).asked + verify_work (d c.args.source.now).bytes = λ honest.
        let file = (d c.args.source.now).bytes in
        let h = c.in_ok-blob.ensures.gives honest in
        let same = c.read_tree.ensures.inspects.uses.same in
        let found = c.in_ok-first.ensures.told h.nodes h.read.indexed in
        let opened : Opened (d c.args.source.now) c.in_ok-blob.blob c.read_tree.new.room h.nodes = record { honest = honest; read = h.read } in
        let told = subst (λ (xs : List ℕ). ReportsImagesBetween xs found.found (d c.read_tree.new.source).asked (d c.report_images.new.fit.source.now).asked c.report_images.result c.args.out.now c.report_images.new.out) same.bytes
        (c.report_images.ensures.told h.nodes (still same refl opened) found.found found.from) in
        omega (arith, c.read_tree.ensures.inspects.uses.asked honest, told.paid, work_within file h.nodes found.found h.read.is found.is) in
        search rules;
    failures = search rules;
  };
  room = search rules;
  faults = search rules;
  no_making = search rules;
}

pub returns-clause-told : goal.returns-clause-told
returns-clause-told g c = λ honest.
    let d = g.S.Source.device in
    let file = (d c.args.source.now).bytes in
    let h = c.in_ok-blob.ensures.gives honest in
    let same = c.read_tree.ensures.inspects.uses.same in
    let found = c.in_ok-first.ensures.told h.nodes h.read.indexed in
    let opened : Opened (d c.args.source.now) c.in_ok-blob.blob c.read_tree.new.room h.nodes = record { honest = honest; read = h.read } in
    let told = subst (λ (xs : List ℕ). ReportsImagesBetween xs found.found (d c.read_tree.new.source).asked (d c.report_images.new.fit.source.now).asked c.report_images.result c.args.out.now c.report_images.new.out) same.bytes
    (c.report_images.ensures.told h.nodes (still same refl opened) found.found found.from) in
    found_told file h.nodes found.found c.report_images.result c.args.out.now c.report_images.new.out h.read.is found.is told.told
