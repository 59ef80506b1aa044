use Rattle.std.proofs.Common.{Option, false, ap}
use Rattle.uimg_checks.specs.TestReports.{Reported}
use Rattle.uimg_tool.specs.Checks.{Told}
use Rattle.uimg_tool.proofs.CheckLaws.{checks_told}
use Rattle.uimg_tool.proofs.checks.check_by.Goals as goal

pub returns-in-Ok-clause-means : goal.returns-in-Ok-clause-means
returns-in-Ok-clause-means g c =
    let begun = λ (report : Option Reported). let it : Told = record {
      greatest = 0;
      has_checked = false;
      skipped = 0;
      report = report;
      text = g.W.Write.contents c.args.out.now;
      trace = g.D.World.trace c.args.world.now;
    } in it in
    checks_told (g.D.World.map c.args.world.now) _ c.args.asked.now c.check_all.new.self _ _ _ _ _ _ _ _ (ap begun c.report_for.ensures) c.check_all.ensures.same c.in-Ok.ensures.told c.end_checks.ensures.ends
