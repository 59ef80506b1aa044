use Rattle.uimg_tool.proofs.ReportLaws.{asks_for, writes_for}
use Rattle.uimg_tool.proofs.checks.write_report_if.Goals as goal

pub returns-in-Some-report-clause-asks : goal.returns-in-Some-report-clause-asks
returns-in-Some-report-clause-asks g c = asks_for c.args.path c.in-Some.path _ _ c.in-Some.is c.write_report.ensures.asks

pub returns-in-Some-report-clause-writes : goal.returns-in-Some-report-clause-writes
returns-in-Some-report-clause-writes g c =
    writes_for (g.D.World.map c.args.world.now) c.args.path c.in-Some.path c.args.report.now c.in-Some-report.report c.write_report.result _ _ c.in-Some.is c.in-Some-report.is c.write_report.ensures.asks c.write_report.ensures.holds
