use Rattle.uimg_world.specs.Deeds.{answer_of}
use Rattle.uimg_tool.proofs.ReportLaws.{filled, unfilled}
use Rattle.uimg_tool.proofs.reports.fill.Goals as goal

pub returns-in-Ok : goal.returns-in-Ok
returns-in-Ok g c = record { fills = filled _ _ _ _ _ c.close-closed.result _ _ c.close-closed.ensures c.in-Ok.ensures }

pub returns-in-Err : goal.returns-in-Err
returns-in-Err g c = record { fills = unfilled _ _ _ _ _ (answer_of c.close-closed.result) _ _ _ c.close-closed.ensures }
