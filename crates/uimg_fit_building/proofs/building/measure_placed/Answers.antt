use Rattle.std.proofs.Common.{Result, Err, sym, subst}
use Rattle.uimg_blob_writing.specs.{Layouts.Plan, Trees.node_of}
use Rattle.uimg_fit_base.specs.declared.fault.Fault.{Fault}
use Rattle.uimg_fit_building.specs.BuildSteps.{MeasuresTree}
use Rattle.uimg_fit_building.proofs.BuildLaws.{measured-err}
use Rattle.uimg_fit_building.proofs.building.measure_placed.Goals as goal

pub returns-in-Err : goal.returns-in-Err
returns-in-Err g c =
    let t = node_of c.args.placed.now.root in
    subst (λ (e : Fault). let r : Result Plan Fault = Err e in MeasuresTree c.args.ending c.args.reservations.now r t) (sym c.of_measure.ensures) (measured-err c.args.ending c.args.reservations.now t c.in-Err.fault c.in-Err.ensures.measured)
