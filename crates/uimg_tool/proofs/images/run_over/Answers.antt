use Rattle.std.proofs.Common.{ap}
use Rattle.uimg_base.specs.Sink.{Sink}
use Rattle.uimg_tool.proofs.RunLaws.{came}
use Rattle.uimg_tool.proofs.images.run_over.Goals as goal

pub returns : goal.returns
returns g c = record {
  means = λ honest. came c.args.request.now _ c.new-out.result c.run_by-end.new.out c.run_by-end.result c.end_of.result _ _ (ap (λ (s : Sink). s.contents) c.new-out.ensures) c.into_inner.ensures c.end_of.ensures (c.run_by-end.ensures.told honest);
}
