use Rattle.uimg_blob_reading.proofs.LookLaws.{value_some}
use Rattle.uimg_blob_reading.proofs.nodes.value_in.Goals as goal

pub returns-else-word-eq0 : goal.returns-else-word-eq0
returns-else-word-eq0 c found placed is = value_some found c.args.word c.span_in.result c.if-word-eq0.false placed is c.span_in.ensures
