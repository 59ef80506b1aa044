use Rattle.uimg_info.proofs.PieceLaws.{cut_some_at, cut_none_at}
use Rattle.uimg_info.proofs.members.cut.Goals as goal

pub returns-in-Some-clause-pieces : goal.returns-in-Some-clause-pieces
returns-in-Some-clause-pieces c = cut_some_at c.args.bytes.now c.in-Some.end c.in-Some.ensures.within c.in-Some.ensures.text

pub returns-in-None-clause-pieces : goal.returns-in-None-clause-pieces
returns-in-None-clause-pieces c = cut_none_at c.args.bytes.now c.requires c.in-None.ensures.text
