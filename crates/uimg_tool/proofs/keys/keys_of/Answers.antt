use Rattle.uimg_tool.proofs.KeyLaws.{keys_at}
use Rattle.uimg_tool.proofs.keys.keys_of.Goals as goal

pub returns-in-Ok-required_by-clause-keys : goal.returns-in-Ok-required_by-clause-keys
returns-in-Ok-required_by-clause-keys g c =
    let read = c.in-Ok-required_by.ensures in
    keys_at (g.D.World.map c.args.world.now) c.args.asked c.in-Some.asked c.in-Ok-required_by.required read.0 (g.D.Opened.Source.device c.in-Ok.source) c.in-Some.is c.in-Ok.ensures.opened read.1 read.2
