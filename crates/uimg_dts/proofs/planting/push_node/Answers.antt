use Rattle.uimg_dts.specs.FileValues.{IsSoundNode}
use Rattle.uimg_dts.proofs.SoundLaws.{all_push}
use Rattle.uimg_dts.proofs.planting.push_node.Goals as goal

pub returns : goal.returns
returns g c = λ files all node.
    rw c.in-Ok.ensures.items (all_push (IsSoundNode files) c.args.nodes.now.items c.args.node all node)
