use Rattle.uimg_its.specs.FileValues.{IsSoundNode}
use Rattle.uimg_its.proofs.SoundLaws.{all_push, parts_push}
use Rattle.uimg_its.proofs.nodes.push_node.Goals as goal

pub returns-clause-pushed : goal.returns-clause-pushed
returns-clause-pushed g c = λ files. parts_push files c.args.nodes.now.items c.args.node _ c.in-Ok.ensures.items

pub returns-clause-sound : goal.returns-clause-sound
returns-clause-sound g c = λ files all node. rw c.in-Ok.ensures.items (all_push (IsSoundNode files) c.args.nodes.now.items c.args.node all node)
