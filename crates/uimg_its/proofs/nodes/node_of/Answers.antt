use Rattle.std.proofs.Common.{ap}
use Rattle.uimg_blob_reading.specs.Plain.{Nodes}
use Rattle.uimg_its.specs.Parts.{NodeParts, props_in_full}
use Rattle.uimg_its.proofs.SoundLaws.{in_full_siblings, siblings_sound}
use Rattle.uimg_its.proofs.nodes.node_of.Goals as goal

pub returns-clause-parts : goal.returns-clause-parts
returns-clause-parts g c = λ files. rw c.of.ensures (ap (λ (t : Nodes). (let n : NodeParts = record { name = c.args.name; props = props_in_full files c.args.props; children = t } in n)) (in_full_siblings files c.args.children.items))

pub returns-clause-sound : goal.returns-clause-sound
returns-clause-sound g c = λ m own kids. rw c.of.ensures (own, siblings_sound m c.args.children.items kids)
