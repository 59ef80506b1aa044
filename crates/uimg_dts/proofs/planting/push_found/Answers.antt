use Rattle.std.proofs.Common.{subst, Option}
use Rattle.uimg_blob_writing.specs.declared.tree.Node.{Node}
use Rattle.uimg_dts.specs.FileValues.{IsSoundIfFound}
use Rattle.uimg_dts.proofs.planting.push_found.Goals as goal

pub returns : goal.returns
returns g c = λ files all found.
    c.in_ok-push_node.ensures files all (subst (λ (o : Option (Node g.row.A.Denot)). IsSoundIfFound files o) c.in-Some.is found)
