use Rattle.std.proofs.Common.{◌∙◌, sym, arith}
use Rattle.uimg_blob_reading.proofs.LookLaws.{row_child, last_child}
use Rattle.uimg_blob_reading.proofs.nodes.Blob.first_child.Goals as goal

pub returns-then-node-count-clause-child : goal.returns-then-node-count-clause-child
returns-then-node-count-clause-child g c row h = last_child c.args.self.now c.args.room.now.entries c.args.node row h (omega arith)

pub returns-clause-child : goal.returns-clause-child
returns-clause-child g c row h = c.node_under.ensures.under ∙ sym (row_child c.args.self.now c.args.room.now.entries c.args.node row h)
