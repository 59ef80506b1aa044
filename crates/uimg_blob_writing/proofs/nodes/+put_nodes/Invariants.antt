use Rattle.std.{proofs.Common.{take, suc}, specs.List.flat_map}
use Rattle.uimg_blob_writing.specs.{Content.count, Names.name_texts, Trees.node_of}
use Rattle.uimg_blob_writing.specs.Pieces.{nodes_pieces, WritesPieces}
use Rattle.uimg_blob_writing.proofs.WritesLaws.{went_well}
use Rattle.uimg_blob_writing.proofs.nodes.+put_nodes.Given as goal

-- a node is more than its children
abbrev pub decreases-put_node : goal.decreases-put_node
decreases-put_node g l = suc (count l.this.node.now.children)

abbrev pub decreases-put_nodes : goal.decreases-put_nodes
decreases-put_nodes g l = count l.these.nodes.now

-- the nodes before the index were written
abbrev pub invariant-put_nodes-loop-node : goal.invariant-put_nodes-loop-node
invariant-put_nodes-loop-node g l =
    WritesPieces g.F.Opened.Source.steady went_well (g.F.Files.map l.fn.files) (g.F.Files.map l.files) l.fn.out l.out
    (flat_map (λ n. nodes_pieces (name_texts l.names) (node_of n)) (take l.node-index l.node-items))
