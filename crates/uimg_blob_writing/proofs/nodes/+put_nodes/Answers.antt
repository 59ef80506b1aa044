use Rattle.std.proofs.Common.{◌≡◌, ◌<◌, ◌^◌, ◌++◌, ℕ, List, [], ◌∷◌, suc, true, false, ap, sym, subst, ◌∙◌, arith}
use Rattle.std.specs.List.{flat_map}
use Rattle.uimg_base.specs.Writing.{Writes}
use Rattle.uimg_blob_reading.specs.Plain.{AllValues}
use Rattle.uimg_blob_writing.specs.declared.{fault.TreeFault.TheVariants.Put, tree.Node.Node}
use Rattle.uimg_blob_writing.specs.{Content.{Content, Unread, bytes, size_of, count}, Encoding.word}
use Rattle.uimg_blob_writing.specs.{Names.name_texts, Trees.{siblings, node_of}}
use Rattle.uimg_blob_writing.specs.Pieces.{begin_bytes, property_pieces, nodes_pieces, WritesPieces}
use Rattle.uimg_blob_writing.proofs.NodeLaws.{siblings-pieces, values-at, count-at}
use Rattle.uimg_blob_writing.proofs.WritesLaws.{none-yet, went_well, failed, refused, ◌▶◌, before, all-put, prefix-put, each-goes, each-stops, each-all}
use Rattle.uimg_blob_writing.proofs.nodes.+put_nodes.Goals as goal

pub put_node-returns-in_err-put_begin_node : goal.put_node-returns-in_err-put_begin_node
unfolding nodes_pieces
put_node-returns-in_err-put_begin_node g t c =
    let names = name_texts c.args.names.now in
    let node = c.args.this.node.now in
    let begin = subst (λ (n : List ℕ). Writes true c.args.out.now c.put_begin_node.new.out (begin_bytes n)) c.items.ensures c.in_err-put_begin_node.ensures in
    let rest = flat_map (property_pieces names) node.props ++ (nodes_pieces names node.children ++ bytes (word 2) ∷ []) in
    refused g.F.Opened.Source.steady _ Put _ _ _ _ _ c.from_residual.ensures.1 (before rest (prefix-put begin))

pub put_node-returns-in_err-put_properties : goal.put_node-returns-in_err-put_properties
unfolding nodes_pieces
put_node-returns-in_err-put_properties g t c =
    let names = name_texts c.args.names.now in
    let node = c.args.this.node.now in
    let begin = subst (λ (n : List ℕ). Writes false c.args.out.now c.put_begin_node.new.out (begin_bytes n)) c.items.ensures c.in_ok-put_begin_node.ensures in
    let rest = nodes_pieces names node.children ++ bytes (word 2) ∷ [] in
    refused g.F.Opened.Source.steady _ _ _ _ _ _ _ c.from_residual-in_err-put_properties.ensures.1 (all-put begin ▶ before rest c.in_err-put_properties.ensures)

pub put_node-returns-in_err-put_nodes : goal.put_node-returns-in_err-put_nodes
unfolding nodes_pieces
put_node-returns-in_err-put_nodes g t c =
    let begin = subst (λ (n : List ℕ). Writes false c.args.out.now c.put_begin_node.new.out (begin_bytes n)) c.items.ensures c.in_ok-put_begin_node.ensures in
    refused g.F.Opened.Source.steady _ _ _ _ _ _ _ c.from_residual-in_err-put_nodes.ensures.1 (all-put begin ▶ c.in_ok-put_properties.ensures ▶ before (bytes (word 2) ∷ []) c.in_err-put_nodes.ensures)

pub put_node-returns-in_err-put_end_node : goal.put_node-returns-in_err-put_end_node
unfolding nodes_pieces
put_node-returns-in_err-put_end_node g t c =
    let begin = subst (λ (n : List ℕ). Writes false c.args.out.now c.put_begin_node.new.out (begin_bytes n)) c.items.ensures c.in_ok-put_begin_node.ensures in
    refused g.F.Opened.Source.steady _ _ _ _ _ _ _ c.from_residual-in_err-put_end_node.ensures.1 (all-put begin ▶ c.in_ok-put_properties.ensures ▶ c.in_ok-put_nodes.ensures ▶ prefix-put c.in_err-put_end_node.ensures)

pub put_node-returns : goal.put_node-returns
unfolding nodes_pieces
put_node-returns g t c =
    let begin = subst (λ (n : List ℕ). Writes false c.args.out.now c.put_begin_node.new.out (begin_bytes n)) c.items.ensures c.in_ok-put_begin_node.ensures in
    all-put begin ▶ c.in_ok-put_properties.ensures ▶ c.in_ok-put_nodes.ensures ▶ all-put c.in_ok-put_end_node.ensures

pub put_nodes-put_node-requires : goal.put_nodes-put_node-requires
put_nodes-put_node-requires g t c κs h =
    let items = c.items-node-items.result.now in
    let i = c.loop-node.node-index in
    let d = c.node-item.result in
    let P : Content → Type 0 = λ c. size_of c < 2 ^ 32 in
    let all_fit = subst (λ (l : Unread). AllValues P l) (sym c.items-node-items.ensures) c.requires.fit in
    let fit = subst (λ (n : Node g.row.A.Denot). AllValues P (node_of n)) (sym c.node-item.is) (values-at P items i d c.loop-node-test.true all_fit) in
    let less = subst (λ (n : Node g.row.A.Denot). suc (count n.children) < count (siblings items)) (sym c.node-item.is) (count-at items i d c.loop-node-test.true) in
    let whole : count (siblings items) ≡ count c.args.these.nodes.now = ap (λ (l : Unread). count l) c.items-node-items.ensures in
    let below : suc (count d.children) < t = omega (arith, less, whole, c.decreases) in
    (below, (h.0, (h.1.0, (h.1.1.0, (h.1.1.1, (c.requires.strings, fit))))))

pub put_nodes-returns-in_err-put_node : goal.put_nodes-returns-in_err-put_node
put_nodes-returns-in_err-put_node g t c =
    let m = g.F.Files.map c.args.files.now in
    let n = g.F.Files.map c.loop-node.files in
    let k = g.F.Files.map c.put_node.new.files in
    let s = c.args.out.now in
    let items = c.items-node-items.result.now in
    let names = name_texts c.args.names.now in
    let f : Node g.row.A.Denot → List Content = λ n. nodes_pieces names (node_of n) in
    let fault = c.in_err-put_node.field-0.0 in
    let here = subst (λ (x : Node g.row.A.Denot). WritesPieces g.F.Opened.Source.steady (failed fault) n k c.loop-node.out c.put_node.new.out (f x)) c.node-item.is c.in_err-put_node.ensures in
    let whole = each-stops g.F.Opened.Source.steady f items c.loop-node.node-index c.node-item.result c.loop-node-test.true m n k s c.loop-node.out c.put_node.new.out fault c.loop-node.invariant here in
    refused g.F.Opened.Source.steady c.from_residual.result fault m k s c.put_node.new.out _ c.from_residual.ensures.1
    (subst (λ (ps : List Content). WritesPieces g.F.Opened.Source.steady (failed fault) m k s c.put_node.new.out ps)
    (siblings-pieces names items ∙ ap (λ (l : Unread). nodes_pieces names l) c.items-node-items.ensures) whole)

pub put_nodes-loop-node-preserved : goal.put_nodes-loop-node-preserved
put_nodes-loop-node-preserved g t c =
    let m = g.F.Files.map c.args.files.now in
    let n = g.F.Files.map c.loop-node.files in
    let k = g.F.Files.map c.put_node.new.files in
    let items = c.items-node-items.result.now in
    let f : Node g.row.A.Denot → List Content = λ n. nodes_pieces (name_texts c.args.names.now) (node_of n) in
    let here = subst (λ (x : Node g.row.A.Denot). WritesPieces g.F.Opened.Source.steady went_well n k c.loop-node.out c.put_node.new.out (f x)) c.node-item.is c.in_ok-put_node.ensures in
    each-goes g.F.Opened.Source.steady f items c.loop-node.node-index c.node-item.result c.loop-node-test.true m n k c.args.out.now c.loop-node.out c.put_node.new.out c.loop-node.invariant here

pub put_nodes-returns : goal.put_nodes-returns
put_nodes-returns g t c =
    let m = g.F.Files.map c.args.files.now in
    let n = g.F.Files.map c.loop-node.files in
    let items = c.items-node-items.result.now in
    let names = name_texts c.args.names.now in
    let f : Node g.row.A.Denot → List Content = λ n. nodes_pieces names (node_of n) in
    let whole = each-all g.F.Opened.Source.steady f items c.loop-node.node-index c.loop-node-test.false m n c.args.out.now c.loop-node.out c.loop-node.invariant in
    subst (λ (ps : List Content). WritesPieces g.F.Opened.Source.steady went_well m n c.args.out.now c.loop-node.out ps)
    (siblings-pieces names items ∙ ap (λ (l : Unread). nodes_pieces names l) c.items-node-items.ensures) whole

pub put_nodes-loop-node-init : goal.put_nodes-loop-node-init
put_nodes-loop-node-init g t c = none-yet g.F.Opened.Source.steady (g.F.Files.map c.args.files.now) c.args.out.now
