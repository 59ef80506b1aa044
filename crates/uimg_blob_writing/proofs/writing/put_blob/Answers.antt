use Rattle.std.proofs.Common.{◌≡◌, ◌^◌, ◌+◌, ◌++◌, ℕ, List, [], ◌∷◌, length, replicate, false, true, ap, subst, ◌∙◌, arith}
use Rattle.uimg_base.specs.Writing.{Writes}
use Rattle.uimg_blob_writing.specs.{declared.fault.TreeFault.TheVariants.Put, Names.name_texts}
use Rattle.uimg_blob_writing.specs.{Content.{Content, bytes}, Encoding.{word, reserved, strings}}
use Rattle.uimg_blob_writing.specs.{Layouts.{Plan, plan_end, nodes_size}, Trees.node_of, Alignment.filling}
use Rattle.uimg_blob_writing.specs.Pieces.{nodes_pieces, blob_pieces, WritesPieces}
use Rattle.uimg_blob_writing.proofs.SizeLaws.{small-values}
use Rattle.uimg_blob_writing.proofs.WritesLaws.{went_well, failed, refused, ◌▶◌, before, all-put, prefix-put}
use Rattle.uimg_blob_writing.proofs.writing.put_blob.Goals as goal

pub put_node-requires-clause-fit : goal.put_node-requires-clause-fit
put_node-requires-clause-fit g c =
    let t = node_of c.args.tree.now.root in
    let size : c.layout.inside.structure_size ≡ nodes_size t + 4 = ap (λ (p : Plan). p.structure) (c.layout.view_is ∙ c.requires) in
    small-values (2 ^ 32) t (omega (arith, size))

pub returns-in_err-put_header-clause-writes : goal.returns-in_err-put_header-clause-writes
unfolding blob_pieces
returns-in_err-put_header-clause-writes g c =
    let p = c.args.layout.now in
    let rest = bytes (reserved p.reservations) ∷ nodes_pieces p.names (node_of c.args.tree.now.root) ++ bytes (word 9) ∷ bytes (strings p.names) ∷ bytes (filling p.ending (plan_end p)) ∷ [] in
    refused g.F.Opened.Source.steady _ Put _ _ _ _ _ c.from_residual.ensures.1 (before rest (prefix-put c.in_err-put_header.ensures))

pub returns-in_err-put_reservations-clause-writes : goal.returns-in_err-put_reservations-clause-writes
unfolding blob_pieces
returns-in_err-put_reservations-clause-writes g c =
    let p = c.args.layout.now in
    let is_block : reserved c.layout.inside.reservations.now ≡ reserved p.reservations = ap (λ (q : Plan). reserved q.reservations) c.layout.view_is in
    let block = subst (λ (w : List ℕ). Writes true c.put_header.new.out c.put_reservations.new.out w) is_block c.in_err-put_reservations.ensures in
    let rest = nodes_pieces p.names (node_of c.args.tree.now.root) ++ bytes (word 9) ∷ bytes (strings p.names) ∷ bytes (filling p.ending (plan_end p)) ∷ [] in
    refused g.F.Opened.Source.steady _ Put _ _ _ _ _ c.from_residual-in_err-put_reservations.ensures.1 (all-put c.in_ok-put_header.ensures ▶ before rest (prefix-put block))

pub returns-in_err-put_node-clause-writes : goal.returns-in_err-put_node-clause-writes
unfolding blob_pieces
returns-in_err-put_node-clause-writes g c =
    let p = c.args.layout.now in
    let t = node_of c.args.tree.now.root in
    let m = g.F.Files.map c.args.files.now in
    let n = g.F.Files.map c.put_node.new.files in
    let fault = c.in_err-put_node.field-0.0 in
    let is_block : reserved c.layout.inside.reservations.now ≡ reserved p.reservations = ap (λ (q : Plan). reserved q.reservations) c.layout.view_is in
    let block = subst (λ (w : List ℕ). Writes false c.put_header.new.out c.put_reservations.new.out w) is_block c.in_ok-put_reservations.ensures in
    let is_names : name_texts c.as_slice-names.result.now ≡ p.names = ap name_texts c.as_slice-names.ensures.value ∙ ap (λ (q : Plan). q.names) c.layout.view_is in
    let nodes = subst (λ (ns : List (List ℕ)). WritesPieces g.F.Opened.Source.steady (failed fault) m n c.put_reservations.new.out c.put_node.new.out (nodes_pieces ns t)) is_names c.in_err-put_node.ensures in
    let rest : List Content = bytes (word 9) ∷ bytes (strings p.names) ∷ bytes (filling p.ending (plan_end p)) ∷ [] in
    refused g.F.Opened.Source.steady _ fault _ _ _ _ _ c.from_residual-in_err-put_node.ensures.1 (all-put c.in_ok-put_header.ensures ▶ all-put block ▶ before rest nodes)

pub returns-in_err-put_end-clause-writes : goal.returns-in_err-put_end-clause-writes
unfolding blob_pieces
returns-in_err-put_end-clause-writes g c =
    let p = c.args.layout.now in
    let t = node_of c.args.tree.now.root in
    let m = g.F.Files.map c.args.files.now in
    let n = g.F.Files.map c.put_node.new.files in
    let is_block : reserved c.layout.inside.reservations.now ≡ reserved p.reservations = ap (λ (q : Plan). reserved q.reservations) c.layout.view_is in
    let block = subst (λ (w : List ℕ). Writes false c.put_header.new.out c.put_reservations.new.out w) is_block c.in_ok-put_reservations.ensures in
    let is_names : name_texts c.as_slice-names.result.now ≡ p.names = ap name_texts c.as_slice-names.ensures.value ∙ ap (λ (q : Plan). q.names) c.layout.view_is in
    let nodes = subst (λ (ns : List (List ℕ)). WritesPieces g.F.Opened.Source.steady went_well m n c.put_reservations.new.out c.put_node.new.out (nodes_pieces ns t)) is_names c.in_ok-put_node.ensures in
    let rest : List Content = bytes (strings p.names) ∷ bytes (filling p.ending (plan_end p)) ∷ [] in
    refused g.F.Opened.Source.steady _ Put _ _ _ _ _ c.from_residual-in_err-put_end.ensures.1 (all-put c.in_ok-put_header.ensures ▶ all-put block ▶ nodes ▶ before rest (prefix-put c.in_err-put_end.ensures))

pub returns-in_err-put_strings-clause-writes : goal.returns-in_err-put_strings-clause-writes
unfolding blob_pieces
returns-in_err-put_strings-clause-writes g c =
    let p = c.args.layout.now in
    let t = node_of c.args.tree.now.root in
    let m = g.F.Files.map c.args.files.now in
    let n = g.F.Files.map c.put_node.new.files in
    let is_block : reserved c.layout.inside.reservations.now ≡ reserved p.reservations = ap (λ (q : Plan). reserved q.reservations) c.layout.view_is in
    let block = subst (λ (w : List ℕ). Writes false c.put_header.new.out c.put_reservations.new.out w) is_block c.in_ok-put_reservations.ensures in
    let is_names : name_texts c.as_slice-names.result.now ≡ p.names = ap name_texts c.as_slice-names.ensures.value ∙ ap (λ (q : Plan). q.names) c.layout.view_is in
    let nodes = subst (λ (ns : List (List ℕ)). WritesPieces g.F.Opened.Source.steady went_well m n c.put_reservations.new.out c.put_node.new.out (nodes_pieces ns t)) is_names c.in_ok-put_node.ensures in
    let names = subst (λ (ns : List (List ℕ)). Writes true c.put_end.new.out c.put_strings.new.out (strings ns)) is_names c.in_err-put_strings.ensures in
    let rest : List Content = bytes (filling p.ending (plan_end p)) ∷ [] in
    refused g.F.Opened.Source.steady _ Put _ _ _ _ _ c.from_residual-in_err-put_strings.ensures.1
    (all-put c.in_ok-put_header.ensures ▶ all-put block ▶ nodes ▶ all-put c.in_ok-put_end.ensures ▶ before rest (prefix-put names))

pub returns-in_err-put_zeros-clause-writes : goal.returns-in_err-put_zeros-clause-writes
unfolding blob_pieces
returns-in_err-put_zeros-clause-writes g c =
    let p = c.args.layout.now in
    let t = node_of c.args.tree.now.root in
    let m = g.F.Files.map c.args.files.now in
    let n = g.F.Files.map c.put_node.new.files in
    let is_block : reserved c.layout.inside.reservations.now ≡ reserved p.reservations = ap (λ (q : Plan). reserved q.reservations) c.layout.view_is in
    let block = subst (λ (w : List ℕ). Writes false c.put_header.new.out c.put_reservations.new.out w) is_block c.in_ok-put_reservations.ensures in
    let is_names : name_texts c.as_slice-names.result.now ≡ p.names = ap name_texts c.as_slice-names.ensures.value ∙ ap (λ (q : Plan). q.names) c.layout.view_is in
    let nodes = subst (λ (ns : List (List ℕ)). WritesPieces g.F.Opened.Source.steady went_well m n c.put_reservations.new.out c.put_node.new.out (nodes_pieces ns t)) is_names c.in_ok-put_node.ensures in
    let names = subst (λ (ns : List (List ℕ)). Writes false c.put_end.new.out c.put_strings.new.out (strings ns)) is_names c.in_ok-put_strings.ensures in
    let zeros = subst (λ (k : ℕ). Writes true c.put_strings.new.out c.put_zeros.new.out (replicate k 0)) c.room.ensures c.in_err-put_zeros.ensures in
    refused g.F.Opened.Source.steady _ Put _ _ _ _ _ c.from_residual-in_err-put_zeros.ensures.1
    (all-put c.in_ok-put_header.ensures ▶ all-put block ▶ nodes ▶ all-put c.in_ok-put_end.ensures ▶ all-put names ▶ prefix-put zeros)

pub returns-clause-writes : goal.returns-clause-writes
unfolding blob_pieces
returns-clause-writes g c =
    let p = c.args.layout.now in
    let t = node_of c.args.tree.now.root in
    let m = g.F.Files.map c.args.files.now in
    let n = g.F.Files.map c.put_node.new.files in
    let is_block : reserved c.layout.inside.reservations.now ≡ reserved p.reservations = ap (λ (q : Plan). reserved q.reservations) c.layout.view_is in
    let block = subst (λ (w : List ℕ). Writes false c.put_header.new.out c.put_reservations.new.out w) is_block c.in_ok-put_reservations.ensures in
    let is_names : name_texts c.as_slice-names.result.now ≡ p.names = ap name_texts c.as_slice-names.ensures.value ∙ ap (λ (q : Plan). q.names) c.layout.view_is in
    let nodes = subst (λ (ns : List (List ℕ)). WritesPieces g.F.Opened.Source.steady went_well m n c.put_reservations.new.out c.put_node.new.out (nodes_pieces ns t)) is_names c.in_ok-put_node.ensures in
    let names = subst (λ (ns : List (List ℕ)). Writes false c.put_end.new.out c.put_strings.new.out (strings ns)) is_names c.in_ok-put_strings.ensures in
    let zeros = subst (λ (k : ℕ). Writes false c.put_strings.new.out c.put_zeros.new.out (replicate k 0)) c.room.ensures c.in_ok-put_zeros.ensures in
    all-put c.in_ok-put_header.ensures ▶ all-put block ▶ nodes ▶ all-put c.in_ok-put_end.ensures ▶ all-put names ▶ all-put zeros
