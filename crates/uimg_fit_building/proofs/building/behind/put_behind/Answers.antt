use Rattle.std.{proofs.Common.{List, sym, subst}, specs.List.flat_map}
use Rattle.uimg_blob_reading.specs.LookUps.{NodeOf}
use Rattle.uimg_blob_writing.specs.{Content.Content, Pieces.WritesPieces, Trees.node_of}
use Rattle.uimg_blob_writing.proofs.WritesLaws.{none-yet, went_well, refused, before, ◌▶◌, all-put, prefix-put}
use Rattle.uimg_fit_base.specs.declared.placement.AlignedPlacement.{AlignedPlacement}
use Rattle.uimg_blob_writing.specs.declared.fault.TreeFault.TheVariants.{Put}
use Rattle.uimg_fit_building.specs.Behind.{images_in, payload_pieces, behind_pieces}
use Rattle.uimg_fit_building.proofs.building.behind.put_behind.Goals as goal

pub returns-in_ok-put_zeros-in-At : goal.returns-in_ok-put_zeros-in-At
returns-in_ok-put_zeros-in-At g c =
    let steady = g.F.Opened.Source.steady in
    let m = g.F.Files.map c.args.files.now in
    let n = g.F.Files.map c.put_payloads-in-At.new.files in
    let r = c.put_payloads-in-At.result in
    let u = c.put_payloads-in-At.new.out in
    let payloads = subst (λ (l : List (NodeOf Content)). WritesPieces steady r m n c.put_zeros.new.out u (flat_map (payload_pieces c.in-At.align) l)) c.images_of-in-At.ensures c.put_payloads-in-At.ensures in
    subst (λ (p : AlignedPlacement). WritesPieces steady r m n c.args.out.now u (behind_pieces c.args.size (node_of c.args.tree.now.root) p)) (sym c.in-At.is)
    (all-put c.in_ok-put_zeros-in-At.ensures ▶ payloads)

pub returns-in-Inside : goal.returns-in-Inside
returns-in-Inside g c =
    let steady = g.F.Opened.Source.steady in
    let m = g.F.Files.map c.args.files.now in
    let s = c.args.out.now in
    subst (λ (p : AlignedPlacement). WritesPieces steady went_well m m s s (behind_pieces c.args.size (node_of c.args.tree.now.root) p)) (sym c.in-Inside.is)
    (none-yet steady m s)

pub returns-in_err-put_zeros-in-At : goal.returns-in_err-put_zeros-in-At
returns-in_err-put_zeros-in-At g c =
    let steady = g.F.Opened.Source.steady in
    let m = g.F.Files.map c.args.files.now in
    let t = node_of c.args.tree.now.root in
    subst (λ (p : AlignedPlacement). WritesPieces steady c.from_residual.result m m c.args.out.now c.put_zeros.new.out (behind_pieces c.args.size t p)) (sym c.in-At.is)
    (refused steady _ Put _ _ _ _ _ c.from_residual.ensures.1 (before (flat_map (payload_pieces c.in-At.align) (images_in t)) (prefix-put c.in_err-put_zeros-in-At.ensures)))
