use Rattle.std.proofs.{Common.{List, sym, subst}, lemmas.List.Folds.flat_map-map}
use Rattle.uimg_blob_writing.specs.{declared.tree.Node.Node, Content.Content, Pieces.WritesPieces}
use Rattle.uimg_blob_writing.proofs.WritesLaws.{none-yet, went_well, failed, refused, each-goes, each-stops, each-all}
use Rattle.uimg_fit_building.specs.Behind.{entry, payload_pieces}
use Rattle.uimg_fit_building.proofs.building.behind.put_payloads.Goals as goal

pub returns-in_err-put_payload : goal.returns-in_err-put_payload
returns-in_err-put_payload g c =
    let steady = g.F.Opened.Source.steady in
    let m = g.F.Files.map c.args.files.now in
    let n = g.F.Files.map c.loop-image.files in
    let k = g.F.Files.map c.put_payload.new.files in
    let items = c.args.images.now in
    let f : Node g.row.A.Denot → List Content = λ i. payload_pieces c.args.align (entry i) in
    let fault = c.in_err-put_payload.field-0.0 in
    let here = subst (λ (i : Node g.row.A.Denot). WritesPieces steady (failed fault) n k c.loop-image.out c.put_payload.new.out (f i)) c.image-item.is c.in_err-put_payload.ensures in
    let whole = each-stops steady f items c.loop-image.image-index c.image-item.result c.loop-image-test.true m n k c.args.out.now c.loop-image.out c.put_payload.new.out fault c.loop-image.invariant here in
    refused steady c.from_residual.result fault m k c.args.out.now c.put_payload.new.out _ c.from_residual.ensures.1
    (subst (λ (ps : List Content). WritesPieces steady (failed fault) m k c.args.out.now c.put_payload.new.out ps) (sym (flat_map-map (payload_pieces c.args.align) entry items)) whole)

pub loop-image-preserved : goal.loop-image-preserved
loop-image-preserved g c =
    let steady = g.F.Opened.Source.steady in
    let m = g.F.Files.map c.args.files.now in
    let n = g.F.Files.map c.loop-image.files in
    let k = g.F.Files.map c.put_payload.new.files in
    let f : Node g.row.A.Denot → List Content = λ i. payload_pieces c.args.align (entry i) in
    let here = subst (λ (i : Node g.row.A.Denot). WritesPieces steady went_well n k c.loop-image.out c.put_payload.new.out (f i)) c.image-item.is c.in_ok-put_payload.ensures in
    each-goes steady f c.args.images.now c.loop-image.image-index c.image-item.result c.loop-image-test.true m n k c.args.out.now c.loop-image.out c.put_payload.new.out c.loop-image.invariant here

pub returns : goal.returns
returns g c =
    let steady = g.F.Opened.Source.steady in
    let m = g.F.Files.map c.args.files.now in
    let n = g.F.Files.map c.loop-image.files in
    let items = c.args.images.now in
    let f : Node g.row.A.Denot → List Content = λ i. payload_pieces c.args.align (entry i) in
    let whole = each-all steady f items c.loop-image.image-index c.loop-image-test.false m n c.args.out.now c.loop-image.out c.loop-image.invariant in
    subst (λ (ps : List Content). WritesPieces steady went_well m n c.args.out.now c.loop-image.out ps) (sym (flat_map-map (payload_pieces c.args.align) entry items)) whole

pub loop-image-init : goal.loop-image-init
loop-image-init g c = none-yet g.F.Opened.Source.steady (g.F.Files.map c.args.files.now) c.args.out.now
