use Rattle.std.proofs.Common.{◌≡◌, ◌∙◌, [], List, ap, sym, subst}
use Rattle.uimg_blob_writing.{specs.{Content.Content, Pieces.WritesPieces}, proofs.WritesLaws.{none-yet, went_well}}
use Rattle.uimg_fit_building.specs.Behind.{entry, padded_pieces, payload_pieces}
use Rattle.uimg_fit_building.proofs.ImageFillLaws.{content-none}
use Rattle.uimg_fit_building.proofs.building.behind.put_payload.Goals as goal

pub returns-in-None : goal.returns-in-None
returns-in-None g c =
    let steady = g.F.Opened.Source.steady in
    let m = g.F.Files.map c.args.files.now in
    let s = c.args.out.now in
    let none : payload_pieces c.args.align (entry c.args.image.now) ≡ [] =
    ap (padded_pieces c.args.align) (sym c.payload_of.ensures ∙ content-none _ c.payload_of.result c.in-None.is) in
    subst (λ (ps : List Content). WritesPieces steady went_well m m s s ps) (sym none) (none-yet steady m s)
