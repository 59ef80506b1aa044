use Rattle.std.proofs.Common.{List, [], ◌∷◌}
use Rattle.uimg_blob_writing.specs.{declared.fault.TreeFault.TheVariants.Put, Pieces.padding}
use Rattle.uimg_blob_writing.specs.Content.{Content, bytes, file}
use Rattle.uimg_blob_writing.proofs.WritesLaws.{refused, ◌▶◌, before, all-put, prefix-put}
use Rattle.uimg_blob_writing.proofs.properties.put_from_file.Goals as goal

pub returns-in_err-put_head : goal.returns-in_err-put_head
returns-in_err-put_head g c =
    let rest : List Content = file c.args.name.now c.args.size ∷ bytes (padding c.args.size) ∷ [] in
    refused g.F.Opened.Source.steady _ Put _ _ _ _ _ c.from_residual.ensures.1 (before rest (prefix-put c.in_err-put_head.ensures))

pub returns-in_err-put_file : goal.returns-in_err-put_file
returns-in_err-put_file g c =
    let rest : List Content = bytes (padding c.args.size) ∷ [] in
    refused g.F.Opened.Source.steady _ _ _ _ _ _ _ c.from_residual-in_err-put_file.ensures.1 (all-put c.in_ok-put_head.ensures ▶ before rest c.in_err-put_file.ensures)

pub returns-in_err-put_padding : goal.returns-in_err-put_padding
returns-in_err-put_padding g c =
    refused g.F.Opened.Source.steady _ Put _ _ _ _ _ c.from_residual-in_err-put_padding.ensures.1
    (all-put c.in_ok-put_head.ensures ▶ c.in_ok-put_file.ensures ▶ prefix-put c.in_err-put_padding.ensures)

pub returns : goal.returns
returns g c = all-put c.in_ok-put_head.ensures ▶ c.in_ok-put_file.ensures ▶ all-put c.in_ok-put_padding.ensures
