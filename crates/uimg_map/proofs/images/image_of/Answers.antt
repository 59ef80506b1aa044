use Rattle.std.proofs.Common.{◌≡◌, ◌∙◌, ap, sym}
use Rattle.uimg_base.specs.declared.spans.Span.{Span}
use Rattle.uimg_texts.specs.Slices.{slice}
use Rattle.uimg_blob_reading.specs.{Roles.in_images, Rows.table}
use Rattle.uimg_fit_reading.proofs.NodeLaws.{name_stands, node_row}
use Rattle.uimg_map.specs.Signatures.{covered_by}
use Rattle.uimg_map.proofs.ImageLaws.{told_is}
use Rattle.uimg_signing.specs.Listing.{name_in}
use Rattle.uimg_map.proofs.images.image_of.Goals as goal

pub returns-in_err-covered-clause-asked : goal.returns-in_err-covered-clause-asked
returns-in_err-covered-clause-asked g c = λ t opened found n.
    let r = node_row t in_images c.args.image found n in
    c.covered_by.ensures.asked opened.honest t opened.read.is opened.read.indexed opened.read.totalsize r.row r.is

pub returns-clause-asked : goal.returns-clause-asked
returns-clause-asked g c = λ t opened found n.
    let r = node_row t in_images c.args.image found n in
    c.in_ok-covered.ensures.asked opened.honest t opened.read.is opened.read.indexed opened.read.totalsize r.row r.is

pub returns-clause-said : goal.returns-clause-said
returns-clause-said g c = λ t opened found n.
    let file = (g.S.Source.device c.args.source.now).bytes in
    let r = node_row t in_images c.args.image found n in
    let stands = name_stands file _ _ t in_images c.args.image found c.name-name.result opened.read n c.name-name.ensures.name in
    let at = c.name-name.ensures.name r.row (record { nodes = t; indexed = opened.read.indexed; is = r.is }) in
    let called : name_in file r.row ≡ found.name = sym (ap (λ (s : Span). slice file s.place s.length) at) ∙ stands.0 in
    told_is _ _ _ _ _ _ stands.0 (c.payload_facts-payload.ensures.said file t opened.read found n)
    (c.in_ok-covered.ensures.told opened.honest t opened.read.is opened.read.indexed opened.read.totalsize r.row r.is ∙ ap (λ name. covered_by file (table t) name c.args.signatures.now) called)
