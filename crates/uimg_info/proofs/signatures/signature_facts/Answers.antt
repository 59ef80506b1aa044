use Rattle.std.proofs.Common.{Some}
use Rattle.uimg_blob_reading.specs.{Indexed.IsRow, Rows.table}
use Rattle.uimg_signing.proofs.NamedLaws.{row_of}
use Rattle.uimg_info.proofs.SignatureLaws.{said_by}
use Rattle.uimg_info.proofs.signatures.signature_facts.Goals as goal

pub returns-clause-said : goal.returns-clause-said
returns-clause-said g c = λ file t indexed.
    let es = c.args.room.now.entries in
    let its = row_of t c.args.blob.now es c.args.signature.configuration indexed c.requires.configuration in
    let row = row_of t c.args.blob.now es c.args.signature.node indexed c.requires.node in
    let r : IsRow c.args.blob.now es c.args.signature.node row.0 = record { nodes = t; indexed = indexed; is = row.1 } in
    said_by file _ _ its.0 row.0 c.name.result c.name-2.result c.value.result c.value-2.result c.value-3.result its.1 row.1
    (c.name.ensures.name its.0 (record { nodes = t; indexed = indexed; is = its.1 })) (c.name-2.ensures.name row.0 r)
    (c.value.ensures.value row.0 r) (c.value-2.ensures.value row.0 r) (c.value-3.ensures.value row.0 r)
