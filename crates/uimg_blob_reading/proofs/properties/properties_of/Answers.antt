use Rattle.std.proofs.Common.{◌∙◌, Ok, Err, refl}
use Rattle.uimg_blob_reading.proofs.TellLaws.{passed, told_row}
use Rattle.uimg_blob_reading.proofs.properties.properties_of.Goals as goal

pub returns-in_err-places-clause-asked : goal.returns-in_err-places-clause-asked
returns-in_err-places-clause-asked g c = λ honest t is indexed total row at.
    let d = g.S.Source.device c.args.source.now in
    let e = g.S.Source.device c.extent_again.new.source in
    let name = c.name-name.ensures.name row (record { nodes = t; indexed = indexed; is = at }) in
    (told_row d e c.in_ok-extent.extent t c.args.node row c.name-name.result c.up4.result c.gather.result c.gather.result (g.S.Source.device c.gather.new.source).asked refl c.extent_again.ensures.uses.same
    is (c.in_ok-extent.ensures.again honest t is (c.totalsize.ensures ∙ total)) at name c.up4.ensures c.extent_again.ensures.uses.asked c.gather.ensures.told honest).1

pub returns-in_err-places-clause-told : goal.returns-in_err-places-clause-told
returns-in_err-places-clause-told g c = λ honest t is indexed total row at.
    let d = g.S.Source.device c.args.source.now in
    let e = g.S.Source.device c.extent_again.new.source in
    let name = c.name-name.ensures.name row (record { nodes = t; indexed = indexed; is = at }) in
    let fault = c.in_err-places.field-0.0 in
    (told_row d e c.in_ok-extent.extent t c.args.node row c.name-name.result c.up4.result (Err fault) c.from_residual-in_err-places.result (g.S.Source.device c.gather.new.source).asked
    (passed c.from_residual-in_err-places.result fault c.from_residual-in_err-places.ensures.1) c.extent_again.ensures.uses.same
    is (c.in_ok-extent.ensures.again honest t is (c.totalsize.ensures ∙ total)) at name c.up4.ensures c.extent_again.ensures.uses.asked c.in_err-places.ensures.told honest).0

pub returns-clause-asked : goal.returns-clause-asked
returns-clause-asked g c = λ honest t is indexed total row at.
    let d = g.S.Source.device c.args.source.now in
    let e = g.S.Source.device c.extent_again.new.source in
    let name = c.name-name.ensures.name row (record { nodes = t; indexed = indexed; is = at }) in
    (told_row d e c.in_ok-extent.extent t c.args.node row c.name-name.result c.up4.result c.gather.result c.gather.result (g.S.Source.device c.gather.new.source).asked refl c.extent_again.ensures.uses.same
    is (c.in_ok-extent.ensures.again honest t is (c.totalsize.ensures ∙ total)) at name c.up4.ensures c.extent_again.ensures.uses.asked c.gather.ensures.told honest).1

pub returns-clause-told : goal.returns-clause-told
returns-clause-told g c = λ honest t is indexed total row at.
    let d = g.S.Source.device c.args.source.now in
    let e = g.S.Source.device c.extent_again.new.source in
    let name = c.name-name.ensures.name row (record { nodes = t; indexed = indexed; is = at }) in
    (told_row d e c.in_ok-extent.extent t c.args.node row c.name-name.result c.up4.result (Ok c.in_ok-places.places) (Ok c.in_ok-places.places) (g.S.Source.device c.gather.new.source).asked refl c.extent_again.ensures.uses.same
    is (c.in_ok-extent.ensures.again honest t is (c.totalsize.ensures ∙ total)) at name c.up4.ensures c.extent_again.ensures.uses.asked c.in_ok-places.ensures.told honest).0
