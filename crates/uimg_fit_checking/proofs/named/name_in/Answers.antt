use Rattle.uimg_texts.specs.Slices.{slice}
use Rattle.uimg_blob_reading.specs.Roles.{in_images}
use Rattle.uimg_fit_checking.proofs.NamedLaws.{gives_name}
use Rattle.uimg_fit_checking.proofs.named.name_in.Goals as goal

pub returns-clause-told : goal.returns-clause-told
returns-clause-told g c = λ honest.
    let file = (g.S.Source.device c.args.source.now).bytes in
    let h = c.in_ok-blob.ensures.gives honest in
    let span = c.name_of.result in
    gives_name file h.nodes c.args.position c.in_ok-image.image (slice file span.place span.length) h.read.is (c.in_ok-image.ensures.told h.nodes h.read.indexed)
    (λ found n. c.name_of.ensures.name file h.nodes h.read in_images found n)
