use Rattle.std.proofs.Common.{Err, Global, subst}
use Rattle.uimg_blob_reading.specs.declared.properties.PropertiesFault.{PropertiesFault}
use Rattle.uimg_blob_reading.specs.Properties.{places_of, TellsPlaces}
use Rattle.uimg_info.proofs.InsideLaws.{places_more}
use Rattle.uimg_info.proofs.statements.list_properties.Goals as goal

pub returns-in-Ok-clause-inside : goal.returns-in-Ok-clause-inside
returns-in-Ok-clause-inside g c = places_more _ _ c.in-Ok.places c.in-Ok.ensures.inside.within c.in-Ok.ensures.inside.ends

pub returns-in-Err-Changed-clause-told : goal.returns-in-Err-Changed-clause-told
returns-in-Err-Changed-clause-told g c = λ honest t is indexed totalsize row at.
    let d = g.S.Source.device c.args.source.now in
    absurd (subst (λ (fault : PropertiesFault). TellsPlaces {Z = Global} d.bytes (places_of row) (Err fault))
    c.in-Err-Changed.field-0-is (c.in-Err-Changed.ensures.told honest t is indexed totalsize row at))
