use Rattle.std.proofs.Common.{Ok, Err, Global, subst}
use Rattle.uimg_blob_reading.specs.declared.properties.PropertiesFault.{PropertiesFault}
use Rattle.uimg_blob_reading.specs.declared.properties.PropertiesFault.TheVariants.{Changed}
use Rattle.uimg_blob_reading.specs.Properties.{places_of, OfRowRead, TellsPlaces}
use Rattle.uimg_strict.proofs.PropertyNameLaws.{own_told}
use Rattle.uimg_strict.proofs.node_names.list_properties.Goals as goal

pub returns-in-Ok-clause-told : goal.returns-in-Ok-clause-told
returns-in-Ok-clause-told g c =
    own_told {Z = Global} (g.S.Source.device c.args.source.now) c.args.blob.now c.args.room.now c.args.node (Ok c.in-Ok.places) c.in-Ok.ensures.told

pub returns-in-Err-Changed-clause-told : goal.returns-in-Err-Changed-clause-told
returns-in-Err-Changed-clause-told g c =
    let d = g.S.Source.device c.args.source.now in
    let told =
    subst (λ (fault : PropertiesFault). OfRowRead d c.args.blob.now c.args.room.now.entries c.args.node (λ row. TellsPlaces {Z = Global} d.bytes (places_of row) (Err fault)))
    c.in-Err-Changed.field-0-is c.in-Err-Changed.ensures.told in
    own_told {Z = Global} d c.args.blob.now c.args.room.now c.args.node (Err Changed) told
