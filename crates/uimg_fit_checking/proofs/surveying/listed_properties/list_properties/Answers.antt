use Rattle.std.proofs.Common.{Ok, Err, Global, subst}
use Rattle.uimg_blob_reading.specs.declared.properties.PropertiesFault.{PropertiesFault}
use Rattle.uimg_blob_reading.specs.declared.properties.PropertiesFault.TheVariants.{Read, OutOfMemory, Changed}
use Rattle.uimg_blob_reading.specs.Properties.{places_of, OfRowRead, TellsPlaces}
use Rattle.uimg_fit_checking.proofs.FullSurveyLaws.{list_told}
use Rattle.uimg_fit_checking.proofs.surveying.listed_properties.list_properties.Goals as goal

pub returns-in-Ok-clause-told : goal.returns-in-Ok-clause-told
returns-in-Ok-clause-told g c =
    list_told {Z = Global} (g.S.Source.device c.args.source.now) (g.S.Source.device c.properties_of.new.source) c.args.blob.now c.args.room.now c.args.node (Ok c.in-Ok.places) c.in-Ok.ensures.asked c.in-Ok.ensures.told

pub returns-in-Err-Read-clause-told : goal.returns-in-Err-Read-clause-told
returns-in-Err-Read-clause-told g c =
    let d = g.S.Source.device c.args.source.now in
    let told =
    subst (λ (fault : PropertiesFault). OfRowRead d c.args.blob.now c.args.room.now.entries c.args.node (λ row. TellsPlaces {Z = Global} d.bytes (places_of row) (Err fault)))
    c.in-Err-Read.field-0-is c.in-Err-Read.ensures.told in
    list_told {Z = Global} d (g.S.Source.device c.properties_of.new.source) c.args.blob.now c.args.room.now c.args.node (Err Read) c.in-Err-Read.ensures.asked told

pub returns-in-Err-OutOfMemory-clause-told : goal.returns-in-Err-OutOfMemory-clause-told
returns-in-Err-OutOfMemory-clause-told g c =
    let d = g.S.Source.device c.args.source.now in
    let told =
    subst (λ (fault : PropertiesFault). OfRowRead d c.args.blob.now c.args.room.now.entries c.args.node (λ row. TellsPlaces {Z = Global} d.bytes (places_of row) (Err fault)))
    c.in-Err-OutOfMemory.field-0-is c.in-Err-OutOfMemory.ensures.told in
    list_told {Z = Global} d (g.S.Source.device c.properties_of.new.source) c.args.blob.now c.args.room.now c.args.node (Err OutOfMemory) c.in-Err-OutOfMemory.ensures.asked told

pub returns-in-Err-Changed-clause-told : goal.returns-in-Err-Changed-clause-told
returns-in-Err-Changed-clause-told g c =
    let d = g.S.Source.device c.args.source.now in
    let told =
    subst (λ (fault : PropertiesFault). OfRowRead d c.args.blob.now c.args.room.now.entries c.args.node (λ row. TellsPlaces {Z = Global} d.bytes (places_of row) (Err fault)))
    c.in-Err-Changed.field-0-is c.in-Err-Changed.ensures.told in
    list_told {Z = Global} d (g.S.Source.device c.properties_of.new.source) c.args.blob.now c.args.room.now c.args.node (Err Changed) c.in-Err-Changed.ensures.asked told
