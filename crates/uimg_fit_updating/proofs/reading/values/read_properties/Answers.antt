use Rattle.std.proofs.Common.{◌≡◌, ◌∙◌, ℕ, List, map, Bool, IsTrue, IfOk, ap, sym, subst}
use Rattle.uimg_blob_reading.specs.{Plain.NamedOf, Spots.Spot, Properties.places_of, Places.read_place}
use Rattle.uimg_blob_writing.specs.Content.{Content}
use Rattle.uimg_fit_reading.proofs.NodeLaws.{node_row}
use Rattle.uimg_fit_updating.specs.Reading.{held_property, read_property}
use Rattle.uimg_fit_updating.proofs.ReadLaws.{read_held, row_lies}
use Rattle.uimg_fit_updating.proofs.reading.values.read_properties.Goals as goal

pub returns-clause-told : goal.returns-clause-told
returns-clause-told g c = λ t opened level found n.
    let d = g.S.Source.device c.args.source.now in
    let read = opened.read in
    let r = node_row t level c.args.node found n in
    let places = c.in_ok-places.places.items in
    let told : map (read_place d.bytes) places ≡ places_of r.row = c.in_ok-places.ensures.told opened.honest t read.is read.indexed read.totalsize r.row r.is in
    let same = c.in_ok-places.ensures.uses.same in
    let honest = subst (λ (b : Bool). IsTrue b) (sym same.honest) opened.honest in
    let is : map (read_property (g.S.Source.device c.properties_of.new.source).bytes) c.deref.result.now ≡ map held_property found.own =
    ap (λ (b : List ℕ). map (read_property b) c.deref.result.now) same.bytes ∙ ap (map (read_property d.bytes)) c.deref.ensures.value
    ∙ read_held d.bytes places r.row.own told (row_lies d.bytes t c.args.node r.row read.is r.is)
    ∙ ap (λ (own : List (NamedOf Spot)). map held_property own) r.own in
    subst (λ (own : List (NamedOf Content)). IfOk c.read_listed.result (λ props. props ≡ own)) is (c.read_listed.ensures.told honest)
