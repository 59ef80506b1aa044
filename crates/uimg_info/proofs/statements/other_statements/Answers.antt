use Rattle.std.proofs.Common.{List, map, IsTrue, refl, ap, sym, subst, ◌∙◌}
use Rattle.std.specs.List.{flat_map}
use Rattle.uimg_base.specs.Held.{Held}
use Rattle.uimg_blob_reading.specs.{Indexed.IsRow, Places.read_place, Properties.places_of, declared.places.PropertyPlace.PropertyPlace}
use Rattle.uimg_fit_reading.specs.declared.places.PayloadFacts.{PayloadFacts}
use Rattle.uimg_info.specs.Statement.{all_stated}
use Rattle.uimg_info.specs.Statements.{payload_facts_of, place_stated, properties_stated, property_if}
use Rattle.uimg_info.proofs.StatementLaws.{own_passed, flat_map_map}
use Rattle.uimg_info.proofs.statements.other_statements.Goals as goal

pub returns-in_err-places-clause-told : goal.returns-in_err-places-clause-told
returns-in_err-places-clause-told g c = λ honest t is indexed totalsize row at.
    let file = (g.S.Source.device c.args.source.now).bytes in
    own_passed all_stated (properties_stated file c.args.path.now (payload_facts_of row) (places_of row)) c.from_residual.result c.in_err-places.field-0.0 c.from_residual.ensures.1
    (c.in_err-places.ensures.told honest t is indexed totalsize row at)

pub returns-clause-told : goal.returns-clause-told
returns-clause-told g c = λ honest t is indexed totalsize row at.
    let file = (g.S.Source.device c.args.source.now).bytes in
    let path = c.args.path.now in
    let r : IsRow c.args.blob.now c.args.room.now.entries c.args.node row = record { nodes = t; indexed = indexed; is = at } in
    let same = c.in_ok-places.ensures.leaves.uses.same in
    c.in_ok-all.ensures.told (subst IsTrue (sym same.honest) honest)
    ∙ ap (λ (f : List _). flat_map (place_stated f path c.payload_facts_of-facts.result) c.as_slice.result.now) same.bytes
    ∙ ap (λ (places : List PropertyPlace). flat_map (place_stated file path c.payload_facts_of-facts.result) places) c.as_slice.ensures.value
    ∙ ap (λ (facts : PayloadFacts). flat_map (place_stated file path facts) c.in_ok-places.places.items) (c.payload_facts_of-facts.ensures.said row (subst (λ (room : Held). IsRow c.args.blob.now room.entries c.args.node row) (sym c.in_ok-places.ensures.leaves.room) r))
    ∙ flat_map_map (property_if file path (payload_facts_of row)) (read_place file) c.in_ok-places.places.items
    ∙ ap (flat_map (property_if file path (payload_facts_of row))) (c.in_ok-places.ensures.told honest t is indexed totalsize row at)
