use Rattle.std.proofs.Common.{rules, ◌≡◌, ◌∙◌, ◌++◌, ◌∷◌, [], List, codes, map, ap, subst, sym}
use Rattle.uimg_base.specs.{Held.Held, declared.spans.Span.Span}
use Rattle.uimg_texts.specs.Slices.{slice}
use Rattle.uimg_blob_reading.specs.Plain.{NamedOf}
use Rattle.uimg_blob_reading.specs.{Indexed.{IsIndexed, IsRow}, Places.read_place, Properties.places_of}
use Rattle.uimg_blob_reading.specs.declared.places.PropertyPlace.{PropertyPlace}
use Rattle.uimg_keys.specs.Trees.{is_parent, key_in, said}
use Rattle.uimg_keys.proofs.TreeLaws.{found_key, in_table, no_key, not_below, says_as}
use Rattle.uimg_keys.proofs.trees.found_in.Goals as goal

pub returns-then-not-is_parent-clause-told : goal.returns-then-not-is_parent-clause-told
returns-then-not-is_parent-clause-told c = λ row at.
    let index = c.requires.index in
    let r : IsRow c.args.blob.now c.args.room.now.entries c.args.node row = record { nodes = index.nodes; indexed = index.indexed; is = in_table c.args.file.now c.args.blob.now c.args.room.now.entries c.args.node row index at } in
    not_below c.args.file.now c.args.signature row (ap (is_parent c.args.signature) (sym (c.parent.ensures row r)) ∙ sym c.is_parent.ensures ∙ c.if-not-is_parent.true)

pub returns-clause-told : goal.returns-clause-told
returns-clause-told c = λ row at.
    let file = c.args.file.now in
    let index = c.requires.index in
    let r : IsRow c.args.blob.now c.args.room.now.entries c.args.node row = record { nodes = index.nodes; indexed = index.indexed; is = in_table file c.args.blob.now c.args.room.now.entries c.args.node row index at } in
    let same : c.deref-3.result.now ≡ c.in_ok-places.places.items = search rules in
    let again : c.deref-4.result.now ≡ c.in_ok-places.places.items = search rules in
    let are = c.in_ok-places.ensures.told row at in
    let name : c.as_slice-3.result.now ≡ codes "required" = search rules in
    let text : c.as_slice-4.result.now ≡ codes "conf" ++ 0 ∷ [] = search rules in
    let required = sym (says_as file (map (read_place file) c.deref-3.result.now) (places_of row) c.as_slice-3.result.now (codes "required") c.as_slice-4.result.now (codes "conf" ++ 0 ∷ [])
    (ap (λ (l : List PropertyPlace). map (read_place file) l) same ∙ are) name text) ∙ sym c.says-2.ensures ∙ c.if-not-says.false in
    let again_r : IsRow c.args.blob.now c.places_at.new.room.entries c.args.node row =
    record { nodes = index.nodes; indexed = subst (λ (h : Held). IsIndexed index.nodes c.args.blob.now h.entries) (sym c.in_ok-places.ensures.room) index.indexed; is = r.is } in
    let named = c.bytes_at.ensures ∙ ap (λ (s : Span). slice file s.place s.length) (c.name.ensures.name row again_r) in
    found_key file c.args.signature row (said c.in_ok-key.key) (ap (is_parent c.args.signature) (sym (c.parent.ensures row r)) ∙ sym c.is_parent.ensures ∙ c.if-not-is_parent.false) required
    (c.in_ok-key.ensures ∙ ap (λ (l : List PropertyPlace). key_in file (map (read_place file) l) c.bytes_at.result.now) again ∙ ap (λ (own : List (NamedOf Span)). key_in file own c.bytes_at.result.now) are ∙ ap (key_in file (places_of row)) named)

pub returns-then-not-is_parent-clause-taken : goal.returns-then-not-is_parent-clause-taken
returns-then-not-is_parent-clause-taken c = λ row at.
    let index = c.requires.index in
    let r : IsRow c.args.blob.now c.args.room.now.entries c.args.node row = record { nodes = index.nodes; indexed = index.indexed; is = in_table c.args.file.now c.args.blob.now c.args.room.now.entries c.args.node row index at } in
    no_key c.args.file.now c.args.signature row (ap (is_parent c.args.signature) (sym (c.parent.ensures row r)) ∙ sym c.is_parent.ensures ∙ c.if-not-is_parent.true)
