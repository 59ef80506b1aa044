use Rattle.std.proofs.Common.{rules, ◌≡◌, ◌∙◌, ◌+◌, ◌*◌, map, length, sym, ap, subst, Bool, IsTrue, List, ℕ, true, false}
use Rattle.uimg_base.specs.{Held.Held, declared.spans.Span.Span}
use Rattle.uimg_blob_reading.specs.{Rows.table, Places.read_place, Properties.places_of, Plain.NamedOf}
use Rattle.uimg_blob_reading.specs.{Indexed.IsIndexed, Blob.tree, Counts.nops_met}
use Rattle.uimg_signing.specs.Naming.{any_long}
use Rattle.uimg_signing.specs.Listing.{node_cost, nodes_refusal, are_many}
use Rattle.uimg_signing.specs.Hashed.{are_hashed}
use Rattle.uimg_signing.proofs.NamedLaws.{rows_count}
use Rattle.uimg_signing.proofs.CostLaws.{all_paid, long_of, long_refusal, count_of}
use Rattle.uimg_signing.proofs.listing.list_nodes.Goals as goal

pub returns-then-has_long-clause-refused : goal.returns-then-has_long-clause-refused
returns-then-has_long-clause-refused g c = λ honest t is indexed total row at read memory.
    let d = g.S.Source.device c.args.source.now in
    let are = c.in-Ok.ensures.told honest t is indexed total row at in
    let same : c.deref.result.now ≡ c.in-Ok.places.items = search rules in
    let long : true ≡ any_long (places_of row) = sym c.if-has_long.true ∙ c.has_long.ensures ∙ long_of d.bytes c.deref.result.now (places_of row) (ap (map (read_place d.bytes)) same ∙ are) in
    sym (long_refusal (places_of row) (are_many d.bytes (places_of row) (table t) c.args.configuration) (are_hashed d.bytes (places_of row) (table t)) true long)

pub returns-clause-asked : goal.returns-clause-asked
returns-clause-asked g c = λ honest t is indexed total row at.
    let device = g.S.Source.device in
    let d = device c.args.source.now in
    let are = c.in-Ok.ensures.told honest t is indexed total row at in
    let paid = c.in-Ok.ensures.asked honest t is indexed total row at in
    let same : c.deref-2.result.now ≡ c.in-Ok.places.items = search rules in
    let nodes = rows_count t c.args.blob.now c.args.room.now.entries indexed in
    all_paid d.asked (device c.properties_of.new.source).asked (device c.collect_hashed.new.source).asked (44 + 268 * length row.own + 4 * nops_met d.bytes) (length c.properties_of.new.room.entries * node_cost (length c.deref-2.result.now))
    (length (table t) * node_cost (length row.own)) paid c.collect_hashed.ensures.uses.asked
    (ap (λ (h : Held). length h.entries * node_cost (length c.deref-2.result.now)) c.properties_of.ensures.room
    ∙ ap (λ (n : ℕ). n * node_cost (length c.deref-2.result.now)) (sym nodes) ∙ ap (λ (n : ℕ). length (table t) * node_cost n) (count_of d.bytes c.deref-2.result.now row (ap (map (read_place d.bytes)) same ∙ are)))

pub returns-clause-refused : goal.returns-clause-refused
returns-clause-refused g c = λ honest t is indexed total row at read memory.
    let device = g.S.Source.device in
    let d = device c.args.source.now in
    let are = c.in-Ok.ensures.told honest t is indexed total row at in
    let same = c.properties_of.ensures.uses.same in
    let is_honest = subst (λ (b : Bool). IsTrue b) (sym same.honest) honest in
    let there = subst (λ (h : Held). IsIndexed t c.args.blob.now h.entries) (sym c.properties_of.ensures.room) indexed in
    let first : c.deref.result.now ≡ c.in-Ok.places.items = search rules in
    let second : c.deref-2.result.now ≡ c.in-Ok.places.items = search rules in
    let short : false ≡ any_long (places_of row) = sym c.if-has_long.false ∙ c.has_long.ensures ∙ long_of d.bytes c.deref.result.now (places_of row) (ap (map (read_place d.bytes)) first ∙ are) in
    c.collect_hashed.ensures.refused is_honest t (ap tree same.bytes ∙ is) there read memory
    ∙ ap (λ (xs : List ℕ). nodes_refusal (are_many xs (map (read_place xs) c.deref-2.result.now) (table t) c.args.configuration) (are_hashed xs (map (read_place xs) c.deref-2.result.now) (table t))) same.bytes
    ∙ ap (λ (own : List (NamedOf Span)). nodes_refusal (are_many d.bytes own (table t) c.args.configuration) (are_hashed d.bytes own (table t))) (ap (map (read_place d.bytes)) second ∙ are)
    ∙ sym (long_refusal (places_of row) (are_many d.bytes (places_of row) (table t) c.args.configuration) (are_hashed d.bytes (places_of row) (table t)) false short)
