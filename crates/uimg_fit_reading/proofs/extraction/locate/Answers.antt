use Rattle.std.proofs.Common.{rules, ◌≡◌, ℕ, List, Ok, IfOk, subst, sym}
use Rattle.uimg_fit_reading.specs.Nodes.{HasTree, IsRead}
use Rattle.uimg_fit_base.specs.Places.{TellsPlace, place}
use Rattle.uimg_fit_reading.proofs.ExtractionLaws.{gives_payload, found_place}
use Rattle.uimg_fit_reading.proofs.extraction.locate.Goals as goal

pub returns-clause-gives : goal.returns-clause-gives
returns-clause-gives g c = λ honest.
    let file = (g.S.Source.device c.args.source.now).bytes in
    let h : HasTree file c.in_ok-blob.blob c.read_tree.new.room.entries = c.in_ok-blob.ensures.gives honest in
    let same : (g.S.Source.device c.read_tree.new.source).bytes ≡ file = search rules in
    let read : IsRead (g.S.Source.device c.read_tree.new.source).bytes c.in_ok-blob.blob c.read_tree.new.room.entries h.nodes =
    subst (λ (w : List ℕ). IsRead w c.in_ok-blob.blob c.read_tree.new.room.entries h.nodes) (sym same) h.read in
    gives_payload file h.nodes c.args.position c.in_ok-image.image c.payload_place.result h.read.is (c.in_ok-image.ensures.told h.nodes h.read.indexed)
    (λ found n. subst (λ (w : List ℕ). TellsPlace w found c.payload_place.result) same (c.payload_place.ensures.told (search rules) h.nodes read found n))

pub returns-clause-span : goal.returns-clause-span
returns-clause-span g c = λ honest.
    let file = (g.S.Source.device c.args.source.now).bytes in
    let h : HasTree file c.in_ok-blob.blob c.read_tree.new.room.entries = c.in_ok-blob.ensures.gives honest in
    let same : (g.S.Source.device c.read_tree.new.source).bytes ≡ file = search rules in
    let read : IsRead (g.S.Source.device c.read_tree.new.source).bytes c.in_ok-blob.blob c.read_tree.new.room.entries h.nodes =
    subst (λ (w : List ℕ). IsRead w c.in_ok-blob.blob c.read_tree.new.room.entries h.nodes) (sym same) h.read in
    found_place file h.nodes c.args.position c.in_ok-image.image c.payload_place.result h.read.is (c.in_ok-image.ensures.told h.nodes h.read.indexed)
    (λ found n. subst (λ (w : List ℕ). IfOk c.payload_place.result (λ p. place w found ≡ Ok p)) same (c.payload_place.ensures.place (search rules) h.nodes read found n))
