use Rattle.std.proofs.Common.{rules, ◌≡◌, ℕ, List, Ok, IfOk, subst, sym}
use Rattle.uimg_fit_reading.specs.Nodes.{HasTree, IsRead}
use Rattle.uimg_fit_base.specs.Places.{TellsPlace, place}
use Rattle.uimg_fit_checking.proofs.NamedLaws.{gives_named, found_named}
use Rattle.uimg_fit_checking.proofs.named.locate_in.Goals as goal

pub returns-clause-told : goal.returns-clause-told
returns-clause-told g c = λ honest.
    let file = c.args.file.now in
    let h : HasTree file c.in_ok-blob.blob c.read_tree.new.room.entries =
    subst (λ (w : List ℕ). HasTree w c.in_ok-blob.blob c.read_tree.new.room.entries) c.requires (c.in_ok-blob.ensures.gives honest) in
    let same : (g.S.Source.device c.read_tree.new.source).bytes ≡ file = search rules in
    let read : IsRead (g.S.Source.device c.read_tree.new.source).bytes c.in_ok-blob.blob c.read_tree.new.room.entries h.nodes =
    subst (λ (w : List ℕ). IsRead w c.in_ok-blob.blob c.read_tree.new.room.entries h.nodes) (sym same) h.read in
    gives_named file h.nodes c.args.name.now c.in_ok-image.image c.payload_place.result h.read.is (c.in_ok-image.ensures.told h.nodes h.read)
    (λ found n. subst (λ (w : List ℕ). TellsPlace w found c.payload_place.result) same (c.payload_place.ensures.told (search rules) h.nodes read found n))

pub returns-clause-span : goal.returns-clause-span
returns-clause-span g c = λ honest.
    let file = c.args.file.now in
    let h : HasTree file c.in_ok-blob.blob c.read_tree.new.room.entries =
    subst (λ (w : List ℕ). HasTree w c.in_ok-blob.blob c.read_tree.new.room.entries) c.requires (c.in_ok-blob.ensures.gives honest) in
    let same : (g.S.Source.device c.read_tree.new.source).bytes ≡ file = search rules in
    let read : IsRead (g.S.Source.device c.read_tree.new.source).bytes c.in_ok-blob.blob c.read_tree.new.room.entries h.nodes =
    subst (λ (w : List ℕ). IsRead w c.in_ok-blob.blob c.read_tree.new.room.entries h.nodes) (sym same) h.read in
    found_named file h.nodes c.args.name.now c.in_ok-image.image c.payload_place.result h.read.is (c.in_ok-image.ensures.told h.nodes h.read)
    (λ found n. subst (λ (w : List ℕ). IfOk c.payload_place.result (λ p. place w found ≡ Ok p)) same (c.payload_place.ensures.place (search rules) h.nodes read found n))
