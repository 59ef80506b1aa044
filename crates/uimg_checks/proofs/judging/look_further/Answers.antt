use Rattle.std.proofs.Common.{rules, List, ℕ, length, sym, subst}
use Rattle.uimg_base.specs.Held.{Held}
use Rattle.uimg_fit_reading.specs.Nodes.{HasTree, InFile}
use Rattle.uimg_checks.proofs.StrictLaws.{signatures_left}
use Rattle.uimg_checks.proofs.judging.look_further.Goals as goal

pub find_missing-requires : goal.find_missing-requires
find_missing-requires g c =
    let leaves = c.in_ok-loose.ensures.leaves in
    let file = subst (λ (r : Held). InFile (length (g.S.Source.device c.args.source.now).bytes) c.args.blob.now r.entries) (sym leaves.room) c.requires.file in
    c.in_ok-facts.ensures.inside _ (subst (λ (xs : List ℕ). InFile (length xs) c.args.blob.now c.find_loose.new.room.entries) (sym leaves.uses.same.bytes) file)

pub returns-clause-told : goal.returns-clause-told
returns-clause-told g c =
    let device = g.S.Source.device in
    let d = device c.args.source.now in
    let leaves = c.in_ok-loose.ensures.leaves in
    signatures_left c.args.terms.now d (device c.find_loose.new.source) (device c.find_missing.new.source) c.in_ok-facts.facts c.count_nodes-nodes.result c.in_ok-loose.field-0 c.in_ok-missing.field-0
    c.look_signed.result c.in_default.is c.in_default-2.is leaves.uses.same c.in_ok-missing.ensures.uses.same c.in_ok-loose.ensures.told
    (λ honest. c.in_ok-facts.ensures.told d.bytes (subst (λ (r : Held). HasTree d.bytes c.args.blob.now r.entries) (sym leaves.room) (c.requires.tree honest)))
    c.in_ok-missing.ensures.told (search rules) c.look_signed.ensures.told
