use Rattle.uimg_strict.proofs.PassLaws.{own_tells}
use Rattle.uimg_strict.proofs.strictness.find_loose.Goals as goal

pub returns-in_err-found-clause-told : goal.returns-in_err-found-clause-told
returns-in_err-found-clause-told g c = λ honest.
    let tree = c.requires.tree honest in
    let has = c.in_ok-first.ensures.told tree.nodes tree.read.indexed in
    own_tells (g.S.Source.device c.args.source.now).bytes c.from_residual-in_err-found.result c.in_err-found.field-0.0 c.from_residual-in_err-found.ensures.1
    (c.in_err-found.ensures.told tree.nodes (record { honest = honest; read = tree.read }) has.found has.from)
