use Rattle.std.proofs.Common.{rules}
use Rattle.uimg_checks.proofs.StrictLaws.{images_left}
use Rattle.uimg_checks.proofs.judging.look_signed.Goals as goal

pub returns-in-None-clause-told : goal.returns-in-None-clause-told
returns-in-None-clause-told g c = λ honest.
    let device = g.S.Source.device in
    images_left c.args.terms.now _ (device c.args.source.now) (device c.list_signatures.new.source) c.args.nodes _ (search rules) c.in_ok-signatures.ensures.same c.in_ok-signatures.ensures.told honest
    (device c.find_unsigned.new.source) c.in_ok-loose.field-0 c.look_covered.result c.in-None.is c.in_ok-loose.ensures.leaves.uses.same c.in_ok-loose.ensures.told c.look_covered.ensures.told
