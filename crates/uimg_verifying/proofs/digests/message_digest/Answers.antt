use Rattle.std.proofs.Common.{◌∙◌, ap, []}
use Rattle.uimg_fit_base.specs.{AlgoSets.{chosen, has}, declared.algo_sets.AlgoSet.AlgoSet}
use Rattle.uimg_fit_base.proofs.AlgoSetLaws.{marked-has}
use Rattle.uimg_signing.specs.{Covering.is_marked, Message.message}
use Rattle.uimg_verifying.proofs.digests.message_digest.Goals as goal

pub returns-in-Ok-clause-digest : goal.returns-in-Ok-clause-digest
returns-in-Ok-clause-digest g c = λ honest t is total.
    let text = message (is_marked c.args.marks.now) (g.S.Source.device c.args.source.now).bytes c.args.strings in
    let fed = c.in-Ok.ensures.fed honest t is total (chosen c.marked-set.result) [] c.sums-sums.ensures in
    let are = c.of.ensures.digests text fed in
    c.by.ensures text are (ap (λ (s : AlgoSet). has s c.args.algo) (c.of.ensures.set ∙ c.marked-set.ensures) ∙ marked-has _ c.args.algo)
