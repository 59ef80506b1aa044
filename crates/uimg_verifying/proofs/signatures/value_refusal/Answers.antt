use Rattle.std.proofs.Common.{rules, ◌∙◌}
use Rattle.uimg_verifying.proofs.RefusalLaws.{long_refused, value_judged}
use Rattle.uimg_verifying.proofs.signatures.value_refusal.Goals as goal

pub returns-then-it-gt-LONGEST-clause-told : goal.returns-then-it-gt-LONGEST-clause-told
returns-then-it-gt-LONGEST-clause-told g c = λ honest message is. long_refused _ _ c.args.it message c.if-it-gt-LONGEST.true

pub returns-clause-told : goal.returns-clause-told
returns-clause-told g c = λ honest message is.
    c.why_judged.ensures ∙ (rw c.verify.ensures (value_judged c.args.key.now _ c.args.it message c.fill_at.new.to _ c.if-it-gt-LONGEST.false (search rules) (search rules)))
