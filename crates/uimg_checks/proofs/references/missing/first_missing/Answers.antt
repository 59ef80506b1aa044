use Rattle.std.proofs.Common.{Bool, IsTrue, sym, subst, ◌∙◌}
use Rattle.uimg_checks.specs.ReferenceWork.{values_size}
use Rattle.uimg_checks.proofs.MissingLaws.{passed_configuration, asked_one}
use Rattle.uimg_checks.proofs.references.missing.first_missing.Goals as goal

pub loop-configuration-preserved : goal.loop-configuration-preserved
loop-configuration-preserved g c =
    let same = c.loop-configuration.invariant.same in
    let within = c.loop-configuration-test.true in
    record {
      same = record { bytes = c.missing_of.ensures.uses.same.bytes ∙ same.bytes; honest = c.missing_of.ensures.uses.same.honest ∙ same.honest };
      asked = asked_one values_size c.args.configurations.now c.loop-configuration.configuration-index c.configuration-item.result _ _ _ c.configuration-item.is within c.loop-configuration.invariant.asked c.missing_of.ensures.uses.asked;
      failures = c.in_ok-found.ensures.uses.failures ∙ c.loop-configuration.invariant.failures;
      left = λ honest list names.
          passed_configuration (g.S.Source.device c.args.source.now).bytes _ list c.args.configurations.now c.loop-configuration.configuration-index c.configuration-item.result c.in_ok-found.found c.configuration-item.is same.bytes within
          (sym c.is_some.ensures ∙ c.if-is_some.false) (c.in_ok-found.ensures.told (subst (λ (b : Bool). IsTrue b) (sym same.honest) honest) list names)
          ∙ c.loop-configuration.invariant.left honest list names;
    }
