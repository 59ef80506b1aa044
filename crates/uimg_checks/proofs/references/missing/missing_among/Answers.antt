use Rattle.std.proofs.Common.{Bool, IsTrue, sym, subst, ◌∙◌}
use Rattle.uimg_checks.specs.ReferenceWork.{given_size}
use Rattle.uimg_checks.proofs.MissingLaws.{passed_value, asked_more}
use Rattle.uimg_checks.proofs.references.missing.missing_among.Goals as goal

pub loop-reference-preserved : goal.loop-reference-preserved
loop-reference-preserved g c =
    let same = c.loop-reference.invariant.same in
    let within = c.loop-reference-test.true in
    record {
      same = record { bytes = c.missing_under.ensures.uses.same.bytes ∙ same.bytes; honest = c.missing_under.ensures.uses.same.honest ∙ same.honest };
      asked = asked_more given_size c.args.properties.now c.loop-reference.reference-index _ _ _ _ within c.loop-reference.invariant.asked c.missing_under.ensures.uses.asked;
      failures = c.in_ok-found.ensures.uses.failures ∙ c.loop-reference.invariant.failures;
      left = λ honest list names.
          passed_value (g.S.Source.device c.args.source.now).bytes _ list c.args.configuration c.args.properties.now c.loop-reference.reference-index _ c.in_ok-found.found same.bytes within
          (sym c.is_some.ensures ∙ c.if-is_some.false) (c.in_ok-found.ensures.told (subst (λ (b : Bool). IsTrue b) (sym same.honest) honest) list names)
          ∙ c.loop-reference.invariant.left honest list names;
    }
