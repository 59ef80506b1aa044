use Rattle.std.proofs.Common.{rules, None}
use Rattle.uimg_its.specs.{Words.words, declared.tokens.Mark.TheVariants.Semicolon}
use Rattle.uimg_its.proofs.{PassingLaws.{head_passes, expect_passes}, IncludedLaws.{passed, followed, ends, stops, stops_in, unopened, ◌▷◌}}
use Rattle.uimg_its.proofs.compiler.source.Goals as goal

pub returns-in_err-rest-clause-opens : goal.returns-in_err-rest-clause-opens
returns-in_err-rest-clause-opens g c = record {
  files = search rules;
  steady = search rules;
}

pub returns-clause-opens : goal.returns-clause-opens
returns-clause-opens g c = record {
  files = search rules;
  steady = search rules;
}

pub returns-in_err-behind-clause-included : goal.returns-in_err-behind-clause-included
returns-in_err-behind-clause-included g c = unopened _ _ (search rules)

pub returns-in_err-behind-2-clause-included : goal.returns-in_err-behind-2-clause-included
returns-in_err-behind-2-clause-included g c = unopened _ _ (search rules)

pub returns-in_err-behind-3-clause-included : goal.returns-in_err-behind-3-clause-included
returns-in_err-behind-3-clause-included g c = unopened _ _ (search rules)

pub returns-in_err-inner-clause-included : goal.returns-in_err-inner-clause-included
returns-in_err-inner-clause-included g c = unopened _ _ (search rules)

pub returns-in_err-root-clause-included : goal.returns-in_err-root-clause-included
returns-in_err-root-clause-included g c = stops_in _ _ (search rules) (passed _ _ _ (head_passes (words c.args.text.now) _ _ _ _ c.in_ok-behind.ensures.gives c.in_ok-behind-2.ensures.gives c.in_ok-behind-3.ensures.gives c.in_ok-inner.ensures.gives)) c.in_err-root.ensures.included

pub returns-in_err-rest-clause-included : goal.returns-in_err-rest-clause-included
returns-in_err-rest-clause-included g c = stops _ _ (search rules) (passed _ _ _ (head_passes (words c.args.text.now) _ _ _ _ c.in_ok-behind.ensures.gives c.in_ok-behind-2.ensures.gives c.in_ok-behind-3.ensures.gives c.in_ok-inner.ensures.gives) ▷ followed c.in_ok-root.ensures.included)

pub returns-clause-included : goal.returns-clause-included
returns-clause-included g c =
    ends c.alone.result _ _ (words c.in_ok-rest.rest.now)
    (passed _ _ _ (head_passes (words c.args.text.now) _ _ _ _ c.in_ok-behind.ensures.gives c.in_ok-behind-2.ensures.gives c.in_ok-behind-3.ensures.gives c.in_ok-inner.ensures.gives) ▷ followed c.in_ok-root.ensures.included ▷ passed _ _ _ (expect_passes Semicolon _ _ c.in_ok-rest.ensures.gives))
    (c.alone.ensures.gives (λ name. None))
