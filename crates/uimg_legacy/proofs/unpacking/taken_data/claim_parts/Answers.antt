use Rattle.std.proofs.Common.{rules, ◌≡◌, ◌∙◌, true, refl}
use Rattle.std.specs.Prelude.{None, is_err}
use Rattle.uimg_legacy.proofs.ToldLaws.{claims_none, claims_more, claims_fail}
use Rattle.uimg_legacy.proofs.unpacking.taken_data.claim_parts.Goals as goal

pub loop-number-init : goal.loop-number-init
loop-number-init g c = record { held = λ known. refl; kept = λ known. refl; stays = refl; told = λ known. claims_none _ }

pub loop-number-preserved : goal.loop-number-preserved
loop-number-preserved g c =
    let inv = c.loop-number.invariant in
    record {
      held = λ known. c.claim-in-loop-number.ensures.held known ∙ inv.held known;
      kept = λ known. c.claim-in-loop-number.ensures.kept known ∙ inv.kept known;
      stays = c.claim-in-loop-number.ensures.stays ∙ inv.stays;
      told = λ known. claims_more c.loop-number.number _ _ _ (inv.told known) (c.claim-in-loop-number.ensures.told known);
    }

pub returns-in_err-claim-clause-told : goal.returns-in_err-claim-clause-told
returns-in_err-claim-clause-told g c = λ known.
    let failed : is_err c.from_residual.result ≡ true = search rules in
    let all : c.args.only ≡ None = search rules in
    claims_fail c.from_residual.result c.args.only c.loop-number.number c.args.count _ _ _ failed all c.loop-number-test.true (c.loop-number.invariant.told known) (c.claim-in-loop-number.ensures.told known)
