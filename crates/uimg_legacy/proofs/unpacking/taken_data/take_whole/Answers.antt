use Rattle.std.{proofs.Common.{rules, ◌≡◌, ◌∙◌, true, false, sym}, specs.Prelude.{⊤, Err}}
use Rattle.uimg_legacy.specs.declared.fault.Fault.{TheVariants.Put}
use Rattle.uimg_legacy.specs.Unpacking.{is_there}
use Rattle.uimg_legacy.proofs.{DataLaws.whole_data, ToldLaws.{whole_unclaimed, whole_taken, tells_part, told_whole, refuses_none}}
use Rattle.uimg_legacy.proofs.unpacking.taken_data.take_whole.Goals as goal

pub returns-clause-taken : goal.returns-clause-taken
returns-clause-taken g c =
    let there : is_there c.args.only 1 ≡ true = sym c.is_there.ensures ∙ c.if-not-is_there.false in
    whole_data c.args.only g.T.PartTaker.honest c.args.header.now _ _ _ _ _ _ c.value.result c.requires.kind there c.start-sum.ensures c.in_ok-take_part.ensures.taken c.in_ok-claim.ensures.held c.value.ensures

pub returns-in_err-claim-clause-told : goal.returns-in_err-claim-clause-told
returns-in_err-claim-clause-told g c = λ known.
    let there : is_there c.args.only 1 ≡ true = sym c.is_there.ensures ∙ c.if-not-is_there.false in
    let is : c.from_residual.result ≡ Err Put = search rules in
    tells_part ⊤ c.args.only 1 c.from_residual.result Put _ _ is tt (whole_unclaimed c.args.only _ _ there (c.in_err-claim.ensures.told known))

pub returns-in_err-take_part-clause-told : goal.returns-in_err-take_part-clause-told
returns-in_err-take_part-clause-told g c = λ known.
    let there : is_there c.args.only 1 ≡ true = sym c.is_there.ensures ∙ c.if-not-is_there.false in
    let fault = c.in_err-take_part.field-0.0 in
    let is : c.from_residual-in_err-take_part.result ≡ Err fault = search rules in
    tells_part ⊤ c.args.only 1 c.from_residual-in_err-take_part.result fault _ _ is (refuses_none {X = ⊤} (Err fault) c.in_err-take_part.ensures.accepted) (whole_taken true c.args.only _ _ _ there (c.claim.ensures.told known) (c.in_err-take_part.ensures.told known))

pub returns-clause-told : goal.returns-clause-told
returns-clause-told g c = λ known.
    let there : is_there c.args.only 1 ≡ true = sym c.is_there.ensures ∙ c.if-not-is_there.false in
    record { count = 1; told = told_whole _ _ _ (whole_taken false c.args.only _ _ _ there (c.claim.ensures.told known) (c.in_ok-take_part.ensures.told known)) }
