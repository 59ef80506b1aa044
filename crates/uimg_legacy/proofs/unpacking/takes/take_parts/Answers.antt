use Rattle.std.{proofs.Common.{rules, ◌≡◌, ◌∙◌, true, refl, arith}, specs.Prelude.{Err, is_err}}
use Rattle.uimg_legacy.proofs.SourceLaws.{same_still}
use Rattle.uimg_legacy.proofs.WalkLaws.{walked_none, walked_more, refused_next}
use Rattle.uimg_legacy.proofs.ToldLaws.{takes_none, takes_more, takes_fail}
use Rattle.uimg_legacy.proofs.unpacking.takes.take_parts.Goals as goal

pub loop-number-init : goal.loop-number-init
loop-number-init g c = record {
  same = record { bytes = refl; honest = refl };
  failures = refl;
  paid = omega arith;
  within = omega (arith, c.requires.table, c.requires.place);
  room = refl;
  kept = λ known. refl;
  stays = refl;
  told = λ known. takes_none c.args.parts.only _;
  taken = walked_none c.args.parts.only g.T.PartTaker.honest c.args.parts.size _ _ _ (omega (arith, c.requires.table, c.requires.place));
}

pub loop-number-preserved : goal.loop-number-preserved
loop-number-preserved g c =
    let inv = c.loop-number.invariant in
    let next = c.in_ok-take_next.ensures.taken in
    record {
      same = same_still inv.same c.take_next.ensures.takes.uses.same;
      failures = omega (arith, c.in_ok-take_next.ensures.takes.uses.failures, inv.failures);
      paid = omega (arith, c.in_ok-take_next.ensures.paid, inv.paid);
      within = omega (arith, next.place);
      room = c.take_next.ensures.takes.room ∙ inv.room;
      kept = λ known. c.take_next.ensures.takes.kept known ∙ inv.kept known;
      stays = c.take_next.ensures.stays ∙ inv.stays;
      told = λ known. takes_more c.args.parts.only c.loop-number.number _ _ _ (inv.told known) (c.in_ok-take_next.ensures.told known);
      taken = walked_more c.args.parts.only g.T.PartTaker.honest c.loop-number.number c.args.parts.size _ _ _ _ _ _ _ _ inv.same inv.taken next;
    }

pub returns-in_err-take_next-clause-refused : goal.returns-in_err-take_next-clause-refused
returns-in_err-take_next-clause-refused g c = λ honest counts.
    let d = g.S.Source.device c.args.source.now in
    let inv = c.loop-number.invariant in
    let n = c.loop-number.number in
    let fault = c.in_err-take_next.field-0.0 in
    let is : c.from_residual.result ≡ Err fault = search rules in
    refused_next c.args.parts.only g.T.PartTaker.honest n c.args.parts.count c.args.parts.size d _ c.args.walk.now c.loop-number.walk _ _ c.from_residual.result fault is inv.same honest c.requires.data c.loop-number-test.true c.requires.table c.requires.place counts inv.taken c.in_err-take_next.ensures.refused

pub returns-in_err-take_next-clause-told : goal.returns-in_err-take_next-clause-told
returns-in_err-take_next-clause-told g c = λ known.
    let failed : is_err c.from_residual.result ≡ true = search rules in
    takes_fail c.from_residual.result c.args.parts.only c.loop-number.number c.args.parts.count _ _ _ failed c.loop-number-test.true (c.loop-number.invariant.told known) (c.in_err-take_next.ensures.told known)
