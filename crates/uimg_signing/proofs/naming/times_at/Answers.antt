use Rattle.std.proofs.Common.{rules, ◌≡◌, ◌∙◌, ℕ, List, get_or, subst, sym, Bool, IsTrue, arith}
use Rattle.uimg_signing.specs.Naming.{count_at, times_at}
use Rattle.uimg_signing.proofs.LookLaws.{drop_get}
use Rattle.uimg_signing.proofs.NamedLaws.{no_place, times_more, times_end}
use Rattle.uimg_signing.proofs.naming.times_at.Goals as goal

pub loop-place-preserved : goal.loop-place-preserved
loop-place-preserved g c =
    let d = g.S.Source.device c.args.source.now in
    let same = c.loop-place.invariant.same in
    let xs = c.args.places.now in
    let i = c.loop-place.place-index in
    record {
      same = record { bytes = c.in-Ok.ensures.uses.same.bytes ∙ same.bytes; honest = c.in-Ok.ensures.uses.same.honest ∙ same.honest };
      failures = c.in-Ok.ensures.uses.failures ∙ c.loop-place.invariant.failures;
      asked = omega (arith, c.in-Ok.ensures.uses.asked, c.loop-place.invariant.asked);
      room = c.in-Ok.ensures.room ∙ c.loop-place.invariant.room;
      few = omega (arith, c.in-Ok.ensures.few, c.loop-place.invariant.few);
      left = λ honest.
          let now = subst (λ (b : Bool). IsTrue b) (sym same.honest) honest in
          times_more d.bytes c.args.wanted.now (get_or xs i no_place) xs i c.loop-place.found c.in-Ok.more (times_at d.bytes c.args.wanted.now xs) (drop_get xs i no_place c.loop-place-test.true)
          (subst (λ (file : List ℕ). c.in-Ok.more ≡ count_at file c.args.wanted.now (get_or xs i no_place)) same.bytes (c.in-Ok.ensures.told now)) (c.loop-place.invariant.left honest);
    }

pub returns-clause-told : goal.returns-clause-told
returns-clause-told g c = λ honest.
    let d = g.S.Source.device c.args.source.now in
    times_end d.bytes c.args.wanted.now c.args.places.now c.loop-place.place-index c.loop-place.found (times_at d.bytes c.args.wanted.now c.args.places.now) (omega arith) (c.loop-place.invariant.left honest)

pub returns-in-Err-clause-uses : goal.returns-in-Err-clause-uses
returns-in-Err-clause-uses g c = record {
  same = record { bytes = c.in-Err.ensures.uses.same.bytes ∙ c.loop-place.invariant.same.bytes; honest = c.in-Err.ensures.uses.same.honest ∙ c.loop-place.invariant.same.honest };
  asked = omega (arith, c.in-Err.ensures.uses.asked, c.loop-place.invariant.asked);
  failures = search rules;
}

pub returns-clause-uses : goal.returns-clause-uses
returns-clause-uses g c = record {
  same = c.loop-place.invariant.same;
  asked = omega (arith, c.loop-place.invariant.asked);
  failures = search rules;
}
