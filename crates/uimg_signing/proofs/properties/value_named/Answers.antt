use Rattle.std.proofs.Common.{rules, ◌∙◌, ℕ, List, get_or, ap, subst, sym, Bool, IsTrue, bytes_eq, arith}
use Rattle.uimg_blob_reading.specs.Places.{read_place}
use Rattle.uimg_signing.proofs.{LookLaws.drop_get, NamedLaws.no_place}
use Rattle.uimg_signing.proofs.FindLaws.{first_at, first_found, first_more, first_none}
use Rattle.uimg_signing.proofs.properties.value_named.Goals as goal

pub returns-in-Ok-true-clause-told : goal.returns-in-Ok-true-clause-told
returns-in-Ok-true-clause-told g c = λ honest.
    let d = g.S.Source.device c.args.source.now in
    let same = c.loop-place.invariant.same in
    let now = subst (λ (b : Bool). IsTrue b) (sym same.honest) honest in
    let xs = c.args.places.now in
    let i = c.loop-place.place-index in
    first_found d.bytes c.args.wanted.now (get_or xs i no_place) xs i (first_at d.bytes c.args.wanted.now xs) (drop_get xs i no_place c.loop-place-test.true)
    (sym c.in-Ok-true.field-0-test ∙ c.in-Ok-true.ensures.told now ∙ ap (λ (file : List ℕ). bytes_eq c.args.wanted.now (read_place file (get_or xs i no_place)).name) same.bytes) (c.loop-place.invariant.left honest)

pub loop-place-preserved : goal.loop-place-preserved
loop-place-preserved g c =
    let d = g.S.Source.device c.args.source.now in
    let same = c.loop-place.invariant.same in
    let xs = c.args.places.now in
    let i = c.loop-place.place-index in
    record {
      same = record { bytes = c.in-Ok-false.ensures.uses.same.bytes ∙ same.bytes; honest = c.in-Ok-false.ensures.uses.same.honest ∙ same.honest };
      failures = c.in-Ok-false.ensures.uses.failures ∙ c.loop-place.invariant.failures;
      asked = omega (arith, c.in-Ok-false.ensures.uses.asked, c.loop-place.invariant.asked);
      left = λ honest.
          let now = subst (λ (b : Bool). IsTrue b) (sym same.honest) honest in
          first_more d.bytes c.args.wanted.now (get_or xs i no_place) xs i (first_at d.bytes c.args.wanted.now xs) (drop_get xs i no_place c.loop-place-test.true)
          (sym c.in-Ok-false.field-0-test ∙ c.in-Ok-false.ensures.told now ∙ ap (λ (file : List ℕ). bytes_eq c.args.wanted.now (read_place file (get_or xs i no_place)).name) same.bytes) (c.loop-place.invariant.left honest);
    }

pub returns-clause-told : goal.returns-clause-told
returns-clause-told g c = λ honest.
    let d = g.S.Source.device c.args.source.now in
    first_none d.bytes c.args.wanted.now c.args.places.now c.loop-place.place-index (first_at d.bytes c.args.wanted.now c.args.places.now) (omega arith) (c.loop-place.invariant.left honest)

pub returns-in-Ok-true-clause-uses : goal.returns-in-Ok-true-clause-uses
returns-in-Ok-true-clause-uses g c = record {
  same = record { bytes = c.in-Ok-true.ensures.uses.same.bytes ∙ c.loop-place.invariant.same.bytes; honest = c.in-Ok-true.ensures.uses.same.honest ∙ c.loop-place.invariant.same.honest };
  asked = omega (arith, c.in-Ok-true.ensures.uses.asked, c.loop-place.invariant.asked);
  failures = search rules;
}

pub returns-in-Err-clause-uses : goal.returns-in-Err-clause-uses
returns-in-Err-clause-uses g c = record {
  same = record { bytes = c.in-Err.ensures.uses.same.bytes ∙ c.loop-place.invariant.same.bytes; honest = c.in-Err.ensures.uses.same.honest ∙ c.loop-place.invariant.same.honest };
  asked = omega (arith, c.in-Err.ensures.uses.asked, c.loop-place.invariant.asked);
  failures = search rules;
}

pub returns-clause-uses : goal.returns-clause-uses
returns-clause-uses g c = record {
  same = c.loop-place.invariant.same;
  asked = omega (arith, c.loop-place.invariant.asked);
  failures = search rules;
}
