use Rattle.std.proofs.Common.{◌≡◌, ◌≤◌, ◌<◌, ◌+◌, ◌*◌, ◌∙◌, ℕ, [], length, Option, Ok, Err, IfSome, subst, rules, arith}
use Rattle.std.specs.Option.{MatchOption}
use Rattle.uimg_blob_reading.specs.{Extents.blocks_of, Properties.TakesOne}
use Rattle.uimg_blob_reading.proofs.TellLaws.{took_more, took_all, took_err, passed, step_over}
use Rattle.uimg_blob_reading.proofs.properties.gather.Goals as goal

pub loop-places-preserved : goal.loop-places-preserved
loop-places-preserved g c =
    let d = g.S.Source.device c.args.source.now in
    let e = g.S.Source.device c.loop-places.source in
    let f = g.S.Source.device c.step.new.source in
    let x = c.args.extent in
    let b = blocks_of d.bytes x in
    let now = c.loop-places in
    let grown = c.step.new.places.items in
    let same = now.invariant.same in
    let ahead : (now.at + 4 ≤ c.in-Some.next) × (c.in-Some.next < x.structure_end + 4) =
    subst (λ (o : Option ℕ). IfSome o (λ n. (now.at + 4 ≤ n) × (n < x.structure_end + 4))) c.in-Some.is c.in_ok-next.ensures.ahead in
    let more : now.at + 12 * length grown ≤ c.in-Some.next + 12 * length now.places.items =
    subst (λ (o : Option ℕ). MatchOption o (length grown ≡ length now.places.items) (λ n. now.at + 12 * length grown ≤ n + 12 * length now.places.items)) c.in-Some.is c.in_ok-next.ensures.few in
    record {
      same = record { bytes = c.step.ensures.uses.same.bytes ∙ same.bytes; honest = c.step.ensures.uses.same.honest ∙ same.honest };
      failures = c.in_ok-next.ensures.uses.failures ∙ now.invariant.failures;
      room = c.step.ensures.room ∙ now.invariant.room;
      near = omega (arith, ahead.1, c.requires.inside.structure_within, c.requires.inside.fits);
      few = omega (arith, more, now.invariant.few);
      within = omega (arith, more, now.invariant.few, ahead.1);
      ends = c.step.ensures.ends now.invariant.ends;
      took = λ honest own nops left.
          let t = now.invariant.took honest own nops left in
          took_more b now.at c.in-Some.next own nops [] now.places.items grown d.asked e.asked f.asked t
          (subst (λ (o : Option ℕ). TakesOne b t.rest t.rest_nops (Ok o) now.places.items grown e.asked f.asked) c.in-Some.is
          (step_over d e x now.at (Ok c.in_ok-next.field-0) now.places.items grown f.asked same c.in_ok-next.ensures.takes honest t.rest t.rest_nops t.left));
    }

pub returns-in_err-next : goal.returns-in_err-next
returns-in_err-next g c =
    let d = g.S.Source.device c.args.source.now in
    let e = g.S.Source.device c.loop-places.source in
    let f = g.S.Source.device c.step.new.source in
    let now = c.loop-places in
    let fault = c.in_err-next.field-0.0 in
    record {
      uses = search rules;
      room = search rules;
      ends = search rules;
      few = search rules;
      told = λ honest own nops left.
          let t = now.invariant.took honest own nops left in
          took_err (blocks_of d.bytes c.args.extent) now.at own nops now.places.items c.step.new.places.items d.asked e.asked f.asked t fault c.from_residual.result
          (passed c.from_residual.result fault c.from_residual.ensures.1)
          (step_over d e c.args.extent now.at (Err fault) now.places.items c.step.new.places.items f.asked now.invariant.same c.in_err-next.ensures.takes honest t.rest t.rest_nops t.left);
    }

pub returns : goal.returns
returns g c =
    let d = g.S.Source.device c.args.source.now in
    let e = g.S.Source.device c.loop-places.source in
    let f = g.S.Source.device c.step.new.source in
    let b = blocks_of d.bytes c.args.extent in
    let now = c.loop-places in
    let grown = c.step.new.places.items in
    let same : length grown ≡ length now.places.items =
    subst (λ (o : Option ℕ). MatchOption o (length grown ≡ length now.places.items) (λ n. now.at + 12 * length grown ≤ n + 12 * length now.places.items)) c.in_default.is c.in_ok-next.ensures.few in
    record {
      uses = search rules;
      room = search rules;
      ends = c.step.ensures.ends now.invariant.ends;
      few = omega (arith, same, now.invariant.within);
      told = λ honest own nops left.
          let t = now.invariant.took honest own nops left in
          took_all b now.at own nops now.places.items grown d.asked e.asked f.asked t
          (subst (λ (o : Option ℕ). TakesOne b t.rest t.rest_nops (Ok o) now.places.items grown e.asked f.asked) c.in_default.is
          (step_over d e c.args.extent now.at (Ok c.in_ok-next.field-0) now.places.items grown f.asked now.invariant.same c.in_ok-next.ensures.takes honest t.rest t.rest_nops t.left));
    }
