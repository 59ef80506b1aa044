use Rattle.std.proofs.Common.{◌∙◌, ap, sym, subst, refl, Result, IfErr, Option, Ok, Err, Some, None, IfSome, length, ◌≤◌, ◌<◌, ◌+◌, rules, arith}
use Rattle.uimg_blob_reading.proofs.{KeyLaws.passed_on, PhaseLaws.holds_within}
use Rattle.uimg_blob_reading.specs.declared.{fault.IndexFault.IndexFault, states.State.State}
use Rattle.uimg_blob_reading.specs.{Extents.blocks_of, Tokens.tokens, Walk.begun}
use Rattle.uimg_blob_reading.specs.Passes.{PassesToken, StopsAt}
use Rattle.uimg_blob_reading.proofs.IndexLaws.{begins, goes_on, ends_ok, ends_passed, ends_err, steps_same, paid_same, last_paid, stay_err, prefix_err, stops_at}
use Rattle.uimg_blob_reading.proofs.indexing.pass.Goals as goal

pub loop-next-init : goal.loop-next-init
loop-next-init g c =
    let d = g.S.Source.device c.args.source.now in
    record {
      same = record { bytes = refl; honest = refl };
      failures = refl;
      refused = refl;
      peak = omega arith;
      near = omega (arith, c.requires.inside.ordered);
      pass = begins d.honest (blocks_of d.bytes c.args.extent) c.args.extent.structure d.asked c.args.room.now.entries c.requires.empty refl;
    }

pub step-requires-clause-suits : goal.step-requires-clause-suits
step-requires-clause-suits g c =
    let pass = c.loop-next.invariant.pass in
    record { current = holds_within pass.phase c.loop-next.state c.loop-next.room.entries pass.holds; few = pass.holds.few }

pub loop-next-preserved : goal.loop-next-preserved
loop-next-preserved g c =
    let d = g.S.Source.device c.args.source.now in
    let b = blocks_of d.bytes c.args.extent in
    let pass = c.loop-next.invariant.pass in
    let same = c.loop-next.invariant.same in
    let e = g.S.Source.device c.loop-next.source in
    let ahead : (c.loop-next.state.at + 4 ≤ c.in-Some.next.at) × (c.in-Some.next.at < c.args.extent.structure_end + 4) =
    subst (λ (o : Option State). IfSome o (λ s. (c.loop-next.state.at + 4 ≤ s.at) × (s.at < c.args.extent.structure_end + 4))) c.in-Some.is c.in_ok-next.ensures.ahead in
    let steps = subst (λ (o : Option State). PassesToken e.honest (blocks_of e.bytes c.args.extent) pass.phase c.loop-next.state.at (Ok o) c.loop-next.room.entries c.step.new.room.entries)
    c.in-Some.is (c.in_ok-next.ensures.steps pass.phase pass.holds) in
    record {
      same = record { bytes = c.step.ensures.uses.same.bytes ∙ same.bytes; honest = c.step.ensures.uses.same.honest ∙ same.honest };
      failures = c.in_ok-next.ensures.uses.failures ∙ c.loop-next.invariant.failures;
      refused = c.in_ok-next.ensures.room.refused ∙ c.loop-next.invariant.refused;
      peak = omega (arith, c.step.ensures.room.peak, c.loop-next.invariant.peak, c.step.ensures.room.count);
      near = ahead.1;
      pass = goes_on d.honest b (begun (tokens b)) c.loop-next.state c.in-Some.next c.loop-next.room.entries c.step.new.room.entries d.asked e.asked (g.S.Source.device c.step.new.source).asked pass
          (steps_same d e c.args.extent pass.phase c.loop-next.state.at (Ok (Some c.in-Some.next)) c.loop-next.room.entries c.step.new.room.entries same steps)
          ahead.0 ahead.1
          (paid_same d e c.args.extent c.loop-next.state.at (g.S.Source.device c.step.new.source).asked same c.step.ensures.uses.asked);
    }

pub returns-in_err-next : goal.returns-in_err-next
returns-in_err-next g c =
    let d = g.S.Source.device c.args.source.now in
    let e = g.S.Source.device c.loop-next.source in
    let b = blocks_of d.bytes c.args.extent in
    let now = c.loop-next in
    let new = c.step.new.room.entries in
    let pass = now.invariant.pass in
    let fault = c.in_err-next.field-0.0 in
    let is = passed_on c.from_residual.result fault c.from_residual.ensures.1 in
    let steps = steps_same d e c.args.extent pass.phase now.state.at (Err fault) now.room.entries new now.invariant.same (c.in_err-next.ensures.steps pass.phase pass.holds) in
    let stay = stay_err d.honest b pass.phase now.state.at fault now.room.entries new steps in
    record {
      uses = search rules;
      room = search rules;
      no_making = search rules;
      few = omega (arith, pass.holds.few, now.invariant.near, ap length stay);
      within = last_paid d.honest b (begun (tokens b)) now.state now.room.entries new d.asked e.asked (g.S.Source.device c.step.new.source).asked pass
          (paid_same d e c.args.extent now.state.at (g.S.Source.device c.step.new.source).asked now.invariant.same c.step.ensures.uses.asked) stay;
      prefix = prefix_err d.honest b (begun (tokens b)) now.state now.room.entries new fault c.from_residual.result d.asked e.asked pass is steps;
      stops = λ honest. subst (λ (r : Result State IndexFault). IfErr r (λ f. StopsAt (tokens b) f new)) (sym is)
          (stops_at d.honest b (begun (tokens b)) now.state now.room.entries new fault d.asked e.asked pass steps honest);
      passed = search rules;
      indexes = ends_err d.honest b (begun (tokens b)) now.state now.room.entries new fault c.from_residual.result d.asked e.asked pass is steps;
    }

pub returns : goal.returns
returns g c =
    let d = g.S.Source.device c.args.source.now in
    let e = g.S.Source.device c.loop-next.source in
    let b = blocks_of d.bytes c.args.extent in
    let now = c.loop-next in
    let new = c.step.new.room.entries in
    let pass = now.invariant.pass in
    let steps = steps_same d e c.args.extent pass.phase now.state.at (Ok None) now.room.entries new now.invariant.same
    (subst (λ (o : Option State). PassesToken e.honest (blocks_of e.bytes c.args.extent) pass.phase now.state.at (Ok o) now.room.entries new) c.in_default.is (c.in_ok-next.ensures.steps pass.phase pass.holds)) in
    let stay = steps.acts.3 in
    record {
      uses = search rules;
      room = search rules;
      no_making = search rules;
      few = omega (arith, pass.holds.few, now.invariant.near, ap length stay);
      within = last_paid d.honest b (begun (tokens b)) now.state now.room.entries new d.asked e.asked (g.S.Source.device c.step.new.source).asked pass
          (paid_same d e c.args.extent now.state.at (g.S.Source.device c.step.new.source).asked now.invariant.same c.step.ensures.uses.asked) stay;
      prefix = λ honest. tt;
      stops = λ honest. tt;
      passed = ends_passed d.honest b now.state now.room.entries new d.asked e.asked pass steps;
      indexes = ends_ok d.honest b (begun (tokens b)) now.state now.room.entries new now.state d.asked e.asked pass steps;
    }
