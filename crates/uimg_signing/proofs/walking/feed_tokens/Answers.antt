use Rattle.std.proofs.Common.{◌≡◌, ◌≤◌, ◌+◌, ◌*◌, ◌∙◌, refl, rules, arith, subst, Option, Some, None, IfSome}
use Rattle.uimg_signing.specs.declared.turns.Walk.{Walk}
use Rattle.uimg_signing.specs.{Covering.is_marked, Walking.Passes}
use Rattle.uimg_blob_reading.specs.Extents.{blocks_of}
use Rattle.std.proofs.Common.{ap, sym, Bool, IsTrue, List, [], ℕ}
use Rattle.uimg_blob_reading.specs.Tokens.{tokens}
use Rattle.uimg_signing.specs.{Faults.Refuses, Refusing.{walk_refusal, RefusesToken}}
use Rattle.uimg_signing.proofs.StepLaws.{refused_so_far, ends_right, passed_on, begins, over, more_so_far, ends}
use Rattle.uimg_signing.proofs.walking.feed_tokens.Goals as goal

pub loop-next-init : goal.loop-next-init
loop-next-init g c =
    let d = g.S.Source.device c.args.source.now in
    record {
      same = record { bytes = refl; honest = refl };
      failures = refl;
      room = refl;
      near = omega arith;
      within = c.requires.inside.ordered;
      asked = omega arith;
      names = refl;
      so_far = begins g.M.Sums.fed g.M.Sums.fed_nothing (is_marked c.args.marks.now) d.honest (blocks_of d.bytes c.args.extent) (record { at = c.args.extent.structure; bits = 4; names = c.args.names }) c.args.sums.now refl refl;
    }

pub loop-next-preserved : goal.loop-next-preserved
loop-next-preserved g c =
    let d = g.S.Source.device c.args.source.now in
    let e = g.S.Source.device c.loop-next.source in
    let f = g.S.Source.device c.step.new.source in
    let now = c.loop-next in
    let next = c.in-Some.next in
    let same = now.invariant.same in
    let listed = is_marked c.args.marks.now in
    let ahead : (next.names ≡ now.walk.names) × (now.walk.at + 4 ≤ next.at) × (next.at ≤ c.args.extent.structure_end) × (f.asked + 68 * now.walk.at ≤ e.asked + 68 * next.at) =
    subst (λ (o : Option Walk). IfSome o (λ n. (n.names ≡ now.walk.names) × (now.walk.at + 4 ≤ n.at) × (n.at ≤ c.args.extent.structure_end) × (f.asked + 68 * now.walk.at ≤ e.asked + 68 * n.at))) c.in-Some.is c.in_ok-next.ensures.ahead in
    let passed = subst (λ (o : Option Walk). Passes g.M.Sums.fed listed e.honest (blocks_of e.bytes c.args.extent) now.walk o now.sums c.step.new.sums) c.in-Some.is c.in_ok-next.ensures.passes in
    record {
      same = record { bytes = c.step.ensures.uses.same.bytes ∙ same.bytes; honest = c.step.ensures.uses.same.honest ∙ same.honest };
      failures = c.in_ok-next.ensures.uses.failures ∙ now.invariant.failures;
      room = c.step.ensures.room ∙ now.invariant.room;
      near = omega (arith, now.invariant.near, ahead.1);
      within = ahead.2;
      asked = omega (arith, now.invariant.asked, now.invariant.near, ahead.1, ahead.3);
      names = ahead.0 ∙ now.invariant.names;
      so_far = more_so_far g.M.Sums.fed g.M.Sums.fed_more listed d.honest (blocks_of d.bytes c.args.extent) now.walk next c.args.sums.now now.sums c.step.new.sums now.invariant.so_far.fuel now.invariant.so_far refl
          (over g.M.Sums.fed listed d e c.args.extent now.walk (Some next) now.sums c.step.new.sums same passed) ahead.0 ahead.1 now.invariant.within;
    }

pub returns : goal.returns
returns g c =
    let d = g.S.Source.device c.args.source.now in
    let e = g.S.Source.device c.loop-next.source in
    let now = c.loop-next in
    let listed = is_marked c.args.marks.now in
    let passed = subst (λ (o : Option Walk). Passes g.M.Sums.fed listed e.honest (blocks_of e.bytes c.args.extent) now.walk o now.sums c.step.new.sums) c.in_default.is c.in_ok-next.ensures.passes in
    record {
      uses = search rules;
      asked = omega (arith, c.step.ensures.asked, now.invariant.asked, now.invariant.near, now.invariant.within);
      room = search rules;
      refused = λ honest t tree read memory.
          sym (ap (λ (n : ℕ). walk_refusal listed (blocks_of d.bytes c.args.extent) n [] (tokens (blocks_of d.bytes c.args.extent))) (sym now.invariant.names)
          ∙ ends_right g.M.Sums.fed listed d.honest (blocks_of d.bytes c.args.extent) now.walk c.args.sums.now now.sums c.step.new.sums now.invariant.so_far.fuel now.invariant.so_far refl
          (over g.M.Sums.fed listed d e c.args.extent now.walk None now.sums c.step.new.sums now.invariant.same passed) now.invariant.within honest);
      feeds = ends g.M.Sums.fed g.M.Sums.fed_more listed d.honest (blocks_of d.bytes c.args.extent) now.walk c.args.sums.now now.sums c.step.new.sums now.invariant.so_far.fuel now.invariant.so_far refl
          (over g.M.Sums.fed listed d e c.args.extent now.walk None now.sums c.step.new.sums now.invariant.same passed) now.invariant.within;
    }

pub returns-in_err-next : goal.returns-in_err-next
returns-in_err-next g c =
    let d = g.S.Source.device c.args.source.now in
    let e = g.S.Source.device c.loop-next.source in
    let now = c.loop-next in
    let same = now.invariant.same in
    let listed = is_marked c.args.marks.now in
    let x = c.args.extent in
    let fault = c.in_err-next.field-0.0 in
    let is = passed_on c.from_residual.result fault c.from_residual.ensures.1 in
    record {
      uses = search rules;
      asked = search rules;
      room = search rules;
      refused = λ honest t tree.
          let s = now.invariant.so_far in
          let before = subst (λ (b : Bool). IsTrue b) (sym same.honest) honest in
          let why = c.in_err-next.ensures.refused before s.nodes (s.bits honest) in
          subst (λ (n : ℕ). Refuses (walk_refusal listed (blocks_of d.bytes x) n [] (tokens (blocks_of d.bytes x))) c.from_residual.result) now.invariant.names
          (refused_so_far g.M.Sums.fed listed d.honest (blocks_of d.bytes x) now.walk c.args.sums.now now.sums s now.invariant.within honest t tree fault
          (subst (λ (xs : List ℕ). RefusesToken listed (blocks_of xs x) now.walk.names s.nodes now.walk.at fault) same.bytes why) c.from_residual.result is);
      feeds = search rules;
    }
