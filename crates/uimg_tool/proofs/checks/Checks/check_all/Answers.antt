use Rattle.std.proofs.Math.ListN.{drop_of_length-le}
use Rattle.std.proofs.Common.{rules}
use Rattle.uimg_tool.proofs.CheckLaws.{all_given, all_named, each_left, given_more, on_ok}
use Rattle.uimg_tool.proofs.checks.Checks.check_all.Goals as goal

pub returns-in-Some-clause-told : goal.returns-in-Some-clause-told
returns-in-Some-clause-told g c =
    let items = c.deref-path-items.result.now in
    let i = c.loop-path.path-index in
    let each = each_left _ c.args.asked.now items i _ _ c.deref-path-items.ensures.value (drop_of_length-le items {i = i} c.loop-path-test.false) c.loop-path.invariant.3 in
    on_ok c.check_named.result (λ names. all_named _ _ c.args.asked.now c.in-Some.path _ _ _ c.loop-path.invariant.1 c.in-Some.is each names) c.check_named.ensures.told

pub returns-in-None-clause-told : goal.returns-in-None-clause-told
returns-in-None-clause-told g c =
    let items = c.deref-path-items.result.now in
    let i = c.loop-path.path-index in
    let each = each_left _ c.args.asked.now items i _ _ c.deref-path-items.ensures.value (drop_of_length-le items {i = i} c.loop-path-test.false) c.loop-path.invariant.3 in
    all_given _ c.args.asked.now _ _ c.in-None.is each

pub loop-path-preserved : goal.loop-path-preserved
loop-path-preserved g c =
    let before = c.loop-path.invariant in (
      (search rules),
      (search rules),
      (search rules),
      λ last rest. given_more (g.D.World.map c.args.world.now) (g.D.World.map c.loop-path.world) c.args.asked.now c.deref-path-items.result.now c.loop-path.path-index _ _ _ _ last (search rules) before.1 before.3 c.in_ok-check_given.ensures.told rest,
    )
