use Rattle.std.proofs.Common.{rules}
use Rattle.uimg_tool.proofs.BelowLaws.{none_left, one_taken}
use Rattle.uimg_tool.proofs.checks.Checks.check_below.Goals as goal

pub returns-in_default-pop-clause-told : goal.returns-in_default-pop-clause-told
returns-in_default-pop-clause-told g c = c.loop.invariant.3 _ (none_left _ c.args.asked.now c.loop.left.items _ (search rules))

pub loop-preserved : goal.loop-preserved
loop-preserved g c =
    let before = c.loop.invariant in (
      (search rules),
      (search rules),
      (search rules),
      λ last below. before.3 last
          (one_taken (g.D.World.map c.args.world.now) (g.D.World.map c.loop.world) c.args.asked.now c.loop.left.items c.pop.new.self.items c.in_ok-within.within.items c.reverse.new.self.items c.append.new.self.items c.in-Some.last c.as_slice.result.now _ _ last before.1 c.as_slice.ensures.value c.in-Some.ensures.items c.reverse.ensures.items (search rules) c.in_ok-within.ensures.told below),
    )
