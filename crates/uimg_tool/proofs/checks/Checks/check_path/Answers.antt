use Rattle.std.proofs.Common.{rules, map, vec_items}
use Rattle.uimg_tool.proofs.BelowLaws.{if_ok, stands_at}
use Rattle.uimg_tool.proofs.checks.Checks.check_path.Goals as goal

pub returns-clause-told : goal.returns-clause-told
returns-clause-told g c =
    if_ok c.check_at.result (λ within. stands_at (g.D.World.map c.args.world.now) _ c.args.asked.now c.args.path.now c.in-Ok.text.now c.kind_at-kind.result (map vec_items within.items) c.args.self.now _ _ _ _ c.kind_at-kind.ensures.same (search rules) c.kind_at-kind.ensures.noted) c.check_at.ensures.told
