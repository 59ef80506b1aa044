use Rattle.std.proofs.Common.{rules, ◌+◌, ◌∙◌, ap, sym}
use Rattle.uimg_world.specs.Deeds.{answer_of}
use Rattle.uimg_tool.specs.BesidePaths.{is_beside}
use Rattle.uimg_tool.proofs.BesideLaws.{none_tried, numbered}
use Rattle.uimg_tool.proofs.WritingLaws.{tried_more}
use Rattle.uimg_tool.proofs.writing.new_beside.Goals as goal

pub loop-number-init : goal.loop-number-init
loop-number-init g c = sym (none_tried _ _)

pub returns-in-Ok-clause-made : goal.returns-in-Ok-clause-made
returns-in-Ok-clause-made g c =
    ap (is_beside c.args.path.now) c.in_ok-path.ensures ∙ numbered c.args.path.now (c.loop-number.number + 1)

pub loop-number-preserved : goal.loop-number-preserved
loop-number-preserved g c =
    tried_more c.args.path.now c.as_str.result.now c.loop-number.number (answer_of c.create_new.result) _ (g.W.World.trace c.loop-number.world) (g.W.World.trace c.create_new.new.self)
    (c.as_str.ensures.value ∙ c.in_ok-path.ensures) (search rules) c.loop-number.invariant c.create_new.ensures.noted
