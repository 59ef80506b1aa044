use Rattle.std.proofs.Common.{rules, ◌∙◌, refl, []}
use Rattle.uimg_tool.specs.Checks.{names_end}
use Rattle.uimg_tool.proofs.CheckLaws.{all_names, are_names, each_item}
use Rattle.uimg_tool.proofs.PathLaws.{left_begins, left_next}
use Rattle.uimg_tool.proofs.checks.Checks.check_named.Goals as goal

pub loop-name-init : goal.loop-name-init
loop-name-init g c = (tt, tt, (search rules), (search rules), (search rules), (search rules), ([], refl, left_begins _ _, (search rules)))

pub loop-name-preserved : goal.loop-name-preserved
loop-name-preserved g c =
    let before = c.loop-name.invariant in
    let steps = c.in-Some.ensures.steps in (
      tt,
      tt,
      (search rules),
      (search rules),
      (search rules),
      steps.1 ∙ before.5,
      (
        _,
        all_names _ before.6.0 before.6.1,
        left_next _ _ _ _ _ before.6.0 _ c.in-Ok-name.name before.5 c.in-Ok-name.is steps.2 before.6.2,
        each_item _ _ c.args.asked.now c.as_slice.result.now c.in-Ok-name.name.items before.6.0 _ _ _ c.as_slice.ensures.value before.3 before.6.3 c.in_ok-check_unless_empty-in-Ok-name.ensures.told,
      ),
    )

pub returns-clause-told : goal.returns-clause-told
returns-clause-told g c =
    let last = c.loop-name.invariant.6 in
    (last.0, are_names _ c.args.asked.now c.args.path.now (names_end c.args.asked.now) _ _ last.0 refl (search rules) last.1 last.2 c.in-None.ensures.steps.2, last.3)
