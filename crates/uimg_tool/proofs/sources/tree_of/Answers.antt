use Rattle.uimg_tool.proofs.KnownLaws.{beyond_any, compiled}
use Rattle.uimg_tool.proofs.sources.tree_of.Goals as goal

pub returns-in-Ok-clause-spelled : goal.returns-in-Ok-clause-spelled
returns-in-Ok-clause-spelled g c = λ honest. compiled _ c.args.text.now _ (c.in-Ok.ensures.only honest) (c.in-Ok.ensures.kept honest) c.new.ensures.items

pub returns-in-Err-clause-spelled : goal.returns-in-Err-clause-spelled
returns-in-Err-clause-spelled g c = λ honest. beyond_any _ c.args.text.now _ _ (c.in-Err.ensures.accepted honest) c.if-is_of_text.ensures
