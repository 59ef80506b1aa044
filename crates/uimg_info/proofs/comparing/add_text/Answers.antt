use Rattle.std.proofs.Common.{sym, ◌∙◌}
use Rattle.uimg_info.proofs.ComparingLaws.{text_added}
use Rattle.uimg_info.proofs.comparing.add_text.Goals as goal

pub returns-in-Ok-None : goal.returns-in-Ok-None
returns-in-Ok-None c =
    text_added c.args.statement.now.key.items c.args.statement.now.text.items c.as_slice.result c.as_slice-2.result c.args.texts.now c.insert.new.self
    c.as_slice.ensures.value c.as_slice-2.ensures.value (sym c.in-Ok-None.field-0-is ∙ c.in-Ok-None.ensures.old) c.in-Ok-None.ensures.updates
