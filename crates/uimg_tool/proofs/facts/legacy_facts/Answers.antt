use Rattle.uimg_tool.proofs.InfoLaws.{legacy_given}
use Rattle.uimg_tool.proofs.facts.legacy_facts.Goals as goal

pub returns-in-Ok-legacy_text : goal.returns-in-Ok-legacy_text
returns-in-Ok-legacy_text g c =
    legacy_given c.args.path.now _ _ _ c.in-Ok-size.size c.in-Ok.header _ _ c.in-Ok-legacy_text.text c.in-Ok.ensures.reads.uses.same c.in-Ok-locate_parts.ensures.uses.same
    c.in-Ok.ensures.gives c.in-Ok-locate_parts.ensures.told c.in-Ok-size.ensures.length c.as_slice.ensures.value c.in-Ok-legacy_text.ensures.text
