use Rattle.std.proofs.Common.{rules, ap, refl, ◌∙◌}
use Rattle.uimg_unpacking.proofs.Answered.{refusal-undone}
use Rattle.uimg_world.specs.Deeds.{answer_of}
use Rattle.uimg_unpacking.specs.Naming.{is_done}
use Rattle.uimg_tool.proofs.DrawingLaws.{gives_as}
use Rattle.uimg_tool.specs.Drawing.{named, unfinished, unnamed}
use Rattle.uimg_tool.proofs.pictures.name_written.Goals as goal

pub returns-in-Ok-name_file-clause-asks : goal.returns-in-Ok-name_file-clause-asks
returns-in-Ok-name_file-clause-asks g c =
    named (gives_as _ _ _ _ c.args.is_forced (answer_of c.name_file.result) _ _ _ c.as_str-new.ensures.value c.as_str-whole.ensures.value (ap (λ r. answer_of r) c.in-Ok-name_file.is) c.name_file.ensures)

pub returns-in-Err-name_file-clause-asks : goal.returns-in-Err-name_file-clause-asks
returns-in-Err-name_file-clause-asks g c =
    unnamed (answer_of c.name_file.result) (answer_of c.remove_file.result) (g.D.World.trace c.name_file.new.world) (ap (λ r. is_done (answer_of r)) c.in-Err-name_file.is ∙ refusal-undone _)
    (gives_as _ _ _ _ c.args.is_forced (answer_of c.name_file.result) _ _ _ c.as_str-new.ensures.value c.as_str-whole.ensures.value refl c.name_file.ensures) (search rules)

pub returns-in-Err-clause-asks : goal.returns-in-Err-clause-asks
returns-in-Err-clause-asks g c = unfinished (answer_of c.remove_file-in-Err.result) (search rules)

pub returns-in-Ok-name_file-clause-named : goal.returns-in-Ok-name_file-clause-named
returns-in-Ok-name_file-clause-named g c =
    (search rules, gives_as _ _ _ _ c.args.is_forced (answer_of c.name_file.result) _ _ _ c.as_str-new.ensures.value c.as_str-whole.ensures.value (ap (λ r. answer_of r) c.in-Ok-name_file.is) c.name_file.ensures)
