use Rattle.std.proofs.Common.{rules}
use Rattle.uimg_tool.specs.Drawing.{a_file, a_pipe, another, leads_nowhere}
use Rattle.uimg_tool.proofs.pictures.is_taken.Goals as goal

pub returns-in-File : goal.returns-in-File
returns-in-File g c = a_file (search rules) (search rules)

pub returns-in-Pipe : goal.returns-in-Pipe
returns-in-Pipe g c = a_pipe (search rules) (search rules)

pub returns-in-Other : goal.returns-in-Other
returns-in-Other g c = another (search rules) (search rules)

pub returns-in-Nothing : goal.returns-in-Nothing
returns-in-Nothing g c = leads_nowhere c.kind_at.result (search rules) (search rules)
