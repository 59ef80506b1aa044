use Rattle.std.proofs.Common.{rules, refl}
use Rattle.uimg_tool.proofs.WritingLaws.{to_file}
use Rattle.uimg_tool.specs.Writings.{free, nowhere, unresolved}
use Rattle.uimg_tool.proofs.writing.lead_of.Goals as goal

pub returns-in-Nothing-kind_at : goal.returns-in-Nothing-kind_at
returns-in-Nothing-kind_at g c = to_file _ c.args.path.now c.file-in-Nothing-kind_at.result _ _ c.file-in-Nothing-kind_at.ensures (unresolved c.kind_at.result (search rules) refl (search rules))

pub returns-in-File-kind_at : goal.returns-in-File-kind_at
returns-in-File-kind_at g c = to_file _ c.args.path.now c.file-in-File-kind_at.result _ _ c.file-in-File-kind_at.ensures (unresolved c.kind_at.result (search rules) refl (search rules))

pub returns-in-Folder : goal.returns-in-Folder
returns-in-Folder g c = to_file _ c.args.path.now c.file-in-Folder.result _ _ c.file-in-Folder.ensures (unresolved c.kind_at.result (search rules) refl (search rules))

pub returns-in-Nothing-kind_at-2 : goal.returns-in-Nothing-kind_at-2
returns-in-Nothing-kind_at-2 g c = to_file _ c.args.path.now c.file-in-Nothing-kind_at-2.result _ _ c.file-in-Nothing-kind_at-2.ensures (free refl (search rules))

pub returns-in-File-kind_at-2 : goal.returns-in-File-kind_at-2
returns-in-File-kind_at-2 g c = nowhere c.kind_at-in-Nothing.result (search rules) (search rules)

pub returns-in-Folder-kind_at : goal.returns-in-Folder-kind_at
returns-in-Folder-kind_at g c = nowhere c.kind_at-in-Nothing.result (search rules) (search rules)

pub returns-in-Link-kind_at : goal.returns-in-Link-kind_at
returns-in-Link-kind_at g c = nowhere c.kind_at-in-Nothing.result (search rules) (search rules)
