use Rattle.std.proofs.Common.{rules, refl}
use Rattle.uimg_unpacking.specs.Allowing.{is_the_image, is_looked_at}
use Rattle.uimg_unpacking.proofs.folder.Folder.allows.Goals as goal

pub returns-then-is_image-clause-told : goal.returns-then-is_image-clause-told
returns-then-is_image-clause-told g c = is_the_image c.file_at-found.result (search rules) refl (search rules)

pub returns-in-Nothing-default-clause-told : goal.returns-in-Nothing-default-clause-told
returns-in-Nothing-default-clause-told g c = is_looked_at c.file_at-found.result c.kind_at.result (search rules) (search rules) (search rules)

pub returns-in-Folder-default-clause-told : goal.returns-in-Folder-default-clause-told
returns-in-Folder-default-clause-told g c = is_looked_at c.file_at-found.result c.kind_at.result (search rules) (search rules) (search rules)

pub returns-in-File-true-clause-told : goal.returns-in-File-true-clause-told
returns-in-File-true-clause-told g c = is_looked_at c.file_at-found.result c.kind_at.result (search rules) (search rules) (search rules)

pub returns-in-File-false-clause-told : goal.returns-in-File-false-clause-told
returns-in-File-false-clause-told g c = is_looked_at c.file_at-found.result c.kind_at.result (search rules) (search rules) (search rules)

pub returns-in-Link-true-clause-told : goal.returns-in-Link-true-clause-told
returns-in-Link-true-clause-told g c = is_looked_at c.file_at-found.result c.kind_at.result (search rules) (search rules) (search rules)

pub returns-in-Link-false-clause-told : goal.returns-in-Link-false-clause-told
returns-in-Link-false-clause-told g c = is_looked_at c.file_at-found.result c.kind_at.result (search rules) (search rules) (search rules)
