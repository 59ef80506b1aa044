use Rattle.std.proofs.Common.{rules, refl}
use Rattle.uimg_world.specs.Deeds.{answer_of}
use Rattle.uimg_unpacking.specs.Naming.{linked, taken}
use Rattle.uimg_world.specs.declared.kind.Kind.TheVariants.{File, Folder, Link}
use Rattle.uimg_unpacking.proofs.naming.name_file.Goals as goal

pub returns-in-Ok : goal.returns-in-Ok
returns-in-Ok g c = linked (answer_of c.remove_file.result) (search rules) refl (search rules)

pub returns-in-File : goal.returns-in-File
returns-in-File g c = taken File c.if-replaces.false refl (search rules) (search rules)

pub returns-in-Folder : goal.returns-in-Folder
returns-in-Folder g c = taken Folder c.if-replaces.false refl (search rules) (search rules)

pub returns-in-Link : goal.returns-in-Link
returns-in-Link g c = taken Link c.if-replaces.false refl (search rules) (search rules)
