use Rattle.std.proofs.Common.{refl}
use Rattle.uimg_world.specs.Deeds.{answer_of}
use Rattle.uimg_unpacking.proofs.PartChanges.{changed_none, changed_removed, changed_removed_all}
use Rattle.uimg_unpacking.proofs.folder.remove_at.Goals as goal

pub returns-in-Nothing : goal.returns-in-Nothing
returns-in-Nothing g c = λ folder inside. changed_none folder (g.W.World.trace c.args.world.now) (g.W.World.trace c.args.world.now) refl

pub returns-in-File : goal.returns-in-File
returns-in-File g c = λ folder inside.
    changed_removed folder c.args.path.now (answer_of c.remove_file.result) (g.W.World.trace c.args.world.now) (g.W.World.trace c.remove_file.new.self) inside c.remove_file.ensures

pub returns-in-Folder : goal.returns-in-Folder
returns-in-Folder g c = λ folder inside.
    changed_removed_all folder c.args.path.now (answer_of c.remove_dir_all.result) (g.W.World.trace c.args.world.now) (g.W.World.trace c.remove_dir_all.new.self) inside c.remove_dir_all.ensures

pub returns-in-Link : goal.returns-in-Link
returns-in-Link g c = λ folder inside.
    changed_removed folder c.args.path.now (answer_of c.remove_file-in-Link.result) (g.W.World.trace c.args.world.now) (g.W.World.trace c.remove_file-in-Link.new.self) inside c.remove_file-in-Link.ensures
