use Rattle.std.proofs.Common.{ap, Vec}
use Rattle.std.specs.declared.alloc.Global.{Global}
use Rattle.uimg_unpacking.specs.declared.staged_file.StagedFile.{StagedFile}
use Rattle.uimg_unpacking.proofs.StagedLaws.{same_staged}
use Rattle.uimg_unpacking.proofs.folder_taker.FolderTaker.look.Goals as goal

pub returns-clause-staged : goal.returns-clause-staged
returns-clause-staged g c =
    let it = c.args.self.now.staging in
    let now = c.look.new.self in
    same_staged (g.W.World.trace it.world.now) (g.W.World.trace now.world.now) it.files.items now.files.items it.is_writing now.is_writing c.look.ensures.held (ap (λ (v : Vec StagedFile Global). v.items) c.look.ensures.files) c.look.ensures.writing
