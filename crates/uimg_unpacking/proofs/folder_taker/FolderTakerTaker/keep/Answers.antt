use Rattle.uimg_fit_checking.specs.Unpacking.{as_bytes, kept}
use Rattle.uimg_unpacking.specs.{Given.takes_given, Staged.staged}
use Rattle.uimg_unpacking.proofs.GivenLaws.{gives_if}
use Rattle.uimg_unpacking.proofs.folder_taker.FolderTakerTaker.keep.Goals as goal

pub returns-clause-given : goal.returns-clause-given
returns-clause-given g c = λ knows bytes is.
    let old = c.args.self.now in
    let new = c.finish-finished.new.self in
    gives_if c.kept.result c.finish-finished.result (kept (as_bytes c.args.name.now) bytes c.args.vouched)
    (takes_given old.given.names (staged (g.W.World.trace old.staging.world.now) old.staging.files.items old.staging.is_writing))
    (takes_given new.given.names (staged (g.W.World.trace new.staging.world.now) new.staging.files.items new.staging.is_writing))
    c.kept.ensures.done (c.finish-finished.ensures.given knows bytes is)
