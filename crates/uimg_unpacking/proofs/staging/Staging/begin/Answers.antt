use Rattle.std.proofs.Common.{refl, ◌∙◌, ap, ap₂, Vec}
use Rattle.std.specs.declared.alloc.Global.{Global}
use Rattle.uimg_unpacking.specs.{Contents.held, Staged.staged}
use Rattle.uimg_unpacking.specs.declared.staged_file.StagedFile.{StagedFile}
use Rattle.uimg_unpacking.proofs.StagedLaws.{same_staged}
use Rattle.uimg_unpacking.proofs.staging.Staging.begin.Goals as goal

pub returns-clause-staged : goal.returns-clause-staged
returns-clause-staged g c =
    let t = g.W.World.trace in
    let items = λ (v : Vec StagedFile Global). v.items in
    let made = c.make_folder.new.self in
    let noted = c.note.new.self in
    let it = c.args.self.now in
    c.add.ensures.staged
    ∙ same_staged (t c.create.new.self.world.now) (t c.create.new.self.world.now) noted.files.items c.create.new.self.files.items noted.is_writing c.create.new.self.is_writing refl (ap items c.create.ensures.files) c.create.ensures.writing
    ∙ c.create.ensures.staged
    ∙ same_staged (t made.world.now) (t noted.world.now) made.files.items noted.files.items made.is_writing noted.is_writing (ap (λ w. held (t w.now)) c.note.ensures.world) (ap items c.note.ensures.files) c.note.ensures.writing
    ∙ ap₂ (staged (t made.world.now)) (ap items c.make_folder.ensures.files) c.make_folder.ensures.writing
    ∙ c.make_folder.ensures.staged

pub returns-in_err-add-clause-staged : goal.returns-in_err-add-clause-staged
returns-in_err-add-clause-staged g c =
    let t = g.W.World.trace in
    let items = λ (v : Vec StagedFile Global). v.items in
    let made = c.make_folder.new.self in
    let noted = c.note.new.self in
    let it = c.args.self.now in
    c.add.ensures.staged
    ∙ same_staged (t c.create.new.self.world.now) (t c.create.new.self.world.now) noted.files.items c.create.new.self.files.items noted.is_writing c.create.new.self.is_writing refl (ap items c.create.ensures.files) c.create.ensures.writing
    ∙ c.create.ensures.staged
    ∙ same_staged (t made.world.now) (t noted.world.now) made.files.items noted.files.items made.is_writing noted.is_writing (ap (λ w. held (t w.now)) c.note.ensures.world) (ap items c.note.ensures.files) c.note.ensures.writing
    ∙ ap₂ (staged (t made.world.now)) (ap items c.make_folder.ensures.files) c.make_folder.ensures.writing
    ∙ c.make_folder.ensures.staged
