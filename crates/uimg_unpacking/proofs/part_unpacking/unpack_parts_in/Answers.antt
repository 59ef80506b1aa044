use Rattle.std.proofs.Common.{◌∙◌, ap, rules}
use Rattle.uimg_unpacking.specs.declared.folder.Folder.{Folder}
use Rattle.uimg_unpacking.specs.Staged.{staged}
use Rattle.uimg_unpacking.proofs.PartFillingLaws.{fills_kept}
use Rattle.uimg_unpacking.proofs.PartLaws.{kept_right, left_parts}
use Rattle.uimg_unpacking.proofs.Placing.{obeys_naming}
use Rattle.uimg_unpacking.proofs.part_unpacking.unpack_parts_in.Goals as goal

pub returns-clause-obeys : goal.returns-clause-obeys
returns-clause-obeys g c =
    obeys_naming g.M.Task.terms c.is_right-names.result g.M.Task.before (g.W.World.trace c.end-world.result.0.now) c.end-world.ensures.obeys

pub returns-clause-kept : goal.returns-clause-kept
returns-clause-kept g c = λ honest.
    kept_right c.args.asked.now (g.S.Source.device c.args.source.now) (g.S.Source.device c.excess.new.source) c.requested-only.result c.unpack-unpacked.result c.end-world.result.1 c.ended.result c.excess.ensures honest c.ended.ensures (search rules) c.requested-only.ensures c.unpack-unpacked.ensures.ends

pub returns-clause-holds : goal.returns-clause-holds
returns-clause-holds g c = λ honest knows.
    let folder = c.unpack-unpacked.new.taker in
    let staging = folder.taker.staging in
    fills_kept c.args.asked.now (g.S.Source.device c.args.source.now) (g.S.Source.device c.excess.new.source) c.requested-only.result c.unpack-unpacked.result c.end-world.result.1 c.ended.result
    folder.is_kept staging.folder.path.now (g.W.World.trace c.end-world.result.0.now) folder.parts.items (staged (g.W.World.trace staging.world.now) staging.files.items staging.is_writing)
    c.excess.ensures honest c.ended.ensures c.requested-only.ensures
    (c.unpack-unpacked.ensures.stays ∙ ap (λ (f : Folder). f.path.now) c.new.ensures.folder)
    (λ other. c.unpack-unpacked.ensures.told other knows) (λ right none. c.end-world.ensures.holds (c.is_right-names.ensures ∙ right) none)

pub returns-clause-back : goal.returns-clause-back
returns-clause-back g c = λ left.
    left_parts c.unpack-unpacked.result c.end-world.result.1 c.ended.result c.is_right-names.result g.M.Task.before (g.W.World.trace c.end-world.result.0.now) c.args.asked.now.folder.path.now c.unpack-unpacked.new.taker.taker.staging.folder.path.now
    c.ended.ensures c.is_right-names.ensures (c.unpack-unpacked.ensures.stays ∙ ap (λ (f : Folder). f.path.now) c.new.ensures.folder) left c.end-world.ensures.unnamed c.end-world.ensures.back
