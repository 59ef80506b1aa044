use Rattle.std.proofs.Common.{rules, ◌≡◌, ◌∙◌, ap, true, false}
use Rattle.uimg_world.specs.Deeds.{answer_of}
use Rattle.uimg_unpacking.specs.Places.{is_begun_in, is_temporary_file, terms_of}
use Rattle.uimg_unpacking.proofs.Placing.{each_of, begun_old, removed_within, ◌◁◌}
use Rattle.uimg_unpacking.proofs.naming.forget_old.Goals as goal

pub loop-its-preserved : goal.loop-its-preserved
loop-its-preserved g c =
    let folder = c.args.folder.now.path.now in
    let its = c.its-item.result in
    let inside : is_begun_in folder its ≡ true = search (rules, each_of (is_begun_in folder)) in
    let old : is_temporary_file folder c.as_str.result.now ≡ true = ap (is_temporary_file folder) c.as_str.ensures.value ∙ begun_old folder its inside in
    removed_within (terms_of c.args.folder.now) false c.as_str.result.now (answer_of c.remove_file.result) (g.W.World.trace c.loop-its.world) (g.W.World.trace c.remove_file.new.self) old c.remove_file.ensures ◁ c.loop-its.invariant
