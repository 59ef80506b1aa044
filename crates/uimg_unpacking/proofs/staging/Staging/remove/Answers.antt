use Rattle.std.proofs.Common.{◌≡◌, ◌∙◌, ap, true, string_bytes}
use Rattle.std.specs.Option.{option_map}
use Rattle.uimg_world.specs.Deeds.{answer_of}
use Rattle.uimg_unpacking.specs.Places.{is_temporary_file, terms_of}
use Rattle.uimg_unpacking.proofs.LeavingLaws.{none_removed}
use Rattle.uimg_unpacking.proofs.Placing.{begun_new, removed_within, ◌◁◌}
use Rattle.uimg_unpacking.proofs.staging.Staging.remove.Goals as goal

pub invariant_of-self : goal.invariant_of-self
invariant_of-self g c =
    let it = c.args.self.now in
    let folder = it.folder.path.now in
    let new : is_temporary_file folder c.as_str.result.now ≡ true = ap (is_temporary_file folder) c.as_str.ensures.value ∙ begun_new folder c.args.begun.now c.requires in
    record {
      made_inside = c.args.self.now.made_inside;
      files_inside = c.args.self.now.files_inside;
      created_inside = c.args.self.now.created_inside;
      outdated_inside = c.args.self.now.outdated_inside;
      named = it.named;
      agreed = it.agreed;
      obeys = removed_within (terms_of it.folder) it.is_naming c.as_str.result.now (answer_of c.remove_file.result) (g.W.World.trace it.world.now) (g.W.World.trace c.remove_file.new.self) new c.remove_file.ensures ◁ it.obeys;
      numbered = c.args.self.now.numbered;
      none = λ is. none_removed (option_map string_bytes it.made) c.as_str.result.now (answer_of c.remove_file.result) (g.W.World.trace it.world.now) (g.W.World.trace c.remove_file.new.self) c.remove_file.ensures (it.none is);
    }
