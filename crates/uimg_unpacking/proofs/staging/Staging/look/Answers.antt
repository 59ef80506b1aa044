use Rattle.std.proofs.Common.{false, string_bytes}
use Rattle.std.specs.Option.{option_map}
use Rattle.uimg_unpacking.specs.Places.{terms_of}
use Rattle.uimg_unpacking.proofs.LeavingLaws.{allows_same, earlier, none_same}
use Rattle.uimg_unpacking.proofs.Placing.{◌◁◌}
use Rattle.uimg_unpacking.proofs.staging.Staging.look.Goals as goal

pub invariant_of-self-2 : goal.invariant_of-self-2
invariant_of-self-2 g c =
    let it = c.args.self.now in
    record {
      made_inside = it.made_inside;
      files_inside = it.files_inside;
      created_inside = it.created_inside;
      outdated_inside = it.outdated_inside;
      named = it.named;
      agreed = it.agreed;
      obeys = c.allows.ensures.within (terms_of it.folder) it.is_naming ◁ it.obeys;
      numbered = it.numbered;
      none = λ is. none_same (option_map string_bytes it.made) (g.W.World.trace it.world.now) (g.W.World.trace c.allows.new.world) (earlier (terms_of it.folder) false _ _ (c.allows.ensures.within (terms_of it.folder) false)) (allows_same _ _ _ _ _ _ c.allows.ensures.told) (it.none is);
    }
