use Rattle.std.proofs.Common.{refl, ap, subst, List, string_bytes}
use Rattle.std.specs.Option.{option_map}
use Rattle.uimg_unpacking.specs.Contents.{IsTrueTo, files_after}
use Rattle.uimg_world.specs.Deeds.{Deed, Syncs, answer_of}
use Rattle.uimg_unpacking.specs.Places.{terms_of}
use Rattle.uimg_unpacking.proofs.LeavingLaws.{none_same}
use Rattle.uimg_unpacking.proofs.Placing.{one_more, ◌◁◌}
use Rattle.uimg_unpacking.proofs.staging.Staging.sync.Goals as goal

pub invariant_of-self : goal.invariant_of-self
invariant_of-self g c =
    let it = c.args.self.now in
    record {
      made_inside = it.made_inside;
      files_inside = it.files_inside;
      created_inside = it.created_inside;
      outdated_inside = it.outdated_inside;
      named = it.named;
      agreed = it.agreed;
      obeys = one_more (terms_of it.folder) it.is_naming (Syncs it.folder.path.now (answer_of c.sync_dir.result)) (g.W.World.trace it.world.now) (g.W.World.trace c.sync_dir.new.self) c.sync_dir.ensures refl ◁ it.obeys;
      numbered = it.numbered;
      none = λ is. none_same (option_map string_bytes it.made) (g.W.World.trace it.world.now) (g.W.World.trace c.sync_dir.new.self)
          (λ start told. subst (IsTrueTo start) c.sync_dir.ensures told) (λ start. ap (λ (t : List Deed). files_after start t) c.sync_dir.ensures) (it.none is);
    }
