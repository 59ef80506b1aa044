use Rattle.std.proofs.Common.{string_bytes}
use Rattle.std.specs.Option.{option_map}
use Rattle.uimg_unpacking.specs.Places.{is_begun_in}
use Rattle.uimg_unpacking.proofs.Placing.{without_last}
use Rattle.uimg_unpacking.proofs.StagedLaws.{numbered_popped}
use Rattle.uimg_unpacking.proofs.staging.Staging.pop.Goals as goal

pub invariant_of-self : goal.invariant_of-self
invariant_of-self g c =
    let it = c.args.self.now in
    record {
      made_inside = it.made_inside;
      files_inside = without_last (is_begun_in it.folder.path.now) it.files.items c.pop.new.self.items c.pop.result c.pop.ensures.items it.files_inside;
      created_inside = it.created_inside;
      outdated_inside = it.outdated_inside;
      named = it.named;
      agreed = it.agreed;
      obeys = it.obeys;
      numbered = numbered_popped (option_map string_bytes it.made) it.files.items c.pop.new.self.items c.pop.result c.pop.ensures.items it.numbered;
      none = it.none;
    }
