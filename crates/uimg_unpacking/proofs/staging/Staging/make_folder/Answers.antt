use Rattle.std.proofs.Common.{rules, string_bytes}
use Rattle.std.specs.Option.{option_map}
use Rattle.uimg_unpacking.proofs.Placing.{◌◁◌}
use Rattle.uimg_unpacking.proofs.StagedLaws.{none_unmade, numbered_made, unmade_staged}
use Rattle.uimg_unpacking.proofs.staging.Staging.make_folder.Goals as goal

pub invariant_of-self : goal.invariant_of-self
invariant_of-self g c =
    record {
      made_inside = search rules;
      files_inside = c.args.self.now.files_inside;
      created_inside = c.args.self.now.created_inside;
      outdated_inside = c.args.self.now.outdated_inside;
      named = c.args.self.now.named;
      agreed = c.args.self.now.agreed;
      obeys = c.new_folder.ensures.within c.args.self.now.is_naming ◁ c.args.self.now.obeys;
      numbered = numbered_made (option_map string_bytes c.args.self.now.made) _ c.args.self.now.files.items (search rules) c.args.self.now.numbered;
      none = λ is. search rules;
    }

pub invariant_of-self-in-Err-1 : goal.invariant_of-self-in-Err-1
invariant_of-self-in-Err-1 g c =
    record {
      made_inside = c.args.self.now.made_inside;
      files_inside = c.args.self.now.files_inside;
      created_inside = c.args.self.now.created_inside;
      outdated_inside = c.args.self.now.outdated_inside;
      named = c.args.self.now.named;
      agreed = c.args.self.now.agreed;
      obeys = c.new_folder.ensures.within c.args.self.now.is_naming ◁ c.args.self.now.obeys;
      numbered = c.args.self.now.numbered;
      none = λ is. none_unmade (option_map string_bytes c.args.self.now.made) (g.W.World.trace c.new_folder.new.world) (search rules);
    }

pub invariant_of-self-in-Err-new_folder : goal.invariant_of-self-in-Err-new_folder
invariant_of-self-in-Err-new_folder g c =
    record {
      made_inside = c.args.self.now.made_inside;
      files_inside = c.args.self.now.files_inside;
      created_inside = c.args.self.now.created_inside;
      outdated_inside = c.args.self.now.outdated_inside;
      named = c.args.self.now.named;
      agreed = c.args.self.now.agreed;
      obeys = c.new_folder.ensures.within c.args.self.now.is_naming ◁ c.args.self.now.obeys;
      numbered = c.args.self.now.numbered;
      none = λ is. none_unmade (option_map string_bytes c.args.self.now.made) (g.W.World.trace c.new_folder.new.world) (search rules);
    }

pub returns-in-Ok-Ok-clause-staged : goal.returns-in-Ok-Ok-clause-staged
returns-in-Ok-Ok-clause-staged g c =
    let it = c.args.self.now in
    unmade_staged (option_map string_bytes it.made) it.files.items it.is_writing (g.W.World.trace it.world.now) (g.W.World.trace c.new_folder.new.world) (search rules) it.numbered

pub returns-in-Ok-Err-clause-staged : goal.returns-in-Ok-Err-clause-staged
returns-in-Ok-Err-clause-staged g c =
    let it = c.args.self.now in
    unmade_staged (option_map string_bytes it.made) it.files.items it.is_writing (g.W.World.trace it.world.now) (g.W.World.trace c.new_folder.new.world) (search rules) it.numbered

pub returns-in-Err-clause-staged : goal.returns-in-Err-clause-staged
returns-in-Err-clause-staged g c =
    let it = c.args.self.now in
    unmade_staged (option_map string_bytes it.made) it.files.items it.is_writing (g.W.World.trace it.world.now) (g.W.World.trace c.new_folder.new.world) (search rules) it.numbered
