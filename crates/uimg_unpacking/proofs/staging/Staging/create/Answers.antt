use Rattle.std.proofs.Common.{◌≡◌, ◌∙◌, ◌∷◌, ap, true, string_bytes}
use Rattle.std.specs.Option.{option_map}
use Rattle.uimg_world.specs.Deeds.{Creates, answer_of}
use Rattle.uimg_unpacking.specs.Places.{is_temporary_file, terms_of}
use Rattle.uimg_unpacking.proofs.Placing.{begun_new, created_within, ◌◁◌}
use Rattle.uimg_unpacking.proofs.StagedLaws.{created_staged, none_made}
use Rattle.uimg_unpacking.proofs.staging.Staging.create.Goals as goal

pub invariant_of-self : goal.invariant_of-self
invariant_of-self g c =
    let it = c.args.self.now in
    let folder = it.folder.path.now in
    let new : is_temporary_file folder c.as_str.result.now ≡ true = ap (is_temporary_file folder) c.as_str.ensures.value ∙ begun_new folder c.args.begun.now c.requires.begun in
    record {
      made_inside = c.args.self.now.made_inside;
      files_inside = c.args.self.now.files_inside;
      created_inside = c.args.self.now.created_inside;
      outdated_inside = c.args.self.now.outdated_inside;
      named = it.named;
      agreed = it.agreed;
      obeys = created_within (terms_of it.folder) it.is_naming c.as_str.result.now (answer_of c.create_new.result) (g.W.World.trace it.world.now) (g.W.World.trace c.create_new.new.self) new c.create_new.ensures.noted ◁ it.obeys;
      numbered = c.args.self.now.numbered;
      none = λ is. none_made (option_map string_bytes it.made) it.files.items c.args.begun.now (answer_of c.create_new.result) (g.W.World.trace it.world.now) (g.W.World.trace c.create_new.new.self) c.requires.numbered
          (c.create_new.ensures.noted ∙ ap (λ p. Creates p (answer_of c.create_new.result) ∷ g.W.World.trace it.world.now) c.as_str.ensures.value) (it.none is);
    }

pub returns-clause-staged : goal.returns-clause-staged
returns-clause-staged g c =
    let it = c.args.self.now in
    let answer = answer_of c.create_new.result in
    created_staged (option_map string_bytes it.made) it.files.items it.is_writing c.args.begun.now answer (g.W.World.trace it.world.now) (g.W.World.trace c.create_new.new.self) c.requires.numbered
    (c.create_new.ensures.noted ∙ ap (λ p. Creates p answer ∷ g.W.World.trace it.world.now) c.as_str.ensures.value)
