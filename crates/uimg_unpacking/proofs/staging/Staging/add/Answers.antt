use Rattle.std.proofs.Common.{refl, ◌≡◌, ◌∙◌, List, true, false, is_ok, ap, sym, subst, string_bytes}
use Rattle.std.specs.Option.{option_map}
use Rattle.uimg_unpacking.specs.Places.{is_begun_in}
use Rattle.uimg_unpacking.specs.Staged.{are_numbered_in, complete_names, staged}
use Rattle.uimg_unpacking.specs.declared.staged_file.StagedFile.{StagedFile}
use Rattle.uimg_unpacking.proofs.Placing.{pushed}
use Rattle.uimg_unpacking.proofs.StagedLaws.{added_names, added_staged, names_pushed, pushed_last}
use Rattle.uimg_unpacking.proofs.staging.Staging.add.Goals as goal

pub returns-in-Ok-clause-staged : goal.returns-in-Ok-clause-staged
returns-in-Ok-clause-staged g c =
    let it = c.args.self.now in
    let t = g.W.World.trace it.world.now in
    added_staged t it.files.items c.push.new.self.items c.args.begun c.in-Ok.ensures.items ∙ ap (staged t it.files.items) (sym c.requires.writing)

pub returns-in-Err-clause-staged : goal.returns-in-Err-clause-staged
returns-in-Err-clause-staged g c =
    let it = c.args.self.now in
    ap (λ (fs : List StagedFile). staged (g.W.World.trace it.world.now) fs it.is_writing) c.in-Err.ensures.items

pub returns-in-Ok-clause-names : goal.returns-in-Ok-clause-names
returns-in-Ok-clause-names g c = names_pushed c.args.self.now.files.items c.push.new.self.items c.args.begun true c.in-Ok.ensures.items

pub returns-in-Err-clause-names : goal.returns-in-Err-clause-names
returns-in-Err-clause-names g c = names_pushed c.args.self.now.files.items c.push.new.self.items c.args.begun false c.in-Err.ensures.items

pub invariant_of-self : goal.invariant_of-self
invariant_of-self g c =
    let it = c.args.self.now in
    record {
      made_inside = it.made_inside;
      files_inside = pushed (is_begun_in it.folder.path.now) it.files.items c.push.new.self.items c.args.begun (is_ok c.push.result) c.push.ensures.items it.files_inside c.requires.begun;
      created_inside = it.created_inside;
      outdated_inside = it.outdated_inside;
      named = it.named;
      agreed = it.agreed;
      obeys = it.obeys;
      numbered = subst (λ (fs : List StagedFile). are_numbered_in (option_map string_bytes it.made) fs ≡ true) (sym c.in-Ok.ensures.items) c.requires.numbered;
      none = it.none;
    }

pub returns-in-Ok-clause-complete : goal.returns-in-Ok-clause-complete
returns-in-Ok-clause-complete g c =
    let it = c.args.self.now in
    added_names it.files.items c.push.new.self.items c.args.begun c.in-Ok.ensures.items ∙ ap (complete_names it.files.items) (sym c.requires.writing)

pub returns-in-Err-clause-complete : goal.returns-in-Err-clause-complete
returns-in-Err-clause-complete g c = ap (λ (fs : List StagedFile). complete_names fs c.args.self.now.is_writing) c.in-Err.ensures.items

pub returns-in-Ok-clause-writing : goal.returns-in-Ok-clause-writing
returns-in-Ok-clause-writing g c = (refl, pushed_last c.args.self.now.files.items c.push.new.self.items c.args.begun c.in-Ok.ensures.items)
