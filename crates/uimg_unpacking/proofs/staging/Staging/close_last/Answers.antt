use Rattle.std.proofs.Common.{rules, ◌≡◌, ◌∙◌, ◌-◌, ◌∷◌, [], ◌++◌, ℕ, List, Option, Some, Bool, true, ap, ap₂, sym, subst, length, slice_get, string_bytes}
use Rattle.std.specs.Option.{option_map, option_map_or}
use Rattle.uimg_world.specs.Deeds.{Closes, answer_of}
use Rattle.uimg_world.specs.declared.call.Answer.{Answer}
use Rattle.uimg_world.specs.declared.call.Answer.TheVariants.{Done}
use Rattle.uimg_unpacking.specs.Places.{is_begun_in, is_temporary_file, terms_of}
use Rattle.uimg_unpacking.specs.Staged.{complete_names, staged}
use Rattle.uimg_unpacking.specs.declared.staged_file.StagedFile.{StagedFile}
use Rattle.uimg_unpacking.proofs.Placing.{begun_new, closed_within, the_last, ◌◁◌}
use Rattle.uimg_unpacking.proofs.StagedLaws.{closed_names, closed_staged, last_is, none_shut, unclosed_staged}
use Rattle.uimg_unpacking.proofs.staging.Staging.close_last.Goals as goal

pub invariant_of-self-in-Ok : goal.invariant_of-self-in-Ok
invariant_of-self-in-Ok g c =
    let it = c.args.self.now in
    let folder = it.folder.path.now in
    let files = it.files.items in
    let its = c.in-Some.last.now in
    let got : slice_get files (length files - 1) ≡ Some its = search rules in
    let last = last_is files its got in
    let inside : is_begun_in folder its ≡ true = the_last (is_begun_in folder) files last.0 its last.1 it.files_inside in
    let path : is_temporary_file folder c.as_str-path.result.now ≡ true = ap (is_temporary_file folder) c.as_str-path.ensures.value ∙ begun_new folder its inside in
    record {
      made_inside = it.made_inside;
      files_inside = it.files_inside;
      created_inside = it.created_inside;
      outdated_inside = it.outdated_inside;
      named = it.named;
      agreed = it.agreed;
      obeys = closed_within (terms_of it.folder) it.is_naming c.as_str-path.result.now c.close.ensures.contents (answer_of c.close.result) (g.W.World.trace it.world.now) (g.W.World.trace c.close.new.self) path c.close.ensures.is ◁ it.obeys;
      numbered = it.numbered;
      none = λ is. none_shut (option_map string_bytes it.made) files last.0 its it.folder.is_synced c.close.ensures.contents (answer_of c.close.result) (g.W.World.trace it.world.now) (g.W.World.trace c.close.new.self) last.1 it.numbered
          (c.close.ensures.is ∙ ap (λ (p : List ℕ). Closes p it.folder.is_synced c.close.ensures.contents (answer_of c.close.result) ∷ g.W.World.trace it.world.now) c.as_str-path.ensures.value) (it.none is);
    }

pub invariant_of-self-in-Err-1 : goal.invariant_of-self-in-Err-1
invariant_of-self-in-Err-1 g c =
    let it = c.args.self.now in
    let folder = it.folder.path.now in
    let files = it.files.items in
    let its = c.in-Some.last.now in
    let got : slice_get files (length files - 1) ≡ Some its = search rules in
    let last = last_is files its got in
    let inside : is_begun_in folder its ≡ true = the_last (is_begun_in folder) files last.0 its last.1 it.files_inside in
    let path : is_temporary_file folder c.as_str-path.result.now ≡ true = ap (is_temporary_file folder) c.as_str-path.ensures.value ∙ begun_new folder its inside in
    record {
      made_inside = it.made_inside;
      files_inside = it.files_inside;
      created_inside = it.created_inside;
      outdated_inside = it.outdated_inside;
      named = it.named;
      agreed = it.agreed;
      obeys = closed_within (terms_of it.folder) it.is_naming c.as_str-path.result.now c.close.ensures.contents (answer_of c.close.result) (g.W.World.trace it.world.now) (g.W.World.trace c.close.new.self) path c.close.ensures.is ◁ it.obeys;
      numbered = it.numbered;
      none = λ is. none_shut (option_map string_bytes it.made) files last.0 its it.folder.is_synced c.close.ensures.contents (answer_of c.close.result) (g.W.World.trace it.world.now) (g.W.World.trace c.close.new.self) last.1 it.numbered
          (c.close.ensures.is ∙ ap (λ (p : List ℕ). Closes p it.folder.is_synced c.close.ensures.contents (answer_of c.close.result) ∷ g.W.World.trace it.world.now) c.as_str-path.ensures.value) (it.none is);
    }

pub returns-in-Ok-clause-staged : goal.returns-in-Ok-clause-staged
returns-in-Ok-clause-staged g c = λ knows.
    let it = c.args.self.now in
    let files = it.files.items in
    let before = g.W.World.trace it.world.now in
    let its = c.in-Some.last.now in
    let got : slice_get files (length files - 1) ≡ Some its = search rules in
    let last = last_is files its got in
    let contents = c.close.ensures.contents in
    let closed : g.W.World.trace c.close.new.self ≡ Closes (string_bytes its.new) it.folder.is_synced contents Done ∷ before =
    c.close.ensures.is ∙ ap₂ (λ (p : List ℕ) (a : Answer). Closes p it.folder.is_synced contents a ∷ before) c.as_str-path.ensures.value (ap (λ r. answer_of r) c.in-Ok.is) in
    closed_staged (option_map string_bytes it.made) files last.0 its it.folder.is_synced contents before (g.W.World.trace c.close.new.self) last.1 it.numbered closed
    ∙ ap₂ (λ (xs : List (Option (List ℕ))) (x : Option (List ℕ)). xs ++ x ∷ []) (ap (staged before files) (sym c.requires)) (c.close.ensures.known knows)

pub returns-in-Err-clause-staged : goal.returns-in-Err-clause-staged
returns-in-Err-clause-staged g c = λ knows.
    let it = c.args.self.now in
    let files = it.files.items in
    let before = g.W.World.trace it.world.now in
    let after = g.W.World.trace c.close.new.self in
    let its = c.in-Some.last.now in
    let got : slice_get files (length files - 1) ≡ Some its = search rules in
    let last = last_is files its got in
    let contents = c.close.ensures.contents in
    let answer = answer_of c.close.result in
    let closed : after ≡ Closes (string_bytes its.new) it.folder.is_synced contents answer ∷ before =
    c.close.ensures.is ∙ ap (λ (p : List ℕ). Closes p it.folder.is_synced contents answer ∷ before) c.as_str-path.ensures.value in
    subst (λ (b : Bool). staged after files b ≡ staged before files b) (sym c.requires)
    (unclosed_staged (option_map string_bytes it.made) files last.0 its it.folder.is_synced contents answer before after last.1 it.numbered closed)

pub returns-in-Ok-clause-complete : goal.returns-in-Ok-clause-complete
returns-in-Ok-clause-complete g c =
    let files = c.args.self.now.files.items in
    let its = c.in-Some.last.now in
    let got : slice_get files (length files - 1) ≡ Some its = search rules in
    let last = last_is files its got in
    closed_names files last.0 its last.1
    ∙ ap₂ (λ (xs : List (List ℕ)) (x : List ℕ). xs ++ x ∷ []) (ap (complete_names files) (sym c.requires)) (sym (ap (λ (o : Option StagedFile). option_map_or (λ it. string_bytes it.name) o []) got))
