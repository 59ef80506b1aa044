use Rattle.std.proofs.Common.{rules, ap, sym, subst, true, false, List, ◌≡◌, ◌∙◌, ◌∷◌, [], ◌++◌, string_bytes}
use Rattle.std.specs.Option.{option_map}
use Rattle.uimg_world.specs.Deeds.{Deed, Removes, answer_of}
use Rattle.uimg_unpacking.specs.Leaving.{KeepsNone}
use Rattle.uimg_unpacking.specs.Places.{is_begun_in, terms_of}
use Rattle.uimg_unpacking.specs.Staged.{last_gone, names_of}
use Rattle.uimg_unpacking.proofs.LeavingLaws.{none_removed}
use Rattle.uimg_unpacking.proofs.Placing.{begun_new, no_more, removed_within}
use Rattle.uimg_unpacking.proofs.StagedLaws.{dropped_names, dropped_staged, names_last}
use Rattle.uimg_unpacking.proofs.staging.Staging.drop_last.Goals as goal

pub returns-in-Ok-clause-names : goal.returns-in-Ok-clause-names
returns-in-Ok-clause-names g c =
    let it = c.args.self.now in
    let its = c.in-Some.last in
    let are : it.files.items ≡ c.pop.new.self.files.items ++ its ∷ [] = search rules in
    last_gone (string_bytes its.name) (names_last it.files.items c.pop.new.self.files.items its are ∙ ap (λ fs. names_of fs ++ string_bytes its.name ∷ []) (search rules)) (search rules)

pub returns-in-Ok-clause-staged : goal.returns-in-Ok-clause-staged
returns-in-Ok-clause-staged g c = λ writing.
    let it = c.args.self.now in
    let its = c.in-Some.last in
    let are : it.files.items ≡ c.pop.new.self.files.items ++ its ∷ [] = search rules in
    dropped_staged (option_map string_bytes it.made) it.files.items c.pop.new.self.files.items c.remove.new.self.files.items c.remove.new.self.is_writing its (answer_of c.remove.result) (g.W.World.trace it.world.now) (g.W.World.trace c.pop.new.self.world.now) (g.W.World.trace c.remove.new.self.world.now) are it.numbered (search rules) c.remove.ensures.removed (search rules) (search rules)

pub returns-in-Err-clause-names : goal.returns-in-Err-clause-names
returns-in-Err-clause-names g c =
    let it = c.args.self.now in
    let its = c.in-Some.last in
    let are : it.files.items ≡ c.pop.new.self.files.items ++ its ∷ [] = search rules in
    last_gone (string_bytes its.name) (names_last it.files.items c.pop.new.self.files.items its are ∙ ap (λ fs. names_of fs ++ string_bytes its.name ∷ []) (search rules)) (search rules)

pub returns-in-Err-clause-staged : goal.returns-in-Err-clause-staged
returns-in-Err-clause-staged g c = λ writing.
    let it = c.args.self.now in
    let its = c.in-Some.last in
    let are : it.files.items ≡ c.pop.new.self.files.items ++ its ∷ [] = search rules in
    dropped_staged (option_map string_bytes it.made) it.files.items c.pop.new.self.files.items c.remove.new.self.files.items c.remove.new.self.is_writing its (answer_of c.remove.result) (g.W.World.trace it.world.now) (g.W.World.trace c.pop.new.self.world.now) (g.W.World.trace c.remove.new.self.world.now) are it.numbered (search rules) c.remove.ensures.removed (search rules) (search rules)

pub returns-in-Ok-clause-complete : goal.returns-in-Ok-clause-complete
returns-in-Ok-clause-complete g c = λ writing.
    let it = c.args.self.now in
    let its = c.in-Some.last in
    let are : it.files.items ≡ c.pop.new.self.files.items ++ its ∷ [] = search rules in
    dropped_names it.files.items c.pop.new.self.files.items c.remove.new.self.files.items c.remove.new.self.is_writing its are (search rules) (search rules)

pub returns-in-Err-clause-complete : goal.returns-in-Err-clause-complete
returns-in-Err-clause-complete g c = λ writing.
    let it = c.args.self.now in
    let its = c.in-Some.last in
    let are : it.files.items ≡ c.pop.new.self.files.items ++ its ∷ [] = search rules in
    dropped_names it.files.items c.pop.new.self.files.items c.remove.new.self.files.items c.remove.new.self.is_writing its are (search rules) (search rules)

pub returns-in-Ok-clause-none : goal.returns-in-Ok-clause-none
returns-in-Ok-clause-none g c = λ none.
    let it = c.args.self.now in
    let its = c.in-Some.last in
    let removed : g.W.World.trace c.remove.new.self.world.now ≡ Removes (string_bytes its.new) (answer_of c.remove.result) ∷ g.W.World.trace it.world.now = rw (c.pop.ensures.world) at c.remove.ensures.removed in
    none_removed (option_map string_bytes it.made) (string_bytes its.new) (answer_of c.remove.result) (g.W.World.trace it.world.now) (g.W.World.trace c.remove.new.self.world.now) removed none

pub returns-in-Ok-clause-within : goal.returns-in-Ok-clause-within
returns-in-Ok-clause-within g c =
    let it = c.args.self.now in
    let its = c.in-Some.last in
    let removed : g.W.World.trace c.remove.new.self.world.now ≡ Removes (string_bytes its.new) (answer_of c.remove.result) ∷ g.W.World.trace it.world.now = rw (c.pop.ensures.world) at c.remove.ensures.removed in
    let inside : is_begun_in it.folder.path.now its ≡ true = search rules in
    removed_within (terms_of it.folder) false (string_bytes its.new) (answer_of c.remove.result) (g.W.World.trace it.world.now) (g.W.World.trace c.remove.new.self.world.now) (begun_new it.folder.path.now its inside) removed

pub returns-in-Err-clause-none : goal.returns-in-Err-clause-none
returns-in-Err-clause-none g c = λ none.
    let it = c.args.self.now in
    let its = c.in-Some.last in
    let removed : g.W.World.trace c.remove.new.self.world.now ≡ Removes (string_bytes its.new) (answer_of c.remove.result) ∷ g.W.World.trace it.world.now = rw (c.pop.ensures.world) at c.remove.ensures.removed in
    none_removed (option_map string_bytes it.made) (string_bytes its.new) (answer_of c.remove.result) (g.W.World.trace it.world.now) (g.W.World.trace c.remove.new.self.world.now) removed none

pub returns-in-Err-clause-within : goal.returns-in-Err-clause-within
returns-in-Err-clause-within g c =
    let it = c.args.self.now in
    let its = c.in-Some.last in
    let removed : g.W.World.trace c.remove.new.self.world.now ≡ Removes (string_bytes its.new) (answer_of c.remove.result) ∷ g.W.World.trace it.world.now = rw (c.pop.ensures.world) at c.remove.ensures.removed in
    let inside : is_begun_in it.folder.path.now its ≡ true = search rules in
    removed_within (terms_of it.folder) false (string_bytes its.new) (answer_of c.remove.result) (g.W.World.trace it.world.now) (g.W.World.trace c.remove.new.self.world.now) (begun_new it.folder.path.now its inside) removed

pub returns-in_default-clause-within : goal.returns-in_default-clause-within
returns-in_default-clause-within g c =
    no_more (terms_of c.args.self.now.folder) false (g.W.World.trace c.args.self.now.world.now) (g.W.World.trace c.pop.new.self.world.now) (ap (λ w. g.W.World.trace w.now) c.pop.ensures.world)

pub returns-in_default-clause-none : goal.returns-in_default-clause-none
returns-in_default-clause-none g c = λ none.
    subst (λ (t : List Deed). KeepsNone (option_map string_bytes c.args.self.now.made) t) (sym (ap (λ w. g.W.World.trace w.now) c.pop.ensures.world)) none
