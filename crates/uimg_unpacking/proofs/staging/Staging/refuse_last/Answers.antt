use Rattle.std.proofs.Common.{rules, ◌≡◌, ◌∙◌, ◌++◌, ◌∷◌, [], ap, true, is_ok, string_bytes, Vec}
use Rattle.std.specs.declared.alloc.Global.{Global}
use Rattle.uimg_unpacking.specs.Places.{is_begun_in}
use Rattle.uimg_unpacking.specs.Staged.{last_gone, last_noted, names_of}
use Rattle.uimg_unpacking.specs.declared.staged_file.StagedFile.{StagedFile}
use Rattle.uimg_unpacking.proofs.StagedLaws.{names_last}
use Rattle.uimg_unpacking.proofs.Placing.{pushed}
use Rattle.uimg_unpacking.proofs.staging.Staging.refuse_last.Goals as goal

pub invariant_of-self : goal.invariant_of-self
invariant_of-self g c =
    let it = c.drop_last.new.self in
    let last : is_begun_in it.folder.path.now c.in_ok-refused.refused ≡ true = search rules in
    record {
      made_inside = it.made_inside;
      files_inside = it.files_inside;
      created_inside = it.created_inside;
      outdated_inside = pushed (is_begun_in it.folder.path.now) it.outdated.items c.push.new.self.items c.in_ok-refused.refused (is_ok c.push.result) c.push.ensures.items it.outdated_inside last;
      named = it.named;
      agreed = it.agreed;
      obeys = it.obeys;
      numbered = it.numbered;
      none = it.none;
    }

pub returns-then-not-is_outdated-clause-names : goal.returns-then-not-is_outdated-clause-names
returns-then-not-is_outdated-clause-names g c = c.drop_last.ensures.names

pub returns-clause-names : goal.returns-clause-names
returns-clause-names g c =
    let it = c.args.self.now in
    let its = c.in_ok-refused.refused in
    last_noted (string_bytes its.name) (names_last it.files.items c.drop_last.new.self.files.items its c.in_ok-refused.ensures.last.0)
    (names_last c.push.new.self.items it.outdated.items its (c.in_ok-push.ensures.items ∙ ap (λ (o : Vec StagedFile Global). o.items ++ its ∷ []) c.drop_last.ensures.outdated))

pub returns-in_err-push-clause-names : goal.returns-in_err-push-clause-names
returns-in_err-push-clause-names g c =
    let it = c.args.self.now in
    let its = c.in_ok-refused.refused in
    let same : c.push.new.self.items ≡ it.outdated.items = search rules in
    last_gone (string_bytes its.name) (names_last it.files.items c.drop_last.new.self.files.items its c.in_ok-refused.ensures.last.0) (ap names_of same)
