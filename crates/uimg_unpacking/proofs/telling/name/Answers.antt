use Rattle.std.proofs.Common.{rules, ◌≡◌, ◌∙◌, ap, subst, None, Vec}
use Rattle.std.specs.declared.alloc.Global.{Global}
use Rattle.uimg_unpacking.specs.Leaving.{are_undone}
use Rattle.uimg_unpacking.specs.Staged.{LeavesOthers, names_of}
use Rattle.uimg_unpacking.specs.Troubles.{trouble_in}
use Rattle.uimg_unpacking.specs.declared.staged_file.StagedFile.{StagedFile}
use Rattle.uimg_unpacking.specs.declared.folder.Folder.{Folder}
use Rattle.uimg_unpacking.proofs.StagedLaws.{complete_facts, hold_named}
use Rattle.uimg_unpacking.proofs.telling.name.Goals as goal

pub returns-then-not-keeps_good-clause-holds : goal.returns-then-not-keeps_good-clause-holds
returns-then-not-keeps_good-clause-holds g c = λ names done used uses.
    let it = c.args.staging.now in
    let ok : trouble_in c.name_all.result ≡ None = search rules in
    c.name_all.ensures.named.holds ok (complete_facts it.folder.path.now it.files.items it.is_writing (names_of it.outdated.items) used it.files_inside uses).1

pub returns-clause-holds : goal.returns-clause-holds
returns-clause-holds g c = λ names done used uses.
    let it = c.args.staging.now in
    let named = c.name_all.new.self in
    let before = g.W.World.trace it.world.now in
    let seen = g.W.World.trace named.world.now in
    let after = g.W.World.trace c.remove_outdated.new.self.world.now in
    let ok : trouble_in c.name_all.result ≡ None = search rules in
    let leaves : LeavesOthers it.folder.path.now (names_of it.outdated.items) seen after =
    subst (λ (f : Folder). LeavesOthers f.path.now (names_of it.outdated.items) seen after) c.name_all.ensures.folder
    (subst (λ (o : Vec StagedFile Global). LeavesOthers named.folder.path.now (names_of o.items) seen after) c.name_all.ensures.outdated c.remove_outdated.ensures.leaves) in
    hold_named it.folder.path.now it.files.items it.is_writing (names_of it.outdated.items) used before seen after it.files_inside uses
    (c.name_all.ensures.named.holds ok (complete_facts it.folder.path.now it.files.items it.is_writing (names_of it.outdated.items) used it.files_inside uses).1) leaves

pub returns-then-not-keeps_good-clause-others : goal.returns-then-not-keeps_good-clause-others
returns-then-not-keeps_good-clause-others g c = λ good done.
    let ok : trouble_in c.name_all.result ≡ None = search rules in
    c.name_all.ensures.named.others ok

pub returns-in-Err-clause-back : goal.returns-in-Err-clause-back
returns-in-Err-clause-back g c = λ good undone unlike. c.name_all.ensures.named.back (ap (λ r. are_undone (trouble_in r)) c.in-Err.is ∙ undone) unlike
