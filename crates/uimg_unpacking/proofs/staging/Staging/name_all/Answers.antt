use Rattle.std.proofs.Common.{rules, ◌≡◌, ◌∙◌, sym, ap, subst, Bool, true, false}
use Rattle.uimg_unpacking.specs.Leaving.{NamesAll}
use Rattle.uimg_unpacking.specs.Places.{Obeys, terms_of}
use Rattle.uimg_unpacking.specs.Staged.{complete_names, held_new, names_of, staged}
use Rattle.uimg_unpacking.specs.Troubles.{trouble_in}
use Rattle.uimg_unpacking.proofs.LeavingLaws.{leaves_quiet, named_later, none_named}
use Rattle.uimg_unpacking.proofs.staging.Staging.name_all.Goals as goal

pub returns-then-not-self-clause-named : goal.returns-then-not-self-clause-named
returns-then-not-self-clause-named g c =
    let it = c.args.self.now in
    let files = it.files.items in
    let before = g.W.World.trace it.world.now in
    let after = g.W.World.trace c.name_complete.new.self.world.now in
    let trouble = trouble_in c.name_complete.result in
    let whole : it.is_writing ≡ false = search rules in
    let named : NamesAll it.folder.path.now (names_of files) (held_new before files) trouble before after = rw (c.begin_naming.ensures.folder, c.begin_naming.ensures.files, c.begin_naming.ensures.world) at c.name_complete.ensures.named in
    subst (λ (b : Bool). NamesAll it.folder.path.now (complete_names files b) (staged before files b) trouble before after) (sym whole) named

pub returns-in-Err-clause-named : goal.returns-in-Err-clause-named
returns-in-Err-clause-named g c =
    let it = c.args.self.now in
    let before = g.W.World.trace it.world.now in
    let after = g.W.World.trace c.drop_last.new.self.world.now in
    let quiet : Obeys (terms_of it.folder) false before after = rw (c.begin_naming.ensures.folder, c.begin_naming.ensures.world) at c.drop_last.ensures.within in
    none_named it.folder.path.now (complete_names it.files.items it.is_writing) (staged before it.files.items it.is_writing) c.in-Err.trouble before after (λ undone unlike. leaves_quiet (terms_of it.folder) before after quiet)

pub returns-clause-named : goal.returns-clause-named
returns-clause-named g c =
    let it = c.args.self.now in
    let files = it.files.items in
    let before = g.W.World.trace it.world.now in
    let drops = c.drop_last.new.self in
    let left = drops.files.items in
    let middle = g.W.World.trace drops.world.now in
    let after = g.W.World.trace c.name_complete-2.new.self.world.now in
    let writing : it.is_writing ≡ true = search rules in
    let begun : c.begin_naming.new.self.is_writing ≡ true = c.begin_naming.ensures.writing ∙ writing in
    let names : complete_names left drops.is_writing ≡ complete_names files true = rw (c.begin_naming.ensures.files) at c.drop_last.ensures.complete begun in
    let held : staged middle left drops.is_writing ≡ staged before files true = rw (c.begin_naming.ensures.files, c.begin_naming.ensures.world) at c.drop_last.ensures.staged begun in
    let quiet : Obeys (terms_of it.folder) false before middle = rw (c.begin_naming.ensures.folder, c.begin_naming.ensures.world) at c.drop_last.ensures.within in
    named_later (terms_of it.folder) (names_of left) (complete_names files it.is_writing) (held_new middle left) (staged before files it.is_writing) (trouble_in c.name_complete-2.result) before middle after
    (sym (ap (complete_names left) c.drop_last.ensures.writing) ∙ names ∙ sym (ap (complete_names files) writing))
    (sym (ap (staged middle left) c.drop_last.ensures.writing) ∙ held ∙ sym (ap (staged before files) writing)) quiet
    (rw (c.drop_last.ensures.folder, c.begin_naming.ensures.folder) at c.name_complete-2.ensures.named)
