use Rattle.std.proofs.Common.{rules, ◌≡◌, ◌∙◌, ◌||◌, ap, sym, subst, Bool, true, false, is_none, length}
use Rattle.uimg_unpacking.specs.FileNames.{is_among}
use Rattle.uimg_unpacking.specs.Leaving.{are_undone}
use Rattle.uimg_unpacking.specs.Places.{Obeys, Terms, terms_of}
use Rattle.uimg_unpacking.specs.Staged.{complete_names, names_of}
use Rattle.uimg_unpacking.specs.Telling.{is_named, naming_trouble}
use Rattle.uimg_unpacking.specs.Troubles.{trouble_in}
use Rattle.uimg_unpacking.proofs.EndLaws.{by_naming, may_name, obeys_if}
use Rattle.uimg_unpacking.proofs.LeavingLaws.{leaves_through, leaves_same, others_none}
use Rattle.uimg_unpacking.proofs.StagedLaws.{complete_facts, hold_cleared, no_names}
use Rattle.uimg_unpacking.proofs.folder_taker.FolderTaker.end.Goals as goal

pub returns-clause-obeys : goal.returns-clause-obeys
returns-clause-obeys g c =
    let after = g.W.World.trace c.end-world.result.0.now in
    obeys_if g.M.Task.terms c.args.names (c.args.keeps_good || is_none c.or-trouble.result) c.may_name-names.result g.M.Task.before after c.may_name-names.ensures
    (subst (λ (b : Bool). Obeys g.M.Task.terms b g.M.Task.before after) c.name-named.ensures.naming c.end-world.ensures.obeys)

pub returns-clause-holds : goal.returns-clause-holds
returns-clause-holds g c = λ names none.
    let taker = c.args.self in
    let it = taker.staging in
    let now = c.name-named.new.staging in
    let t = g.W.World.trace now.world.now in
    let after = g.W.World.trace c.end-world.result.0.now in
    let named : is_named c.name-named.result ≡ true = search (rules, none) in
    let no : is_none taker.trouble ≡ true = search (rules, none) in
    let fine : is_none c.or-trouble.result ≡ true = search (rules, none) in
    let may : c.may_name-names.result ≡ true = c.may_name-names.ensures ∙ may_name c.args.names c.args.keeps_good c.or-trouble.result names fine in
    hold_cleared (terms_of it.folder) it.files.items it.is_writing t after it.files_inside (subst (λ (m : Terms). Obeys m false t after) (sym it.agreed) c.end-world.ensures.quiet)
    ∙ c.name-named.ensures.holds may named (is_among taker.taken.named.names) (taker.apart no)

pub returns-clause-unnamed : goal.returns-clause-unnamed
returns-clause-unnamed g c = λ off.
    let it = c.args.self.staging in
    let terms = terms_of it.folder in
    let first = g.W.World.trace it.world.now in
    let last = g.W.World.trace c.name-named.new.staging.world.now in
    let after = g.W.World.trace c.end-world.result.0.now in
    let no : c.may_name-names.result ≡ false = search (rules, off) in
    leaves_through terms g.M.Task.before first last after
    (subst (λ (b : Bool). Obeys terms b g.M.Task.before first) c.args.self.unnamed it.obeys)
    (leaves_same it.folder.path.now first last (c.name-named.ensures.unnamed no))
    (subst (λ (m : Terms). Obeys m false last after) (sym it.agreed) c.end-world.ensures.quiet)

pub returns-clause-back : goal.returns-clause-back
returns-clause-back g c = λ good unnamed.
    let undone : are_undone c.or.result ≡ true = sym c.end-world.ensures.undone ∙ unnamed in
    let taker = c.args.self in
    let it = taker.staging in
    let terms = terms_of it.folder in
    let first = g.W.World.trace it.world.now in
    let last = g.W.World.trace c.name-named.new.staging.world.now in
    let after = g.W.World.trace c.end-world.result.0.now in
    leaves_through terms g.M.Task.before first last after
    (subst (λ (b : Bool). Obeys terms b g.M.Task.before first) taker.unnamed it.obeys)
    (by_naming it.folder.path.now first last c.args.names c.args.keeps_good c.may_name-names.result c.or-trouble.result c.may_name-names.ensures good
    (λ no. leaves_same it.folder.path.now first last (c.name-named.ensures.unnamed no))
    (λ fine.
    let told : c.or.result ≡ trouble_in c.tell-told.result = search (rules, fine) in
    let naming : naming_trouble c.name-named.result ≡ trouble_in c.tell-told.result = c.tell-told.ensures.undone (ap are_undone (sym told) ∙ undone) in
    let no : is_none taker.trouble ≡ true = search (rules, fine) in
    c.name-named.ensures.back good (ap are_undone (naming ∙ sym told) ∙ undone)
    (complete_facts it.folder.path.now it.files.items it.is_writing (names_of it.outdated.items) (is_among taker.taken.named.names) it.files_inside (taker.apart no)).1))
    (subst (λ (m : Terms). Obeys m false last after) (sym it.agreed) c.end-world.ensures.quiet)

pub returns-clause-empty : goal.returns-clause-empty
returns-clause-empty g c = λ good zero none.
    let taker = c.args.self in
    let it = taker.staging in
    let terms = terms_of it.folder in
    let first = g.W.World.trace it.world.now in
    let last = g.W.World.trace c.name-named.new.staging.world.now in
    let after = g.W.World.trace c.end-world.result.0.now in
    let named : is_named c.name-named.result ≡ true = search (rules, none) in
    let no : is_none taker.trouble ≡ true = search (rules, none) in
    let count : length taker.taken.named.names ≡ 0 = search (rules, zero) in
    leaves_through terms g.M.Task.before first last after
    (subst (λ (b : Bool). Obeys terms b g.M.Task.before first) taker.unnamed it.obeys)
    (others_none it.folder.path.now (complete_names it.files.items it.is_writing) first last
    (no_names taker.taken.named.names it.files.items it.is_writing (names_of it.outdated.items) count (taker.apart no))
    (c.name-named.ensures.others good named))
    (subst (λ (m : Terms). Obeys m false last after) (sym it.agreed) c.end-world.ensures.quiet)
