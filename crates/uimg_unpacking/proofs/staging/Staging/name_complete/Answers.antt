use Rattle.std.proofs.Common.{◌≡◌, rules, refl, ◌∙◌, sym, false, length, true, true≢false, is_some, not, string_bytes}
use Rattle.std.specs.Option.{option_map}
use Rattle.uimg_unpacking.specs.Leaving.{is_undone}
use Rattle.uimg_unpacking.specs.Naming.{NamesFiles, PutsBackFiles}
use Rattle.uimg_unpacking.specs.Places.{Obeys, terms_of}
use Rattle.uimg_unpacking.specs.Staged.{held_new, names_of}
use Rattle.uimg_unpacking.proofs.LeavingLaws.{none_named, others_quiet}
use Rattle.uimg_unpacking.proofs.RecoverLaws.{named_others}
use Rattle.uimg_unpacking.proofs.Placing.{naming_more, obeys_naming}
use Rattle.uimg_unpacking.proofs.StagedLaws.{all_hold, all_taken_back}
use Rattle.uimg_unpacking.proofs.staging.Staging.name_complete.Goals as goal

-- they are taken back where one gets no name
pub returns-in_default-Some-clause-named : goal.returns-in_default-Some-clause-named
returns-in_default-Some-clause-named g c =
    let it = c.args.self.now in
    let files = it.files.items in
    let before = g.W.World.trace it.world.now in
    let middle = g.W.World.trace c.name_each.new.self.world.now in
    let after = g.W.World.trace c.taken_back.new.self.world.now in
    let number = c.name_each.result.0 in
    let puts : is_undone c.taken_back.result ≡ true → PutsBackFiles files number true middle after = rw (c.name_each.ensures.files) at c.taken_back.ensures.told in
    none_named it.folder.path.now (names_of files) (held_new before files) c.taken_back.result before after
    (λ undone unlike. all_taken_back it.folder.path.now (option_map string_bytes it.made) files number (not (is_some c.name_each.result.1)) before middle middle after it.files_inside it.numbered unlike c.requires.none c.name_each.ensures.told (λ start. refl) (λ start told. told) (puts undone))

-- or where the names cannot be waited for
pub returns-in-Err-clause-named : goal.returns-in-Err-clause-named
returns-in-Err-clause-named g c =
    let it = c.args.self.now in
    let files = it.files.items in
    let before = g.W.World.trace it.world.now in
    let middle = g.W.World.trace c.name_each.new.self.world.now in
    let synced = g.W.World.trace c.sync.new.self.world.now in
    let after = g.W.World.trace c.taken_back-in-Err.new.self.world.now in
    let puts : is_undone c.taken_back-in-Err.result ≡ true → PutsBackFiles files c.len-all.result true synced after = rw (c.sync.ensures.files, c.name_each.ensures.files) at c.taken_back-in-Err.ensures.told in
    let names : NamesFiles files c.len-all.result (not (is_some c.name_each.result.1)) before middle = search rules in
    none_named it.folder.path.now (names_of files) (held_new before files) c.taken_back-in-Err.result before after
    (λ undone unlike. all_taken_back it.folder.path.now (option_map string_bytes it.made) files c.len-all.result (not (is_some c.name_each.result.1)) before middle synced after it.files_inside it.numbered unlike c.requires.none names c.sync.ensures.same c.sync.ensures.earlier (puts undone))

pub returns-clause-named : goal.returns-clause-named
returns-clause-named g c =
    let it = c.args.self.now in
    let files = it.files.items in
    let before = g.W.World.trace it.world.now in
    let middle = g.W.World.trace c.name_each.new.self.world.now in
    let synced = g.W.World.trace c.sync.new.self.world.now in
    let after = g.W.World.trace c.forget_old.new.world in
    let names : NamesFiles files (length files) true before middle = search rules in
    let quiet : Obeys (terms_of it.folder) false synced after = rw (c.sync.ensures.folder, c.name_each.ensures.folder) at c.forget_old.ensures.within in
    record {
      holds = λ done unlike. all_hold (terms_of it.folder) (option_map string_bytes it.made) files before middle synced after it.files_inside it.numbered unlike names c.sync.ensures.same quiet;
      others = λ done. others_quiet (terms_of it.folder) (names_of files) before middle synced after (named_others it.folder.path.now files (length files) true before middle it.files_inside names) c.sync.ensures.same quiet;
      back = λ undone. absurd (true≢false (sym undone));
    }

pub invariant_of-self-2 : goal.invariant_of-self-2
invariant_of-self-2 g c =
    let it = c.sync.new.self in
    let naming : it.is_naming ≡ true = c.sync.ensures.naming ∙ c.name_each.ensures.naming ∙ c.requires.naming in
    record {
      made_inside = it.made_inside;
      files_inside = it.files_inside;
      created_inside = it.created_inside;
      outdated_inside = it.outdated_inside;
      named = it.named;
      agreed = it.agreed;
      obeys = naming_more (terms_of it.folder) it.is_naming g.M.Task.before (g.W.World.trace it.world.now) (g.W.World.trace c.forget_old.new.world) naming (obeys_naming (terms_of it.folder) false (g.W.World.trace it.world.now) (g.W.World.trace c.forget_old.new.world) c.forget_old.ensures.within) it.obeys;
      numbered = it.numbered;
      none = λ is. absurd (true≢false (sym naming ∙ is));
    }
