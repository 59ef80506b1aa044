use Rattle.std.proofs.Common.{rules, refl, ◌≡◌, ◌∙◌, ◌||◌, ℕ, List, [], length, is_none, ap, subst, sym}
use Rattle.std.specs.List.{list_all}
use Rattle.std.specs.Option.{option_map}
use Rattle.uimg_fit_checking.specs.Unpacking.{which}
use Rattle.uimg_unpacking.specs.declared.folder.Folder.{Folder}
use Rattle.uimg_unpacking.specs.{Ends.is_whole, Staged.{complete_names, names_of, staged}}
use Rattle.uimg_fit_checking.specs.Claiming.{claims_of}
use Rattle.uimg_unpacking.specs.Contents.{differ, held_in}
use Rattle.uimg_unpacking.specs.FileNames.{is_among, is_file_name}
use Rattle.uimg_unpacking.specs.Filling.{names_of_kept}
use Rattle.uimg_unpacking.specs.Leaving.{Leaves}
use Rattle.uimg_unpacking.specs.Given.{noted_takes, takes_given}
use Rattle.uimg_unpacking.specs.Limiting.{claims_by}
use Rattle.uimg_unpacking.proofs.FillingLaws.{fills}
use Rattle.uimg_unpacking.proofs.GivenLaws.{as_many}
use Rattle.uimg_unpacking.proofs.StagedLaws.{complete_facts}
use Rattle.uimg_unpacking.proofs.LimitLaws.{all_claimed, fits_by, fits_for}
use Rattle.uimg_unpacking.proofs.EndLaws.{ends_by_file, left_as, left_by, whole_at}
use Rattle.uimg_unpacking.proofs.LeavingLaws.{leaves_same}
use Rattle.uimg_unpacking.proofs.Placing.{obeys_naming}
use Rattle.uimg_unpacking.proofs.unpacking.unpack_in.Goals as goal

pub returns-clause-obeys : goal.returns-clause-obeys
returns-clause-obeys g c = obeys_naming g.M.Task.terms c.gives_names-names.result g.M.Task.before (g.W.World.trace c.end-world.result.0.now) c.end-world.ensures.obeys

pub returns-clause-same : goal.returns-clause-same
returns-clause-same g c = c.unpack-unpacked.ensures.takes.uses.same

pub returns-clause-asked : goal.returns-clause-asked
returns-clause-asked g c = λ honest. c.unpack-unpacked.ensures.takes.uses.asked honest

pub returns-clause-ended : goal.returns-clause-ended
returns-clause-ended g c = λ honest.
    ends_by_file c.args.asked.now (g.S.Source.device c.args.source.now).bytes (which c.in-Some.wanted) c.unpack-unpacked.result _ _ _ _ c.how_ended.result _ _
    (sym (ap (option_map which) c.in-Some.is) ∙ c.wanted_of.ensures) (ap (λ (ns : List (List ℕ)). length ns) c.new-taker.ensures.none) c.end-world.ensures.count (c.unpack-unpacked.ensures.ended honest) c.how_ended.ensures

pub returns-clause-fits : goal.returns-clause-fits
returns-clause-fits g c = λ honest good.
    let asked = c.args.asked.now in
    let file = (g.S.Source.device c.args.source.now).bytes in
    let taker = c.unpack-unpacked.new.taker in
    let only = which c.in-Some.wanted in
    let claims = claims_by taker.claims.noted.names in
    let whole = whole_at asked c.unpack-unpacked.result _ _ c.how_ended.result _ _ c.how_ended.ensures good in
    let all : claims ≡ claims_of only file = all_claimed c.unpack-unpacked.result (claims_of only file) (claims_by c.new-taker.result.claims.noted.names) claims whole.0 c.new-taker.ensures.claims (c.unpack-unpacked.ensures.claimed honest refl) in
    fits_for asked only file claims (sym (ap (option_map which) c.in-Some.is) ∙ c.wanted_of.ensures) all
    (fits_by asked.limits taker.claims.limits g.M.Task.limits claims c.requires.limits taker.limits (taker.fits (c.end-world.ensures.none (ap is_none whole.1))))

pub returns-clause-filled : goal.returns-clause-filled
returns-clause-filled g c = λ honest knows.
    let taker = c.unpack-unpacked.new.taker in
    let staging = taker.staging in
    let before = g.W.World.trace staging.world.now in
    let noted = noted_takes taker.given.names in
    let contents = staged before staging.files.items staging.is_writing in
    fills c.args.asked.now (g.S.Source.device c.args.source.now).bytes (which c.in-Some.wanted) c.unpack-unpacked.result _ _ c.how_ended.result _ _
    staging.folder.path.now noted contents _ _ (g.W.World.trace c.end-world.result.0.now)
    (sym (ap (option_map which) c.in-Some.is) ∙ c.wanted_of.ensures)
    (ap (λ (ns : List (List ℕ)). takes_given ns (staged (g.W.World.trace c.new-taker.result.staging.world.now) c.new-taker.result.staging.files.items c.new-taker.result.staging.is_writing)) c.new-taker.ensures.empty)
    (c.unpack-unpacked.ensures.place ∙ ap (λ (f : Folder). f.path.now) c.new-taker.ensures.folder)
    (c.unpack-unpacked.ensures.told honest knows) refl (as_many before staging.files.items staging.is_writing noted taker.whole) c.how_ended.ensures
    (λ names none.
    let no = c.end-world.ensures.none (ap is_none none) in
    let kept = complete_names staging.files.items staging.is_writing in
    let named : kept ≡ names_of_kept [] noted = (taker.named no).whole in
    let facts = complete_facts staging.folder.path.now staging.files.items staging.is_writing (names_of staging.outdated.items) (is_among taker.taken.named.names) staging.files_inside (taker.apart no) in
    record {
      are_names = ap (list_all is_file_name) (sym named) ∙ facts.0;
      apart = ap differ (sym named) ∙ facts.1;
      hold = ap (held_in staging.folder.path.now (g.W.World.trace c.end-world.result.0.now)) (sym named) ∙ c.end-world.ensures.holds (search (rules, names)) none;
    })

pub returns-in_default-clause-back : goal.returns-in_default-clause-back
returns-in_default-clause-back g c = λ good left. leaves_same c.args.asked.now.folder.path.now g.M.Task.before (g.W.World.trace c.args.world.now) c.requires.before

pub returns-clause-back : goal.returns-clause-back
returns-clause-back g c = λ good left.
    let asked = c.args.asked.now in
    let staging = c.unpack-unpacked.new.taker.staging in
    let place : staging.folder.path.now ≡ asked.folder.path.now = c.unpack-unpacked.ensures.place ∙ ap (λ (f : Folder). f.path.now) c.new-taker.ensures.folder in
    let names : c.gives_names-names.result ≡ (asked.keeps_good || is_whole c.unpack-unpacked.result) = search rules in
    subst (λ (folder : List ℕ). Leaves folder g.M.Task.before (g.W.World.trace c.end-world.result.0.now)) place
    (left_as staging.folder.path.now g.M.Task.before (g.W.World.trace c.end-world.result.0.now) (asked.keeps_good || is_whole c.unpack-unpacked.result) c.gives_names-names.result _ _ names
    (left_by asked c.unpack-unpacked.result _ _ c.how_ended.result _ _ c.how_ended.ensures good left)
    c.end-world.ensures.unnamed (λ undone. c.end-world.ensures.back good undone) (λ zero none. c.end-world.ensures.empty good zero none))
