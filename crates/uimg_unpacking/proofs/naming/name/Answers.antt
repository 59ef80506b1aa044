use Rattle.std.proofs.Common.{subst, sym, is_ok, Bool, true, false, true≢false, None, string_bytes}
use Rattle.uimg_unpacking.specs.Allowing.{Allows}
use Rattle.uimg_world.specs.Deeds.{answer_of}
use Rattle.uimg_unpacking.specs.Naming.{GivesName, Moves, NamesIt}
use Rattle.uimg_unpacking.specs.Places.{terms_of}
use Rattle.uimg_unpacking.proofs.Answered.{done-ok}
use Rattle.uimg_unpacking.proofs.LeavingLaws.{allowed, allows_same, apart, gives_moves, names_fresh, names_later, names_refused}
use Rattle.uimg_unpacking.proofs.Placing.{begun_new, begun_whole, gives_within, ◌◁◌}
use Rattle.uimg_unpacking.proofs.naming.name.Goals as goal

pub returns-in-Err-clause-told : goal.returns-in-Err-clause-told
returns-in-Err-clause-told g c =
    let folder = c.args.folder.now in
    names_refused c.args.its.now (terms_of folder) (g.W.World.trace c.args.world.now) (g.W.World.trace c.allows.new.world) (c.allows.ensures.within (terms_of folder) true) (allows_same _ _ _ _ _ _ c.allows.ensures.told)

pub returns-in-Err-clause-within : goal.returns-in-Err-clause-within
returns-in-Err-clause-within g c = c.allows.ensures.within (terms_of c.args.folder.now) true

pub returns-then-folder-clause-told : goal.returns-then-folder-clause-told
returns-then-folder-clause-told g c =
    let folder = c.args.folder.now in
    let its = c.args.its.now in
    let seen = g.W.World.trace c.allows.new.world in
    let after = g.W.World.trace c.name_over-named.new.world in
    subst (λ (b : Bool). NamesIt its b (g.W.World.trace c.args.world.now) after) (sym c.created.ensures)
    (names_later its (is_ok c.name_over-named.result) (terms_of folder) (g.W.World.trace c.args.world.now) seen after (c.allows.ensures.within (terms_of folder) true) (allows_same _ _ _ _ _ _ c.allows.ensures.told) (c.name_over-named.ensures.told (terms_of folder) c.requires))

pub returns-then-folder-clause-within : goal.returns-then-folder-clause-within
returns-then-folder-clause-within g c =
    let terms = terms_of c.args.folder.now in
    c.name_over-named.ensures.within terms c.requires c.if-folder.true ◁ c.allows.ensures.within terms true

pub returns-clause-told : goal.returns-clause-told
returns-clause-told g c =
    let folder = c.args.folder.now in
    let its = c.args.its.now in
    let new = string_bytes its.new in
    let whole = string_bytes its.whole in
    let before = g.W.World.trace c.args.world.now in
    let seen = g.W.World.trace c.allows.new.world in
    let after = g.W.World.trace c.name_file-named.new.world in
    let differ = apart folder.path.now its c.requires in
    let looks : Allows folder.image false whole None before seen = rw (c.in-Ok.is, c.if-folder.false, c.in_ok-whole.ensures.ok, c.as_str.ensures.value) at c.allows.ensures.told in
    let gives : GivesName new whole false (answer_of c.name_file-named.result) seen after = rw (c.as_str-2.ensures.value, c.as_str-3.ensures.value) at c.name_file-named.ensures in
    subst (λ (b : Bool). NamesIt its b before after) (sym c.created-2.ensures)
    (names_fresh its (is_ok c.name_file-named.result) before seen after differ (allowed folder.image whole before seen looks)
    (subst (λ (b : Bool). Moves new whole b seen after) (sym (done-ok c.name_file-named.result)) (gives_moves new whole false (answer_of c.name_file-named.result) seen after gives differ.new_whole)))

pub returns-clause-within : goal.returns-clause-within
returns-clause-within g c =
    let terms = terms_of c.args.folder.now in
    let its = c.args.its.now in
    let seen = g.W.World.trace c.allows.new.world in
    let after = g.W.World.trace c.name_file-named.new.world in
    let gives : GivesName (string_bytes its.new) (string_bytes its.whole) false (answer_of c.name_file-named.result) seen after = rw (c.as_str-2.ensures.value, c.as_str-3.ensures.value) at c.name_file-named.ensures in
    gives_within terms (string_bytes its.new) (string_bytes its.whole) false (answer_of c.name_file-named.result) seen after gives (begun_new terms.0 its c.requires) (begun_whole terms.0 its c.requires) (λ is. absurd (true≢false (sym is)))
    ◁ c.allows.ensures.within terms true
