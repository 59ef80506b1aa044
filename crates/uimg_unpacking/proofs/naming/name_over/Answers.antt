use Rattle.std.proofs.Common.{rules, ◌≡◌, ◌∷◌, subst, sym, is_ok, Bool, true, false, string_bytes}
use Rattle.uimg_world.specs.Deeds.{Looks, answer_of}
use Rattle.uimg_world.specs.Kinds.{is_something}
use Rattle.uimg_unpacking.specs.Naming.{GivesName, Moves}
use Rattle.uimg_unpacking.proofs.Answered.{done-ok}
use Rattle.uimg_unpacking.proofs.LeavingLaws.{Saw, apart, gives_moves, names_fresh, names_over, names_unkept, saw}
use Rattle.uimg_unpacking.proofs.Placing.{begun_new, begun_old, begun_whole, gives_within, looks_within, ◌◁◌}
use Rattle.uimg_unpacking.proofs.naming.name_over.Goals as goal

pub returns-then-not-is_something-clause-told : goal.returns-then-not-is_something-clause-told
returns-then-not-is_something-clause-told g c = λ terms begun.
    let its = c.args.its.now in
    let new = string_bytes its.new in
    let whole = string_bytes its.whole in
    let before = g.W.World.trace c.args.world.now in
    let seen = g.W.World.trace c.kind_at.new.self in
    let after = g.W.World.trace c.name_file.new.world in
    let differ = apart terms.0 its begun in
    let looks : seen ≡ Looks whole c.kind_at.result ∷ before = rw (c.as_str-whole.ensures.value) at c.kind_at.ensures.noted in
    let free : is_something c.kind_at.result ≡ false = search rules in
    let gives : GivesName new whole false (answer_of c.name_file.result) seen after = rw (c.as_str-new.ensures.value, c.as_str-whole.ensures.value) at c.name_file.ensures in
    names_fresh its (is_ok c.name_file.result) before seen after differ
    (subst (λ (b : Bool). Saw whole b before seen) free (saw whole c.kind_at.result before seen looks))
    (subst (λ (b : Bool). Moves new whole b seen after) (sym (done-ok c.name_file.result)) (gives_moves new whole false (answer_of c.name_file.result) seen after gives differ.new_whole))

pub returns-in-Ok-clause-told : goal.returns-in-Ok-clause-told
returns-in-Ok-clause-told g c = λ terms begun.
    let its = c.args.its.now in
    let new = string_bytes its.new in
    let old = string_bytes its.old in
    let whole = string_bytes its.whole in
    let before = g.W.World.trace c.args.world.now in
    let seen = g.W.World.trace c.kind_at.new.self in
    let middle = g.W.World.trace c.keep_as.new.world in
    let after = g.W.World.trace c.name_file-in-Ok.new.world in
    let differ = apart terms.0 its begun in
    let looks : seen ≡ Looks whole c.kind_at.result ∷ before = rw (c.as_str-whole.ensures.value) at c.kind_at.ensures.noted in
    let there : is_something c.kind_at.result ≡ true = search rules in
    let keeps : Moves whole old true seen middle = rw (c.in-Ok.is, c.as_str-old.ensures.value, c.as_str-whole.ensures.value) at c.keep_as.ensures.moves in
    let gives : GivesName new whole true (answer_of c.name_file-in-Ok.result) middle after = rw (c.as_str-new.ensures.value, c.as_str-whole.ensures.value) at c.name_file-in-Ok.ensures in
    names_over its (is_ok c.name_file-in-Ok.result) before seen middle after differ
    (subst (λ (b : Bool). Saw whole b before seen) there (saw whole c.kind_at.result before seen looks)) keeps
    (subst (λ (b : Bool). Moves new whole b middle after) (sym (done-ok c.name_file-in-Ok.result)) (gives_moves new whole true (answer_of c.name_file-in-Ok.result) middle after gives differ.new_whole))

pub returns-in-Err-clause-told : goal.returns-in-Err-clause-told
returns-in-Err-clause-told g c = λ terms begun.
    let its = c.args.its.now in
    let old = string_bytes its.old in
    let whole = string_bytes its.whole in
    let before = g.W.World.trace c.args.world.now in
    let seen = g.W.World.trace c.kind_at.new.self in
    let after = g.W.World.trace c.keep_as.new.world in
    let looks : seen ≡ Looks whole c.kind_at.result ∷ before = rw (c.as_str-whole.ensures.value) at c.kind_at.ensures.noted in
    let keeps : Moves whole old false seen after = rw (c.in-Err.is, c.as_str-old.ensures.value, c.as_str-whole.ensures.value) at c.keep_as.ensures.moves in
    names_unkept its before seen after whole old (saw whole c.kind_at.result before seen looks) keeps

pub returns-then-not-is_something-clause-within : goal.returns-then-not-is_something-clause-within
returns-then-not-is_something-clause-within g c = λ terms begun forced.
    let its = c.args.its.now in
    let seen = g.W.World.trace c.kind_at.new.self in
    let after = g.W.World.trace c.name_file.new.world in
    let gives : GivesName (string_bytes its.new) (string_bytes its.whole) false (answer_of c.name_file.result) seen after = rw (c.as_str-new.ensures.value, c.as_str-whole.ensures.value) at c.name_file.ensures in
    gives_within terms (string_bytes its.new) (string_bytes its.whole) false (answer_of c.name_file.result) seen after gives (begun_new terms.0 its begun) (begun_whole terms.0 its begun) (λ is. forced)
    ◁ looks_within terms true c.as_str-whole.result.now c.kind_at.result (g.W.World.trace c.args.world.now) seen c.kind_at.ensures.noted

pub returns-in-Ok-clause-within : goal.returns-in-Ok-clause-within
returns-in-Ok-clause-within g c = λ terms begun forced.
    let its = c.args.its.now in
    let middle = g.W.World.trace c.keep_as.new.world in
    let after = g.W.World.trace c.name_file-in-Ok.new.world in
    let gives : GivesName (string_bytes its.new) (string_bytes its.whole) true (answer_of c.name_file-in-Ok.result) middle after = rw (c.as_str-new.ensures.value, c.as_str-whole.ensures.value) at c.name_file-in-Ok.ensures in
    gives_within terms (string_bytes its.new) (string_bytes its.whole) true (answer_of c.name_file-in-Ok.result) middle after gives (begun_new terms.0 its begun) (begun_whole terms.0 its begun) (λ is. forced)
    ◁ (rw (c.as_str-old.ensures.value, c.as_str-whole.ensures.value) at c.keep_as.ensures.within) terms forced (begun_whole terms.0 its begun) (begun_old terms.0 its begun)
    ◁ looks_within terms true c.as_str-whole.result.now c.kind_at.result (g.W.World.trace c.args.world.now) (g.W.World.trace c.kind_at.new.self) c.kind_at.ensures.noted

pub returns-in-Err-clause-within : goal.returns-in-Err-clause-within
returns-in-Err-clause-within g c = λ terms begun forced.
    let its = c.args.its.now in
    (rw (c.as_str-old.ensures.value, c.as_str-whole.ensures.value) at c.keep_as.ensures.within) terms forced (begun_whole terms.0 its begun) (begun_old terms.0 its begun)
    ◁ looks_within terms true c.as_str-whole.result.now c.kind_at.result (g.W.World.trace c.args.world.now) (g.W.World.trace c.kind_at.new.self) c.kind_at.ensures.noted
