use Rattle.std.proofs.Common.{rules, ◌≡◌, ◌∷◌, true, string_bytes}
use Rattle.uimg_world.specs.Deeds.{Looks, Removes, Renames, answer_of}
use Rattle.uimg_world.specs.declared.call.Answer.TheVariants.{Done}
use Rattle.uimg_unpacking.proofs.LeavingLaws.{apart, puts_back, puts_lost}
use Rattle.uimg_unpacking.proofs.Placing.{begun_kept, begun_old, begun_whole, looks_within, puts_within, removed_within, unnames_within, ◌◁◌}
use Rattle.uimg_unpacking.proofs.naming.put_back.Goals as goal

pub returns-in-Ok-clause-told : goal.returns-in-Ok-clause-told
returns-in-Ok-clause-told g c = λ terms begun.
    let its = c.args.its.now in
    let old = string_bytes its.old in
    let whole = string_bytes its.whole in
    let before = g.W.World.trace c.args.world.now in
    let looks : g.W.World.trace c.kind_at.new.self ≡ Looks old c.kind_at.result ∷ before = rw (c.as_str-old.ensures.value) at c.kind_at.ensures.noted in
    let moved : g.W.World.trace c.rename.new.self ≡ Renames old whole Done ∷ Looks old c.kind_at.result ∷ before = rw (c.in-Ok.is, looks, c.as_str-old.ensures.value, c.as_str-whole.ensures.value) at c.rename.ensures in
    let calls : g.W.World.trace c.remove_file-in-Ok.new.self ≡ Removes old (answer_of c.remove_file-in-Ok.result) ∷ Renames old whole Done ∷ Looks old c.kind_at.result ∷ before = rw (c.as_str-old.ensures.value, moved) at c.remove_file-in-Ok.ensures in
    puts_back its c.args.has_name c.kind_at.result (answer_of c.remove_file-in-Ok.result) before (g.W.World.trace c.remove_file-in-Ok.new.self) (apart terms.0 its begun) (search rules) calls

pub returns-in-Err-clause-told : goal.returns-in-Err-clause-told
returns-in-Err-clause-told g c = λ terms begun.
    let its = c.args.its.now in
    let old = string_bytes its.old in
    let whole = string_bytes its.whole in
    let before = g.W.World.trace c.args.world.now in
    let looks : g.W.World.trace c.kind_at.new.self ≡ Looks old c.kind_at.result ∷ before = rw (c.as_str-old.ensures.value) at c.kind_at.ensures.noted in
    puts_lost its c.args.has_name c.kind_at.result (answer_of c.rename.result) before (g.W.World.trace c.rename.new.self)
    (rw (looks, c.as_str-old.ensures.value, c.as_str-whole.ensures.value) at c.rename.ensures)

pub returns-in-Ok-clause-within : goal.returns-in-Ok-clause-within
returns-in-Ok-clause-within g c = λ terms begun.
    let its = c.args.its.now in
    let old = string_bytes its.old in
    let whole = string_bytes its.whole in
    removed_within terms true old (answer_of c.remove_file-in-Ok.result) (g.W.World.trace c.rename.new.self) (g.W.World.trace c.remove_file-in-Ok.new.self) (begun_old terms.0 its begun) (rw (c.as_str-old.ensures.value) at c.remove_file-in-Ok.ensures)
    ◁ puts_within terms old whole (answer_of c.rename.result) (g.W.World.trace c.kind_at.new.self) (g.W.World.trace c.rename.new.self) (rw (c.as_str-old.ensures.value, c.as_str-whole.ensures.value) at c.rename.ensures) (begun_whole terms.0 its begun) (begun_kept terms.0 its begun)
    ◁ looks_within terms true c.as_str-old.result.now c.kind_at.result (g.W.World.trace c.args.world.now) (g.W.World.trace c.kind_at.new.self) c.kind_at.ensures.noted

pub returns-in-Err-clause-within : goal.returns-in-Err-clause-within
returns-in-Err-clause-within g c = λ terms begun.
    let its = c.args.its.now in
    let old = string_bytes its.old in
    let whole = string_bytes its.whole in
    puts_within terms old whole (answer_of c.rename.result) (g.W.World.trace c.kind_at.new.self) (g.W.World.trace c.rename.new.self) (rw (c.as_str-old.ensures.value, c.as_str-whole.ensures.value) at c.rename.ensures) (begun_whole terms.0 its begun) (begun_kept terms.0 its begun)
    ◁ looks_within terms true c.as_str-old.result.now c.kind_at.result (g.W.World.trace c.args.world.now) (g.W.World.trace c.kind_at.new.self) c.kind_at.ensures.noted

pub returns-else-not-has_name-clause-within : goal.returns-else-not-has_name-clause-within
returns-else-not-has_name-clause-within g c = λ terms begun.
    let its = c.args.its.now in
    unnames_within terms (string_bytes its.whole) (answer_of c.remove_file.result) (g.W.World.trace c.kind_at.new.self) (g.W.World.trace c.remove_file.new.self) (rw (c.as_str-whole.ensures.value) at c.remove_file.ensures) (begun_whole terms.0 its begun)
    ◁ looks_within terms true c.as_str-old.result.now c.kind_at.result (g.W.World.trace c.args.world.now) (g.W.World.trace c.kind_at.new.self) c.kind_at.ensures.noted
