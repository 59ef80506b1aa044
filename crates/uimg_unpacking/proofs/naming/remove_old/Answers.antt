use Rattle.std.proofs.Common.{string_bytes, true}
use Rattle.uimg_world.specs.Deeds.{answer_of}
use Rattle.uimg_unpacking.specs.Places.{terms_of}
use Rattle.uimg_unpacking.proofs.Placing.{begun_whole, looks_within, unnames_within, ◌◁◌}
use Rattle.uimg_unpacking.proofs.naming.remove_old.Goals as goal

pub returns-in_default-clause-within : goal.returns-in_default-clause-within
returns-in_default-clause-within g c =
    let terms = terms_of c.args.folder.now in
    let its = c.args.its.now in
    unnames_within terms (string_bytes its.whole) (answer_of c.remove_file.result) (g.W.World.trace c.kind_at.new.self) (g.W.World.trace c.remove_file.new.self) (rw (c.as_str-2.ensures.value) at c.remove_file.ensures) (begun_whole terms.0 its c.requires)
    ◁ looks_within terms true c.as_str.result.now c.kind_at.result (g.W.World.trace c.args.world.now) (g.W.World.trace c.kind_at.new.self) c.kind_at.ensures.noted

pub returns-in_err-whole-clause-within : goal.returns-in_err-whole-clause-within
returns-in_err-whole-clause-within g c =
    let terms = terms_of c.args.folder.now in
    let its = c.args.its.now in
    unnames_within terms (string_bytes its.whole) (answer_of c.remove_file.result) (g.W.World.trace c.kind_at.new.self) (g.W.World.trace c.remove_file.new.self) (rw (c.as_str-2.ensures.value) at c.remove_file.ensures) (begun_whole terms.0 its c.requires)
    ◁ looks_within terms true c.as_str.result.now c.kind_at.result (g.W.World.trace c.args.world.now) (g.W.World.trace c.kind_at.new.self) c.kind_at.ensures.noted

pub returns-clause-within : goal.returns-clause-within
returns-clause-within g c =
    let terms = terms_of c.args.folder.now in
    let its = c.args.its.now in
    unnames_within terms (string_bytes its.whole) (answer_of c.remove_file.result) (g.W.World.trace c.kind_at.new.self) (g.W.World.trace c.remove_file.new.self) (rw (c.as_str-2.ensures.value) at c.remove_file.ensures) (begun_whole terms.0 its c.requires)
    ◁ looks_within terms true c.as_str.result.now c.kind_at.result (g.W.World.trace c.args.world.now) (g.W.World.trace c.kind_at.new.self) c.kind_at.ensures.noted
