use Rattle.std.proofs.Common.{◌∙◌, ap, string_bytes}
use Rattle.uimg_world.specs.Deeds.{answer_of}
use Rattle.uimg_unpacking.specs.Places.{is_temporary_folder, terms_of}
use Rattle.uimg_unpacking.proofs.LeavingLaws.{fresh}
use Rattle.uimg_unpacking.proofs.Placing.{made_in, made_within, ◌◁◌}
use Rattle.uimg_unpacking.proofs.folder.Folder.new_folder.Goals as goal

pub returns-in-Ok-clause-made : goal.returns-in-Ok-clause-made
returns-in-Ok-clause-made g c =
    ap (is_temporary_folder c.args.self.now.path.now) c.in_ok-path.ensures ∙ made_in c.args.self.now.path.now c.loop-number.number

pub returns-in-Ok-clause-within : goal.returns-in-Ok-clause-within
returns-in-Ok-clause-within g c = λ is_naming.
    made_within (terms_of c.args.self.now) c.as_str.result.now c.loop-number.number (answer_of c.create_dir.result) (g.W.World.trace c.loop-number.world) (g.W.World.trace c.create_dir.new.self) (c.as_str.ensures.value ∙ c.in_ok-path.ensures) c.create_dir.ensures is_naming
    ◁ c.loop-number.invariant is_naming

pub returns-in-Err-2-clause-within : goal.returns-in-Err-2-clause-within
returns-in-Err-2-clause-within g c = λ is_naming.
    made_within (terms_of c.args.self.now) c.as_str.result.now c.loop-number.number (answer_of c.create_dir.result) (g.W.World.trace c.loop-number.world) (g.W.World.trace c.create_dir.new.self) (c.as_str.ensures.value ∙ c.in_ok-path.ensures) c.create_dir.ensures is_naming
    ◁ c.loop-number.invariant is_naming

pub loop-number-preserved : goal.loop-number-preserved
loop-number-preserved g c = λ is_naming.
    made_within (terms_of c.args.self.now) c.as_str.result.now c.loop-number.number (answer_of c.create_dir.result) (g.W.World.trace c.loop-number.world) (g.W.World.trace c.create_dir.new.self) (c.as_str.ensures.value ∙ c.in_ok-path.ensures) c.create_dir.ensures is_naming
    ◁ c.loop-number.invariant is_naming

pub returns-in-Ok-clause-none : goal.returns-in-Ok-clause-none
returns-in-Ok-clause-none g c =
    fresh (string_bytes c.in_ok-path.path) (g.W.World.trace c.loop-number.world) (g.W.World.trace c.create_dir.new.self) (rw (c.in-Ok.is, c.as_str.ensures.value) at c.create_dir.ensures)
