use Rattle.std.proofs.Common.{◌∙◌, ap, false}
use Rattle.uimg_unpacking.specs.Places.{is_temporary_folder}
use Rattle.uimg_unpacking.proofs.PartChanges.{changed_more}
use Rattle.uimg_unpacking.proofs.Placing.{made_in}
use Rattle.uimg_unpacking.proofs.folder.Folder.clean_in.Goals as goal

pub returns-in_err-clean_at : goal.returns-in_err-clean_at
returns-in_err-clean_at g c =
    let folder = c.args.self.now.path.now in
    changed_more folder false (g.W.World.trace c.args.world.now) (g.W.World.trace c.loop-number.world) (g.W.World.trace c.clean_at.new.world) (c.clean_at.ensures folder (ap (is_temporary_folder folder) c.in_ok-path.ensures ∙ made_in folder _)) c.loop-number.invariant

pub returns-in_err-writeln : goal.returns-in_err-writeln
returns-in_err-writeln g c =
    let folder = c.args.self.now.path.now in
    changed_more folder false (g.W.World.trace c.args.world.now) (g.W.World.trace c.loop-number.world) (g.W.World.trace c.clean_at.new.world) (c.clean_at.ensures folder (ap (is_temporary_folder folder) c.in_ok-path.ensures ∙ made_in folder _)) c.loop-number.invariant

pub returns-in_err-flush : goal.returns-in_err-flush
returns-in_err-flush g c =
    let folder = c.args.self.now.path.now in
    changed_more folder false (g.W.World.trace c.args.world.now) (g.W.World.trace c.loop-number.world) (g.W.World.trace c.clean_at.new.world) (c.clean_at.ensures folder (ap (is_temporary_folder folder) c.in_ok-path.ensures ∙ made_in folder _)) c.loop-number.invariant

pub loop-number-preserved : goal.loop-number-preserved
loop-number-preserved g c =
    let folder = c.args.self.now.path.now in
    changed_more folder false (g.W.World.trace c.args.world.now) (g.W.World.trace c.loop-number.world) (g.W.World.trace c.clean_at.new.world) (c.clean_at.ensures folder (ap (is_temporary_folder folder) c.in_ok-path.ensures ∙ made_in folder _)) c.loop-number.invariant
