use Rattle.std.proofs.Common.{None}
use Rattle.uimg_world.proofs.MadeLaws.{made_but}
use Rattle.uimg_world.proofs.new_files.NewFiles.forget.Goals as goal

pub returns : goal.returns
returns c = made_but c.args.self.now.made c.remove.new.self c.args.path.now None c.remove.ensures.updates
