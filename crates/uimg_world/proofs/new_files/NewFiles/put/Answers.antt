use Rattle.std.proofs.Common.{string_bytes}
use Rattle.uimg_world.proofs.MadeLaws.{made_put}
use Rattle.uimg_world.proofs.new_files.NewFiles.put.Goals as goal

pub returns : goal.returns
returns c = record {
  done =
      made_put c.args.self.now.made c.insert.new.self (string_bytes c.in_ok-path.path) c.args.path.now c.in_ok-found.found _
      c.in_ok-path.ensures.ok c.in_ok-found.ensures c.in_ok-insert.ensures.updates;
}
