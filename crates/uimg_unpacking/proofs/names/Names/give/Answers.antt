use Rattle.std.proofs.Common.{rules}
use Rattle.uimg_unpacking.proofs.NameLaws.{has_more}
use Rattle.uimg_unpacking.proofs.names.Names.give.Goals as goal

pub invariant_of-self-2 : goal.invariant_of-self-2
invariant_of-self-2 c =
    let it = c.args.self.now in
    record {
      count = search rules;
      used = has_more it.given c.insert.new.self c.in_ok-small.small c.args.name.now it.named.names _ c.in_ok-small.ensures c.in_ok-insert.ensures.keys (search rules) it.used;
    }
