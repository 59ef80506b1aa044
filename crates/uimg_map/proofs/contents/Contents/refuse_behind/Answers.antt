use Rattle.std.proofs.{Common.{◌≡◌, true, nat_lt}, lemmas.Bool.lt-ltb}
use Rattle.uimg_map.specs.Found.{refused_behind}
use Rattle.uimg_map.proofs.contents.Contents.refuse_behind.Goals as goal

pub returns-then-end-self : goal.returns-then-end-self
unfolding refused_behind
returns-then-end-self c file =
    let behind : nat_lt c.args.self.now.size c.args.end ≡ true = lt-ltb c.args.self.now.size c.args.end c.if-end-self.true in
    rw behind (c.refuse.ensures file)
