use Rattle.std.proofs.Common.{List, ℕ, subst, length-take, rules, arith}
use Rattle.uimg_blob_reading.specs.{Tokens.begins, ReadTokens.IsReadAs}
use Rattle.uimg_blob_reading.proofs.tokens.read_begin_node.Goals as goal

pub returns : goal.returns
returns g c = record {
  uses = search rules;
  room = search rules;
  read = λ honest. subst (λ (near : List ℕ). IsReadAs c.args.at (begins c.args.at near) c.begin_node_in.result) (c.in_ok-length.ensures.near.told honest) (c.begin_node_in.ensures.read c.args.at);
  sound = search rules;
  stands = c.begin_node_in.ensures.stands c.args.at c.args.end (simp length-take (omega (arith, c.in_ok-length.ensures.bound)));
}
