use Rattle.std.proofs.Common.{rules, arith}
use Rattle.uimg_base.proofs.SinkLaws.{prefix_at}
use Rattle.uimg_base.proofs.output.Out.put_each.Goals as goal

pub returns-in_err-put_all-clause-writes : goal.returns-in_err-put_all-clause-writes
returns-in_err-put_all-clause-writes g c =
    let prefix = prefix_at c.args.self.now c.loop-piece.self c.put_all.new.self (λ piece. piece.now) c.args.pieces.now c.loop-piece.piece-index _ (omega arith) c.loop-piece.invariant.written c.in_err-put_all.ensures.writes.prefix in
    record {
      all = search rules;
      prefix = prefix;
      faults = search rules;
    }
