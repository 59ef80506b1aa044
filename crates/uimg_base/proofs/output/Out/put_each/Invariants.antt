use Rattle.std.{proofs.Common.{◌≡◌, take}, specs.List.flat_map}
use Rattle.uimg_base.specs.Sink.{AppendsAll}
use Rattle.uimg_base.proofs.output.Out.put_each.Given as goal

-- the pieces so far were written
abbrev pub invariant-loop-piece : goal.invariant-loop-piece
invariant-loop-piece g l = record {
  written : AppendsAll l.fn.self l.self (flat_map (λ piece. piece.now) (take l.piece-index l.pieces));
  faults : l.self.faults ≡ l.fn.self.faults;
}
