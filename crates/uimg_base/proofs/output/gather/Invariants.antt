use Rattle.std.{proofs.Common.{◌≡◌, ◌≤◌, take}, specs.List.flat_map}
use Rattle.uimg_base.proofs.output.gather.Given as goal

-- the pieces so far stand at the beginning
abbrev pub invariant-loop-piece : goal.invariant-loop-piece
invariant-loop-piece l = record {
  bound : l.length ≤ 256;
  text : take l.length l.line ≡ flat_map (λ piece. piece.now) (take l.piece-index l.pieces);
}
