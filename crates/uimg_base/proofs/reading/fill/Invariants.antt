use Rattle.std.proofs.Common.{◌≤◌, length}
use Rattle.uimg_base.specs.Streams.{ReadsOn}
use Rattle.uimg_base.proofs.reading.fill.Given as goal

-- the bytes below `filled` were read
abbrev pub invariant-loop-turn : goal.invariant-loop-turn
invariant-loop-turn g l = record {
  bound : l.filled ≤ length l.to;
  reads : ReadsOn l.filled (g.F.SeekRead.stream l.fn.file) (g.F.SeekRead.stream l.file) l.to;
}
