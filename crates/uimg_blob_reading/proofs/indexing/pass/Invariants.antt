use Rattle.std.proofs.Common.{◌≡◌, ◌<◌, ◌≤◌, ◌+◌, ◌-◌, max, length}
use Rattle.uimg_base.specs.{Device.SameDevice, Held.held_bytes}
use Rattle.uimg_blob_reading.specs.{Extents.blocks_of, Tokens.tokens, Walk.begun, Passes.Pass}
use Rattle.uimg_blob_reading.proofs.indexing.pass.Given as goal

-- the pass is at the state
abbrev pub invariant-loop-next : goal.invariant-loop-next
invariant-loop-next g l =
    let device = g.S.Source.device in
    let b = blocks_of (device l.fn.source).bytes l.extent in
    record {
      same : SameDevice (device l.fn.source) (device l.source);
      failures : (device l.source).failures ≡ (device l.fn.source).failures;
      refused : l.room.refused ≡ l.fn.room.refused;
      peak : l.room.peak ≤ max l.fn.room.peak (held_bytes (length l.room.entries));
      near : l.state.at < l.extent.structure_end + 4;
      pass : Pass (device l.fn.source).honest b (begun (tokens b)) l.state l.room.entries (device l.fn.source).asked (device l.source).asked;
    }

abbrev pub decreases-loop-next : goal.decreases-loop-next
decreases-loop-next g l = l.extent.structure_end + 4 - l.state.at
