use Rattle.std.proofs.Common.{◌≡◌, ◌≤◌, ◌<◌, ◌+◌, ◌-◌, ◌*◌, ◌^◌, ℕ, List, [], length, IsTrue}
use Rattle.std.specs.List.{All}
use Rattle.uimg_base.specs.Device.{SameDevice}
use Rattle.uimg_blob_reading.specs.{Tokens.Property, Extents.blocks_of, Owns.LeftFrom}
use Rattle.uimg_blob_reading.specs.{Places.EndsBy, Properties.TookFrom}
use Rattle.uimg_blob_reading.proofs.properties.gather.Given as goal

-- the tokens before the place were taken
abbrev pub invariant-loop-places : goal.invariant-loop-places
invariant-loop-places g l =
    let device = g.S.Source.device in
    let b = blocks_of (device l.fn.source).bytes l.extent in
    record {
      same : SameDevice (device l.fn.source) (device l.source);
      failures : (device l.source).failures ≡ (device l.fn.source).failures;
      room : l.room ≡ l.fn.room;
      near : l.at < 2 ^ 40;
      few : l.fn.start + 12 * length l.places.items ≤ l.at;
      within : 12 * length l.places.items ≤ l.extent.structure_end + 3 - l.fn.start;
      ends : All (EndsBy l.extent.totalsize) l.places.items;
      took : IsTrue (device l.fn.source).honest → (own : List Property) (nops : ℕ) → LeftFrom b l.fn.start own nops
          → TookFrom b l.at own nops [] l.places.items (device l.fn.source).asked (device l.source).asked;
    }

abbrev pub decreases-loop-places : goal.decreases-loop-places
decreases-loop-places g l = l.extent.structure_end + 4 - l.at
