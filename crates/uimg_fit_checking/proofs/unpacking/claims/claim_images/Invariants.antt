use Rattle.std.proofs.Common.{◌≡◌, ◌-◌, ◌<◌, List, length, IfSome, IsTrue}
use Rattle.std.specs.Option.{option_map_or}
use Rattle.uimg_base.specs.Device.{SameDevice}
use Rattle.uimg_blob_reading.specs.Grammar.{Siblings}
use Rattle.uimg_blob_reading.specs.LookUps.{NodeOf}
use Rattle.uimg_blob_reading.specs.Roles.{in_images}
use Rattle.uimg_blob_reading.specs.Spots.{Spot}
use Rattle.uimg_fit_reading.specs.Nodes.{Opened, AreFrom}
use Rattle.uimg_fit_checking.specs.Unpacking.{which}
use Rattle.uimg_fit_checking.proofs.ClaimLaws.{LeftClaimed}
use Rattle.uimg_fit_checking.proofs.unpacking.claims.claim_images.Given as goal

-- what is told of the images from the next one on, with the bytes that are left, is told of all
abbrev pub invariant-loop-next : goal.invariant-loop-next
invariant-loop-next g l =
    let device = g.S.Source.device in
    let file = (device l.fn.source).bytes in
    record {
      same : SameDevice (device l.fn.source) (device l.source);
      failures : (device l.source).failures ≡ (device l.fn.source).failures;
      room : l.room ≡ l.fn.room;
      place : g.T.Taker.place l.taker ≡ g.T.Taker.place l.fn.taker;
      within : IfSome l.next (λ i. i < length l.fn.room.entries);
      none_begun : g.T.Taker.begun l.taker ≡ g.T.Taker.begun l.fn.taker;
      none_given : IsTrue g.T.Taker.honest → g.T.Taker.takes l.taker ≡ g.T.Taker.takes l.fn.taker;
      told : (t : Siblings) → Opened (device l.fn.source) l.blob l.fn.room t → (found : List (NodeOf Spot)) → AreFrom t in_images l.fn.first found
          → LeftClaimed t file (which l.only) found (device l.fn.source).asked (device l.source).asked l.left l.next g.T.Taker.notes (g.T.Taker.claimed l.fn.taker) (g.T.Taker.claimed l.taker);
    }

abbrev pub decreases-loop-next : goal.decreases-loop-next
decreases-loop-next g l = option_map_or (λ i. length l.fn.room.entries - i) l.next 0
