use Rattle.std.proofs.Common.{◌≡◌, ◌-◌, ◌<◌, List, length, IfSome, IsTrue}
use Rattle.std.specs.Option.{option_map_or}
use Rattle.uimg_base.specs.Device.{SameDevice}
use Rattle.uimg_blob_reading.specs.Grammar.{Siblings}
use Rattle.uimg_blob_reading.specs.LookUps.{NodeOf}
use Rattle.uimg_blob_reading.specs.Roles.{in_images}
use Rattle.uimg_blob_reading.specs.Spots.{Spot}
use Rattle.uimg_fit_reading.specs.Nodes.{Opened, AreFrom}
use Rattle.uimg_fit_checking.specs.Unpacking.{GivesBy, which}
use Rattle.uimg_fit_checking.specs.UnpackingParts.{Fitting}
use Rattle.uimg_fit_checking.proofs.TakeLaws.{LeftToPay, LeftToTake}
use Rattle.uimg_fit_checking.proofs.EndedLaws.{LeftToEnd}
use Rattle.uimg_fit_checking.proofs.unpacking.takes.take_images.Given as goal

-- what is left to be paid for and to be taken, of payloads that do not overlap
abbrev pub invariant-loop-next : goal.invariant-loop-next
invariant-loop-next g l =
    let device = g.S.Source.device in
    let file = (device l.fn.source).bytes in
    let only = which l.request.only in
    record {
      same : SameDevice (device l.fn.source) (device l.source);
      failures : (device l.source).failures ≡ (device l.fn.source).failures;
      room : l.room ≡ l.fn.room;
      place : g.T.Taker.place l.taker ≡ g.T.Taker.place l.fn.taker;
      within : IfSome l.next (λ i. i < length l.fn.room.entries);
      none_claimed : IsTrue g.T.Taker.notes → g.T.Taker.claimed l.taker ≡ g.T.Taker.claimed l.fn.taker;
      paid : (t : Siblings) → Opened (device l.fn.source) l.blob l.fn.room t → (found : List (NodeOf Spot)) → AreFrom t in_images l.fn.first found
          → Fitting only file found (LeftToPay t file only found (device l.fn.source).asked (device l.source).asked l.next);
      told : IsTrue g.T.Taker.honest → (t : Siblings) → Opened (device l.fn.source) l.blob l.fn.room t → (found : List (NodeOf Spot)) → AreFrom t in_images l.fn.first found
          → Fitting only file found (LeftToTake g.T.Taker.seen t file l.request.need only found l.all (g.T.Taker.takes l.fn.taker) (g.T.Taker.takes l.taker) l.next);
      given : IsTrue g.T.Taker.honest → GivesBy g.T.Taker.seen l.all (g.T.Taker.takes l.fn.taker) (g.T.Taker.takes l.taker);
      ended : (t : Siblings) → Opened (device l.fn.source) l.blob l.fn.room t → (found : List (NodeOf Spot)) → AreFrom t in_images l.fn.first found
          → Fitting only file found (LeftToEnd t file l.request.need only found l.all (g.T.Taker.begun l.fn.taker) (g.T.Taker.begun l.taker) l.next);
    }

abbrev pub decreases-loop-next : goal.decreases-loop-next
decreases-loop-next g l = option_map_or (λ i. length l.fn.room.entries - i) l.next 0
