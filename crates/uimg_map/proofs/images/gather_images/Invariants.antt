use Rattle.std.proofs.Common.{◌≡◌, ◌≤◌, ◌+◌, ◌*◌, ◌-◌, ◌<◌, ℕ, List, length, IfSome}
use Rattle.std.specs.List.{All}
use Rattle.std.specs.Option.{option_map_or}
use Rattle.uimg_base.specs.Device.{SameDevice}
use Rattle.uimg_blob_reading.specs.{Grammar.Siblings, LookUps.NodeOf, Roles.in_images, Rows.table, Spots.Spot}
use Rattle.uimg_fit_checking.proofs.SurveyLaws.{Gathered}
use Rattle.uimg_fit_reading.specs.Nodes.{AreFrom, InFile, Opened}
use Rattle.uimg_map.specs.Images.{ImageInside, ImageTold, read_image, told_by}
use Rattle.uimg_map.specs.{Signatures.covering_cost, declared.images.Image.Image}
use Rattle.uimg_map.proofs.images.gather_images.Given as goal

-- the images before the next one are gathered
abbrev pub invariant-loop-next : goal.invariant-loop-next
invariant-loop-next g l =
    let device = g.S.Source.device in
    let d = device l.fn.source in
    record {
      same : SameDevice d (device l.source);
      failures : (device l.source).failures ≡ d.failures;
      room : l.room ≡ l.fn.room;
      within : IfSome l.next (λ i. i < length l.fn.room.entries);
      inside : (size : ℕ) → InFile size l.blob l.fn.room.entries → All (ImageInside size) l.images.items;
      asked : (t : Siblings) → Opened d l.blob l.fn.room t → (all : List (NodeOf Spot)) → AreFrom t in_images l.fn.first all
          → (device l.source).asked ≤ d.asked + length l.images.items * covering_cost d.bytes (table t) l.signatures;
      left : (t : Siblings) → Opened d l.blob l.fn.room t → (all : List (NodeOf Spot)) → AreFrom t in_images l.fn.first all
          → Gathered Image ImageTold (AreFrom t in_images) (read_image d.bytes) (told_by d.bytes (table t) l.signatures) l.images.items l.next all;
    }

abbrev pub decreases-loop-next : goal.decreases-loop-next
decreases-loop-next g l = option_map_or (λ i. length l.fn.room.entries - i) l.next 0
