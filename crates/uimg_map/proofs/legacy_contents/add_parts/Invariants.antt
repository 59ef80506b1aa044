use Rattle.std.proofs.Common.{◌≡◌, ◌≤◌, ◌<◌, ◌+◌, ◌*◌, ◌^◌, drop, IsTrue}
use Rattle.uimg_base.specs.Device.{SameDevice}
use Rattle.uimg_legacy.specs.Parts.{sizes}
use Rattle.uimg_texts.specs.Slices.{slice}
use Rattle.uimg_map.specs.{declared.contents.Contents.Contents, Contents.GrowsBy}
use Rattle.uimg_map.specs.LegacyContents.{parts_told}
use Rattle.uimg_map.proofs.legacy_contents.add_parts.Given as goal

-- what is found of the parts that are left makes what is found of all
abbrev pub invariant-loop-number : goal.invariant-loop-number
invariant-loop-number g l =
    let device = g.S.Source.device in
    let file = (device l.fn.source).bytes in
    let table = sizes (slice file 64 l.size) in
    record {
      small : l.at < 2 ^ 36;
      same : SameDevice (device l.fn.source) (device l.source);
      asked : (device l.source).asked ≤ (device l.fn.source).asked + 4 * l.number;
      failures : (device l.source).failures ≡ (device l.fn.source).failures;
      kept : l.contents.size ≡ l.fn.contents.size;
      left : IsTrue (device l.fn.source).honest → (all : Contents)
          → GrowsBy file (parts_told l.end l.at l.number (drop l.number table)) l.contents all
          → GrowsBy file (parts_told (64 + l.size) (64 + 4 * (l.count + 1)) 0 table) l.fn.contents all;
    }
