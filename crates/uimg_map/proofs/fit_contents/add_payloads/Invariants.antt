use Rattle.std.proofs.Common.{◌≡◌, ◌≤◌, ◌+◌, ◌*◌, length, map, drop, IsTrue}
use Rattle.uimg_base.specs.Device.{SameDevice}
use Rattle.uimg_map.specs.Images.{read_image}
use Rattle.uimg_map.specs.{declared.contents.Contents.Contents, Contents.GrowsBy}
use Rattle.uimg_map.specs.FitContents.{images_told}
use Rattle.uimg_map.proofs.fit_contents.add_payloads.Given as goal

-- what is found of the images that are left makes what is found of all
abbrev pub invariant-loop-image : goal.invariant-loop-image
invariant-loop-image g l =
    let device = g.S.Source.device in
    let file = (device l.fn.source).bytes in
    record {
      same : SameDevice (device l.fn.source) (device l.source);
      asked : IsTrue (device l.fn.source).honest → (device l.source).asked ≤ (device l.fn.source).asked + 12 * l.image-index;
      failures : (device l.source).failures ≡ (device l.fn.source).failures;
      size : l.contents.size ≡ l.fn.contents.size;
      left : IsTrue (device l.fn.source).honest → (all : Contents)
          → GrowsBy file (images_told (length file) l.found.totalsize (map (read_image file) (drop l.image-index l.found.images.items))) l.contents all
          → GrowsBy file (images_told (length file) l.found.totalsize (map (read_image file) l.found.images.items)) l.fn.contents all;
    }
