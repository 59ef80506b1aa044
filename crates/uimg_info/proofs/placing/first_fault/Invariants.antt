use Rattle.std.proofs.Common.{◌≡◌, ◌≤◌, ◌+◌, ◌*◌, map, drop, IsTrue}
use Rattle.uimg_base.specs.Device.{SameDevice}
use Rattle.uimg_fit_checking.specs.Survey.{read_image}
use Rattle.uimg_info.specs.Placing.{first_fault}
use Rattle.uimg_info.proofs.placing.first_fault.Given as goal

-- no payload so far has a fault
abbrev pub invariant-loop-image : goal.invariant-loop-image
invariant-loop-image g l =
    let device = g.S.Source.device in
    let file = (device l.fn.source).bytes in
    record {
      same : SameDevice (device l.fn.source) (device l.source);
      asked : (device l.source).asked ≤ (device l.fn.source).asked + 12 * l.image-index;
      failures : (device l.source).failures ≡ (device l.fn.source).failures;
      left : IsTrue (device l.fn.source).honest → first_fault l.size l.totalsize (map (read_image file) (drop l.image-index l.images)) ≡ first_fault l.size l.totalsize (map (read_image file) l.images);
    }
