use Rattle.std.proofs.Common.{◌≡◌, ◌≤◌, ◌+◌, map, take, IsTrue}
use Rattle.std.specs.List.{sum_by}
use Rattle.uimg_base.specs.Device.{SameDevice}
use Rattle.uimg_checks.specs.ReferenceNames.{HasNames, image_name_in}
use Rattle.uimg_checks.proofs.references.names.image_names.Given as goal

-- the set has the names so far
abbrev pub invariant-loop-image : goal.invariant-loop-image
invariant-loop-image g l =
    let device = g.S.Source.device in
    record {
      same : SameDevice (device l.fn.source) (device l.source);
      asked : (device l.source).asked ≤ (device l.fn.source).asked + sum_by (λ i. i.name.length) (take l.image-index l.images);
      failures : (device l.source).failures ≡ (device l.fn.source).failures;
      told : IsTrue (device l.fn.source).honest → HasNames l.names (map (image_name_in (device l.fn.source).bytes) (take l.image-index l.images));
    }
