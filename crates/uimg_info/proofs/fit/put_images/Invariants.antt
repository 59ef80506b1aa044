use Rattle.std.{proofs.Common.{◌≡◌, ◌≤◌, ◌+◌, ◌++◌, take, drop, map, IsTrue}, specs.List.sum_by}
use Rattle.json.specs.Tree.{json_tokens, items_tokens}
use Rattle.uimg_base.specs.Device.{SameDevice}
use Rattle.uimg_fit_checking.specs.Survey.{read_image}
use Rattle.uimg_info.specs.{Fit.image_json, Work.image_size}
use Rattle.uimg_printing.specs.Members.{items_of, array_of}
use Rattle.uimg_info.proofs.fit.put_images.Given as goal

-- with those that are left, all are there
abbrev pub invariant-loop-image : goal.invariant-loop-image
invariant-loop-image g l =
    let device = g.S.Source.device in
    let file = (device l.fn.source).bytes in
    record {
      same : SameDevice (device l.fn.source) (device l.source);
      asked : (device l.source).asked ≤ (device l.fn.source).asked + sum_by image_size (take l.image-index l.images);
      failures : (device l.source).failures ≡ (device l.fn.source).failures;
      before : l.writer.before ≡ l.fn.writer.before;
      all : IsTrue (device l.fn.source).honest → l.writer.tokens ++ items_tokens (items_of (map (image_json l.totalsize) (map (read_image file) (drop l.image-index l.images)))) ≡ l.fn.writer.tokens ++ json_tokens (array_of (map (image_json l.totalsize) (map (read_image file) l.images)));
    }
