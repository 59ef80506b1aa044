use Rattle.std.{proofs.Common.{◌≡◌, ◌≤◌, ◌+◌, ◌++◌, take, drop, map, IsTrue}, specs.List.sum_by}
use Rattle.json.specs.Tree.{json_tokens, items_tokens}
use Rattle.uimg_base.specs.Device.{SameDevice}
use Rattle.uimg_blob_reading.specs.Places.{read_place}
use Rattle.uimg_info.specs.{Fit.property_json, Work.place_size}
use Rattle.uimg_printing.specs.Members.{items_of, array_of}
use Rattle.uimg_info.proofs.configurations.put_properties.Given as goal

-- with those that are left, all are there
abbrev pub invariant-loop-property : goal.invariant-loop-property
invariant-loop-property g l =
    let device = g.S.Source.device in
    let file = (device l.fn.source).bytes in
    record {
      same : SameDevice (device l.fn.source) (device l.source);
      asked : (device l.source).asked ≤ (device l.fn.source).asked + sum_by place_size (take l.property-index l.properties);
      failures : (device l.source).failures ≡ (device l.fn.source).failures;
      before : l.writer.before ≡ l.fn.writer.before;
      all : IsTrue (device l.fn.source).honest → l.writer.tokens ++ items_tokens (items_of (map property_json (map (read_place file) (drop l.property-index l.properties)))) ≡ l.fn.writer.tokens ++ json_tokens (array_of (map property_json (map (read_place file) l.properties)));
    }
