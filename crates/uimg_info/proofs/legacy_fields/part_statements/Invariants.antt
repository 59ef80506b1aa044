use Rattle.std.proofs.Common.{◌≡◌, ◌≤◌, drop, length, map, ◌++◌, IsTrue}
use Rattle.uimg_base.specs.Device.{SameDevice}
use Rattle.uimg_info.specs.{LegacyFields.{field_stated, parts_from}, Statement.stated}
use Rattle.uimg_info.proofs.legacy_fields.part_statements.Given as goal

-- with the parts that are left, all are stated
abbrev pub invariant-loop-part : goal.invariant-loop-part
invariant-loop-part g l =
    let device = g.S.Source.device in
    record {
      same : SameDevice (device l.fn.source) (device l.source);
      failures : (device l.source).failures ≡ (device l.fn.source).failures;
      room : l.room ≡ l.fn.room;
      number : l.number ≡ l.part-index;
      read : IsTrue (device l.fn.source).honest → map stated l.all.items ++ map (field_stated (device l.fn.source).bytes) (parts_from l.number (drop l.part-index l.parts)) ≡ map (field_stated (device l.fn.source).bytes) (parts_from 0 l.parts);
    }
