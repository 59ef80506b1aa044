use Rattle.std.proofs.Common.{◌≡◌, take, map, IsTrue}
use Rattle.uimg_base.specs.Device.{SameDevice}
use Rattle.uimg_info.specs.{LegacyFields.row_stated, Statement.stated}
use Rattle.uimg_info.proofs.legacy_fields.field_statements.Given as goal

-- the fields before the index are stated
abbrev pub invariant-loop-row : goal.invariant-loop-row
invariant-loop-row g l =
    let device = g.S.Source.device in
    record {
      same : SameDevice (device l.fn.source) (device l.source);
      failures : (device l.source).failures ≡ (device l.fn.source).failures;
      room : l.room ≡ l.fn.room;
      read : IsTrue (device l.fn.source).honest → map stated l.all.items ≡ map (row_stated (device l.fn.source).bytes) (take l.row-index l.rows);
    }
