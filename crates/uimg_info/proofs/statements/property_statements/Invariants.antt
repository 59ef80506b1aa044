use Rattle.std.proofs.Common.{◌≡◌, take, map, IsTrue}
use Rattle.std.specs.List.{flat_map}
use Rattle.uimg_base.specs.Device.{SameDevice}
use Rattle.uimg_info.specs.{Statement.stated, Statements.place_stated}
use Rattle.uimg_info.proofs.statements.property_statements.Given as goal

-- the properties before the index are stated
abbrev pub invariant-loop-place : goal.invariant-loop-place
invariant-loop-place g l =
    let device = g.S.Source.device in
    record {
      same : SameDevice (device l.fn.source) (device l.source);
      failures : (device l.source).failures ≡ (device l.fn.source).failures;
      room : l.room ≡ l.fn.room;
      read : IsTrue (device l.fn.source).honest → map stated l.all.items ≡ flat_map (place_stated (device l.fn.source).bytes l.path l.facts) (take l.place-index l.places);
    }
