use Rattle.std.proofs.Common.{◌≡◌, map, take, IsTrue}
use Rattle.uimg_base.specs.Device.{SameDevice}
use Rattle.uimg_strict.specs.Telling.{items_of, place_name}
use Rattle.uimg_strict.proofs.node_names.property_names.Given as goal

-- the names before the index are read
abbrev pub invariant-loop-place : goal.invariant-loop-place
invariant-loop-place g l =
    let device = g.S.Source.device in
    record {
      same : SameDevice (device l.fn.source) (device l.source);
      failures : (device l.source).failures ≡ (device l.fn.source).failures;
      read : IsTrue (device l.fn.source).honest → map items_of l.names.items ≡ map (place_name (device l.fn.source).bytes) (take l.place-index l.places);
    }
