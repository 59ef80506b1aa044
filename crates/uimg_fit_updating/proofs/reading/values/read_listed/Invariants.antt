use Rattle.std.proofs.Common.{◌≡◌, map, take, IsTrue}
use Rattle.std.specs.List.{AllByRecursion}
use Rattle.uimg_base.specs.Device.{SameDevice}
use Rattle.uimg_blob_writing.specs.{Content.IsBytes, Properties.property}
use Rattle.uimg_fit_updating.specs.Reading.{read_property}
use Rattle.uimg_fit_updating.proofs.reading.values.read_listed.Given as goal

-- the properties before the index were read
abbrev pub invariant-loop-place : goal.invariant-loop-place
invariant-loop-place g l =
    let device = g.S.Source.device in
    record {
      same : SameDevice (device l.fn.source) (device l.source);
      room : l.room ≡ l.fn.room;
      in_memory : AllByRecursion (λ p. IsBytes p.value) (map property l.props.items);
      done : IsTrue (device l.fn.source).honest → map property l.props.items ≡ map (read_property (device l.fn.source).bytes) (take l.place-index l.places);
    }
