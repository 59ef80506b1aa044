use Rattle.std.proofs.Common.{◌≡◌, length, map, take, IsTrue}
use Rattle.uimg_base.specs.{Named.SameFiles, Opening.OpensJust}
use Rattle.uimg_legacy.specs.Devices.{bytes_of, AreHonest}
use Rattle.uimg_engine.specs.Making.{HaveParts, texts}
use Rattle.uimg_engine.proofs.making_parts.open_all.Given as goal

-- the first names are opened
abbrev pub invariant-loop-i : goal.invariant-loop-i
invariant-loop-i g l =
    let device = g.F.Opened.Source.device in
    let files = g.F.Files.map in
    record {
      same : SameFiles (files l.fn.files) (files l.files);
      opened : OpensJust (texts (take l.i l.names)) (files l.fn.files) (files l.files);
      refusals : (files l.files).refusals ≡ (files l.fn.files).refusals;
      count : length l.opened.items ≡ l.i;
      parts : IsTrue (files l.fn.files).honest → HaveParts (files l.fn.files).bytes (map (λ name. name.items) (take l.i l.names)) (bytes_of (map device l.opened.items));
      honest : IsTrue (files l.fn.files).honest → AreHonest (map device l.opened.items);
    }
