use Rattle.std.proofs.Common.{◌≡◌, ◌≤◌, length, map, IsTrue, false}
use Rattle.uimg_blob_writing.specs.{Properties.property, UsingFiles.UsesFiles}
use Rattle.uimg_its.specs.{Words.words, Steps.with_front, Parts.props_in_full, FileValues.AreSound}
use Rattle.uimg_its.specs.Reader.{properties}
use Rattle.uimg_its.proofs.IncludedLaws.{Follows}
use Rattle.uimg_its.proofs.properties.properties.Given as goal

-- what is left gives the same properties
abbrev pub invariant-loop-props : goal.invariant-loop-props
invariant-loop-props g l =
    let bytes = (g.F.Files.map l.fn.files).bytes in record {
      files : UsesFiles false (g.F.Files.map l.fn.files) (g.F.Files.map l.files);
      opened : Follows (words l.text) (words l.rest) (g.F.Files.map l.fn.files) (g.F.Files.map l.files);
      read : IsTrue (g.F.Files.map l.fn.files).honest → with_front (props_in_full bytes (map property l.props.items)) (properties bytes (words l.rest)) ≡ properties bytes (words l.text);
      sound : AreSound (g.F.Files.map l.fn.files) (map property l.props.items);
      within : length l.rest ≤ length l.text;
    }

abbrev pub decreases-loop-props : goal.decreases-loop-props
decreases-loop-props g l = length l.rest
