use Rattle.std.proofs.Common.{◌≡◌, ◌≤◌, length, IsTrue, false}
use Rattle.uimg_blob_writing.specs.UsingFiles.{UsesFiles}
use Rattle.uimg_its.specs.{Words.words, Steps.with_front, Reader.values}
use Rattle.uimg_its.proofs.IncludedLaws.{Follows}
use Rattle.uimg_its.proofs.values.values.Given as goal

-- what is left gives the same value
abbrev pub invariant-loop-last : goal.invariant-loop-last
invariant-loop-last g l =
    let bytes = (g.F.Files.map l.fn.files).bytes in record {
      files : UsesFiles false (g.F.Files.map l.fn.files) (g.F.Files.map l.files);
      opened : Follows (words l.text) (words l.rest) (g.F.Files.map l.fn.files) (g.F.Files.map l.files);
      read : IsTrue (g.F.Files.map l.fn.files).honest → with_front l.out.items (values bytes (words l.rest)) ≡ with_front l.fn.out.items (values bytes (words l.text));
      within : length l.rest ≤ length l.text;
    }

abbrev pub decreases-loop-last : goal.decreases-loop-last
decreases-loop-last g l = length l.rest
