use Rattle.std.proofs.Common.{◌≡◌, ◌≤◌, ◌*◌, ◌+◌, length, IsTrue, false}
use Rattle.uimg_blob_writing.specs.UsingFiles.{UsesFiles}
use Rattle.uimg_its.specs.{Words.words, Steps.with_front, Parts.all_parts_of, Reader.children}
use Rattle.uimg_its.specs.FileValues.{AreSoundNodes}
use Rattle.uimg_its.proofs.IncludedLaws.{Follows}
use Rattle.uimg_its.proofs.nodes.+tree.Given as goal

abbrev pub decreases-node : goal.decreases-node
decreases-node g l = l.levels * 4

abbrev pub decreases-child : goal.decreases-child
decreases-child g l = l.levels * 4 + 1

abbrev pub decreases-children : goal.decreases-children
decreases-children g l = l.levels * 4 + 2

abbrev pub decreases-inside : goal.decreases-inside
decreases-inside g l = l.levels * 4 + 3

-- what is left gives the same nodes
abbrev pub invariant-children-loop-nodes : goal.invariant-children-loop-nodes
invariant-children-loop-nodes g l =
    let bytes = (g.F.Files.map l.fn.files).bytes in record {
      files : UsesFiles false (g.F.Files.map l.fn.files) (g.F.Files.map l.files);
      opened : Follows (words l.text) (words l.rest) (g.F.Files.map l.fn.files) (g.F.Files.map l.files);
      read : IsTrue (g.F.Files.map l.fn.files).honest → with_front (all_parts_of bytes l.nodes.items) (children l.levels bytes (words l.rest)) ≡ children l.levels bytes (words l.text);
      sound : AreSoundNodes (g.F.Files.map l.fn.files) l.nodes.items;
      within : length l.rest ≤ length l.text;
    }

abbrev pub decreases-children-loop-nodes : goal.decreases-children-loop-nodes
decreases-children-loop-nodes g l = length l.rest
