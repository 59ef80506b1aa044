use Rattle.std.proofs.Common.{◌≡◌, ℕ, List, take, map}
use Rattle.std.specs.List.{All}
use Rattle.uimg_blob_reading.specs.{Grammar.Siblings, Indexed.IsIndexed, Rows.table}
use Rattle.uimg_fit_reading.specs.Nodes.{InAnyFile}
use Rattle.uimg_info.specs.Signatures.{SignatureInside, read_signature, signature_said}
use Rattle.uimg_info.proofs.signatures.facts_of.Given as goal

-- the facts of the nodes before the index are there
abbrev pub invariant-loop-node : goal.invariant-loop-node
invariant-loop-node g l = record {
  inside : InAnyFile l.blob l.room (λ size. All (SignatureInside size) l.facts.items);
  said : (file : List ℕ) (t : Siblings) → IsIndexed t l.blob l.room.entries
      → map (read_signature file) l.facts.items ≡ map (signature_said file (table t)) (take l.node-index l.nodes);
}
