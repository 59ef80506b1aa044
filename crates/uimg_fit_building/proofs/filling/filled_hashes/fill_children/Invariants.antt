use Rattle.std.proofs.Common.{◌≡◌, ℕ, List, length, map, drop}
use Rattle.std.specs.List.{filter, AllByRecursion}
use Rattle.uimg_blob_reading.specs.Roles.{is_hash}
use Rattle.uimg_fit_building.specs.{Behind.entry, ImageFillings.hashed_in, PayloadSums.CoversHash}
use Rattle.uimg_fit_building.specs.DigestBytes.{zeroed_child}
use Rattle.uimg_fit_base.specs.AlgoSets.{set_of, AreDigests}
use Rattle.uimg_fit_building.proofs.EachLaws.{ChangedTo, AgreeTo}
use Rattle.uimg_fit_building.proofs.filling.filled_hashes.fill_children.Given as goal

-- the children before the index have their digests and are else as they were, and so are the others whole
abbrev pub invariant-loop-node : goal.invariant-loop-node
invariant-loop-node g l = record {
  long : length l.nodes ≡ length l.fn.nodes;
  changed : (message : List ℕ) → AreDigests l.digests message
      → AllByRecursion (CoversHash l.naming (set_of l.digests)) (filter (λ h. is_hash h.name) (map entry l.fn.nodes))
      → ChangedTo entry (hashed_in l.naming message) l.fn.nodes l.nodes l.node-index;
  rest : drop l.node-index l.nodes ≡ drop l.node-index l.fn.nodes;
  zeroed : (message : List ℕ) → AgreeTo (λ n. zeroed_child l.naming (entry n)) (λ n. zeroed_child l.naming (hashed_in l.naming message (entry n))) l.fn.nodes l.nodes l.node-index;
}
