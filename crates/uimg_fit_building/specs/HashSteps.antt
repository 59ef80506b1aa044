-- Steps that set the digests of hash nodes.
use Rattle.std.specs.Prelude.{◌≡◌, ℕ, List, map, true, Result, OnOk, IsOkUnless}
use Rattle.std.specs.List.{filter, AllByRecursion}
use Rattle.uimg_texts.specs.declared.naming.Naming.{Naming}
use Rattle.uimg_base.specs.Lent.{Lent}
use Rattle.uimg_blob_reading.specs.Roles.{is_hash}
use Rattle.uimg_blob_writing.specs.{declared.tree.Node.Node, Content.bytes, Trees.siblings}
use Rattle.uimg_fit_base.specs.{declared.algo_sets.Digests.Digests, AlgoSets.{set_of, AreDigests}}
use Rattle.uimg_fit_base.specs.declared.fault.FitFault.{FitFault, TheVariants.OutOfMemory}
use Rattle.uimg_fit_building.specs.{Behind.entry, DigestBytes.{zeroed_hash, zeroed_child}}
use Rattle.uimg_fit_building.specs.{Filling.{each, with_digest_by}, ImageFillings.hashed_in}
use Rattle.uimg_fit_building.specs.PayloadSums.{in_memory, CoversHash}

-- Digests were set. If they are those of a message, by the algorithms of all hash nodes, the nodes
-- have them now; if not, only the bytes of digests differ from that. Only memory can have been
-- refused.
pub record SetsDigests {T X : Type 0} (digests : Digests) (AreCovered : Type 0)
    (hashed : List ℕ → T) (zeroed : T → T) (new : T) (result : Result X FitFault) : Type 0 where
  pub filled : (message : List ℕ) → AreDigests digests message → AreCovered
      → OnOk result (new ≡ hashed message)
  pub rest : (message : List ℕ) → OnOk result (zeroed new ≡ zeroed (hashed message))
  pub memory : IsOkUnless result OutOfMemory

-- in a hash node
abbrev pub SetsHash : {A X : Type 0} → Naming → Digests → Result X FitFault → Lent (Node A) → Type 0
SetsHash naming digests result node =
    SetsDigests digests (CoversHash naming (set_of digests) (entry node.entry.now))
    (λ message. with_digest_by naming in_memory bytes message (entry node.entry.now))
    (zeroed_hash naming) (entry node.exit.now) result

-- in a child of an image, if it is a hash node
abbrev pub SetsChild : {A X : Type 0} → Naming → Digests → Result X FitFault → Lent (Node A)
    → Type 0
SetsChild naming digests result node =
    SetsDigests digests
    (is_hash node.entry.now.name ≡ true → CoversHash naming (set_of digests) (entry node.entry.now))
    (λ message. hashed_in naming message (entry node.entry.now)) (zeroed_child naming)
    (entry node.exit.now) result

-- in the hash nodes among the children of an image
abbrev pub SetsChildren : {A X : Type 0} → Naming → Digests → Result X FitFault
    → Lent (List (Node A)) → Type 0
SetsChildren naming digests result nodes =
    SetsDigests digests (AllByRecursion (CoversHash naming (set_of digests))
    (filter (λ h. is_hash h.name) (map entry nodes.entry.now)))
    (λ message. each (hashed_in naming message) (siblings nodes.entry.now))
    (each (zeroed_child naming)) (siblings nodes.exit.now) result
