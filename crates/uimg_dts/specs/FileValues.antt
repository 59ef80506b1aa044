-- Which values of a tree may be files.
use Rattle.std.specs.{Prelude.{◌≡◌, ℕ, List, Bool, IsTrue, Option, MatchOption, codes, ⊤}, List.AllByRecursion}
use Rattle.uimg_base.specs.Named.{FileMap}
use Rattle.uimg_blob_reading.specs.Plain.{NamedOf, no_node, a_node}
use Rattle.uimg_blob_writing.specs.declared.tree.Node.{Node}
use Rattle.uimg_blob_writing.specs.Content.{Content, Unread, bytes, file, IsKept}

-- Only the value of `data` is a file, and honest files have it, with the stored size.
abbrev pub IsSoundValue : Bool → (List ℕ → Option (List ℕ)) → List ℕ → Content → Type 0
IsSoundValue honest files n (bytes b) = ⊤
IsSoundValue honest files n (file name size) =
    (n ≡ codes "data") × (IsTrue honest → IsKept files (file name size))

abbrev pub IsSoundIn : FileMap → List ℕ → Content → Type 0
IsSoundIn map n c = IsSoundValue map.honest map.bytes n c

-- the same for properties
abbrev pub AreSound : FileMap → List (NamedOf Content) → Type 0
AreSound map ps = AllByRecursion (λ p. IsSoundValue map.honest map.bytes p.name p.value) ps

-- the same for all nodes
abbrev pub IsSoundTree : FileMap → Unread → Type 0
IsSoundTree map no_node = ⊤
IsSoundTree map (a_node name own below after) =
    AreSound map own × IsSoundTree map below × IsSoundTree map after

-- the same for nodes of the code
abbrev pub IsSoundNode : {A : Type 0} → FileMap → Node A → Type 0
IsSoundNode map n = AreSound map n.props × IsSoundTree map n.children

abbrev pub AreSoundNodes : {A : Type 0} → FileMap → List (Node A) → Type 0
AreSoundNodes map ns = AllByRecursion (IsSoundNode map) ns

abbrev pub IsSoundIfFound : {A : Type 0} → FileMap → Option (Node A) → Type 0
IsSoundIfFound map found = MatchOption found ⊤ (λ n. IsSoundNode map n)
