-- Files stand where they may.
use Rattle.std.proofs.Common.{ℕ, List, [], ◌∷◌, ◌++◌, Bool, IsTrue, Option, None, Some, Result, Ok, Err, IfOk, subst}
use Rattle.std.specs.List.{AllByRecursion}
use Rattle.uimg_base.specs.Named.{FileMap, SameFiles}
use Rattle.uimg_blob_reading.specs.Plain.{NamedOf, no_node, a_node}
use Rattle.uimg_blob_writing.specs.{declared.tree.Node.Node, Trees.siblings}
use Rattle.uimg_blob_writing.specs.Content.{Content, Unread, bytes, file, IsKept, AreKept, StandsAtData, FilesAtData}
use Rattle.uimg_dts.specs.FileValues.{IsSoundValue, AreSound, IsSoundTree, IsSoundNode, IsSoundIfFound, AreSoundNodes}

-- one more
pub all_push : {X : Type 0} (P : X → Type 0) (xs : List X) (x : X) → AllByRecursion P xs → P x → AllByRecursion P (xs ++ x ∷ [])
all_push P [] x all p = (p, tt)
all_push P (y ∷ ys) x all p = (all.0, all_push P ys x all.1 p)

all_weaker : {X : Type 0} (P Q : X → Type 0) → ((x : X) → P x → Q x) → (xs : List X) → AllByRecursion P xs → AllByRecursion Q xs
all_weaker P Q f [] all = tt
all_weaker P Q f (x ∷ xs) all = (f x all.0, all_weaker P Q f xs all.1)

-- a fact of what files are, of files that are the same
still : (P Q : Bool → (List ℕ → Option (List ℕ)) → Type 0) {a b : FileMap} → SameFiles a b → (P b.honest b.bytes → Q b.honest b.bytes) → P a.honest a.bytes → Q a.honest a.bytes
still P Q {a = a} {b = b} same f = subst (λ (h : Bool). P h a.bytes → Q h a.bytes) same.honest (subst (λ (m : (List ℕ → Option (List ℕ))). P b.honest m → Q b.honest m) same.bytes f)

pub still_sound : {a b : FileMap} (old new : List (NamedOf Content)) → SameFiles a b → (AreSound b old → AreSound b new) → AreSound a old → AreSound a new
still_sound old new same f =
    still (λ h m. AllByRecursion (λ (p : NamedOf Content). IsSoundValue h m p.name p.value) old) (λ h m. AllByRecursion (λ (p : NamedOf Content). IsSoundValue h m p.name p.value) new) same f

pub siblings_sound : {A : Type 0} (m : FileMap) (ns : List (Node A)) → AreSoundNodes m ns → IsSoundTree m (siblings ns)
siblings_sound m [] all = tt
siblings_sound m (n ∷ ns) all = (all.0.0, all.0.1, siblings_sound m ns all.1)

at_data : (h : Bool) (m : (List ℕ → Option (List ℕ))) (n : List ℕ) (c : Content) → IsSoundValue h m n c → StandsAtData n c
at_data h m n (bytes b) s = tt
at_data h m n (file name size) s = s.0

pub files_at_data : (m : FileMap) (t : Unread) → IsSoundTree m t → FilesAtData t
files_at_data m no_node s = tt
files_at_data m (a_node name own below after) s =
    (all_weaker _ _ (λ p s. at_data m.honest m.bytes p.name p.value s) own s.0, files_at_data m below s.1, files_at_data m after s.2)

is_kept : (h : Bool) (m : (List ℕ → Option (List ℕ))) (n : List ℕ) (c : Content) → IsTrue h → IsSoundValue h m n c → IsKept m c
is_kept h m n (bytes b) honest s = tt
is_kept h m n (file name size) honest s = s.1 honest

pub are_kept : (m : FileMap) (t : Unread) → IsTrue m.honest → IsSoundTree m t → AreKept m.bytes t
are_kept m no_node honest s = tt
are_kept m (a_node name own below after) honest s =
    (all_weaker _ _ (λ p s. is_kept m.honest m.bytes p.name p.value honest s) own s.0, are_kept m below honest s.1, are_kept m after honest s.2)

value_same : (a b : FileMap) (n : List ℕ) (c : Content) → SameFiles a b → IsSoundValue b.honest b.bytes n c → IsSoundValue a.honest a.bytes n c
value_same a b n c same s = subst (λ (h : Bool). IsSoundValue h a.bytes n c) same.honest (subst (λ (m : (List ℕ → Option (List ℕ))). IsSoundValue b.honest m n c) same.bytes s)

props_same : (a b : FileMap) (ps : List (NamedOf Content)) → SameFiles a b → AreSound b ps → AreSound a ps
props_same a b ps same all = all_weaker (λ (p : NamedOf Content). IsSoundValue b.honest b.bytes p.name p.value) (λ (p : NamedOf Content). IsSoundValue a.honest a.bytes p.name p.value) (λ p s. value_same a b p.name p.value same s) ps all

pub tree_same : (a b : FileMap) (t : Unread) → SameFiles a b → IsSoundTree b t → IsSoundTree a t
tree_same a b no_node same s = tt
tree_same a b (a_node name own below after) same s = (props_same a b own same s.0, tree_same a b below same s.1, tree_same a b after same s.2)

pub node_same : {A : Type 0} (a b : FileMap) (n : Node A) → SameFiles a b → IsSoundNode b n → IsSoundNode a n
node_same a b n same s = (props_same a b n.props same s.0, tree_same a b n.children same s.1)

pub nodes_same : {A : Type 0} (a b : FileMap) (ns : List (Node A)) → SameFiles a b → AreSoundNodes b ns → AreSoundNodes a ns
nodes_same {A = A} a b ns same all = all_weaker (λ (n : Node A). IsSoundNode b n) (λ (n : Node A). IsSoundNode a n) (λ n s. node_same a b n same s) ns all

pub found_same : {A : Type 0} (a b : FileMap) (found : Option (Node A)) → SameFiles a b → IsSoundIfFound b found → IsSoundIfFound a found
found_same a b None same s = s
found_same a b (Some n) same s = node_same a b n same s

-- the root of an answer
pub answer_same : {A X E : Type 0} (root : X → Node A) (a b : FileMap) (answer : Result X E) → SameFiles a b → IfOk answer (λ x. IsSoundNode b (root x)) → IfOk answer (λ x. IsSoundNode a (root x))
answer_same root a b (Ok x) same s = node_same a b (root x) same s
answer_same root a b (Err e) same s = tt
