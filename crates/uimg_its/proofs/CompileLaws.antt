-- What is compiled is what is spelled.
use Rattle.std.proofs.Common.{◌≡◌, List, Bool, true, false, IsTrue, Option, Some, None, sym, ap, subst, ◌∙◌}
use Rattle.std.specs.Bool.{OnFalse}
use Rattle.uimg_blob_reading.specs.Plain.{Nodes}
use Rattle.uimg_blob_writing.specs.{declared.tree.Node.Node, Content.in_full, Trees.node_of}
use Rattle.uimg_its.specs.{Words.Word, Parts.{FileBytes, NodeParts, parts_of, one_node}}
use Rattle.uimg_its.specs.{Reader.source, Grammar.Spells}
use Rattle.uimg_its.proofs.{Shrinking.some_is, SoundLaws.in_full_node, SpelledIsRead.source_again}
use Rattle.uimg_its.proofs.ReadIsSpelled.{source_found}

pub only_spelled : {A : Type 0} (ws : List Word) (files : FileBytes) (root : Node A) → source files ws ≡ Some (parts_of files root) → Spells ws files (in_full files (node_of root))
only_spelled ws files root h = subst (λ (t : Nodes). Spells ws files t) (sym (in_full_node files root)) (source_found ws files (parts_of files root) h)

pub accepted : {A : Type 0} (ws : List Word) (files : FileBytes) (root : Node A) (t : Nodes) → source files ws ≡ Some (parts_of files root) → Spells ws files t → in_full files (node_of root) ≡ t
accepted ws files root t h s = in_full_node files root ∙ ap one_node (some_is _ _ (sym h ∙ source_again ws files t s)) ∙ sym s.root

outside_by : (b : Bool) (r : Option NodeParts) (x : NodeParts) → r ≡ Some x → OnFalse b (r ≡ None) → IsTrue b
outside_by true r x is h = search
outside_by false r x is h = absurd (cc)

-- a refusal of what is spelled
pub refused_outside : (b : Bool) (ws : List Word) (files : FileBytes) (t : Nodes) → OnFalse b (source files ws ≡ None) → Spells ws files t → IsTrue b
refused_outside b ws files t h s = outside_by b (source files ws) _ (source_again ws files t s) h

-- A list of words spells at most one tree.
pub one_tree : (ws : List Word) (files : FileBytes) (t u : Nodes) → Spells ws files t → Spells ws files u → t ≡ u
one_tree ws files t u a b = a.root ∙ ap one_node (some_is _ _ (sym (source_again ws files t a) ∙ source_again ws files u b)) ∙ sym b.root
