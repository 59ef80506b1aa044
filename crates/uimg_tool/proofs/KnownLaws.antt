-- The tree that a text spells is what was compiled of it.
use Rattle.std.proofs.Common.{◌≡◌, ◌&&◌, ◌==◌, ℕ, List, [], Option, Bool, true, false, not, Result, Ok, Err, IsTrue, subst, sym}
use Rattle.std.specs.Prelude.{IfOk}
use Rattle.uimg_blob_reading.specs.Plain.{Nodes}
use Rattle.uimg_blob_writing.specs.{Content.{AreKept, in_full}, Trees.node_of}
use Rattle.uimg_dts.specs.declared.compiler.Compiled.{Compiled}
use Rattle.uimg_its.{specs.{Grammar.Spells, Words.words}, proofs.CompileLaws.one_tree}
use Rattle.uimg_tool.specs.Sources.{Spelled}

-- a folder alone is as honest as what opens its files
pub alone : (honest : Bool) (others : ℕ) → IsTrue honest → others ≡ 0 → IsTrue (others == 0 && honest)
alone honest others is none = subst (λ (n : ℕ). IsTrue (n == 0 && honest)) (sym none) is

never : (b : Bool) → true ≡ not b → b ≡ true → ⊥
never true e f = cc
never false e f = cc

pub compiled : {A : Type 0} (files : List ℕ → Option (List ℕ)) (text : List ℕ) (c : Compiled A) → Spells (words text) files (in_full files (node_of c.tree.root)) → AreKept files (node_of c.tree.root) → c.reservations.items ≡ [] → Spelled files text c
compiled files text c only kept bare = λ t spells. record {
  tree = one_tree (words text) files (in_full files (node_of c.tree.root)) t only spells;
  kept = kept;
  bare = bare;
}

-- a text that the profile refuses for its words spells nothing
beyond : {A : Type 0} (files : List ℕ → Option (List ℕ)) (text : List ℕ) (c : Compiled A) (is_outside : Bool) → ((t : Nodes) → Spells (words text) files t → is_outside ≡ true) → true ≡ not is_outside → Spelled files text c
beyond files text c is_outside accepts inside = λ t spells. absurd (never is_outside inside (accepts t spells))

pub beyond_any : {A E : Type 0} (files : List ℕ → Option (List ℕ)) (text : List ℕ) (result : Result (Compiled A) E) (is_outside : Bool) → ((t : Nodes) → Spells (words text) files t → is_outside ≡ true) → true ≡ not is_outside → IfOk result (Spelled files text)
beyond_any files text (Ok c) is_outside accepts inside = beyond files text c is_outside accepts inside
beyond_any files text (Err reason) is_outside accepts inside = tt
