-- A tree in memory has no files, and what filling leaves of its root.
use Rattle.std.proofs.Common.{◌≡◌, ℕ, List, [], ◌∷◌, Option, Result, Ok, Err, IfOk, ap}
use Rattle.std.specs.List.{AllByRecursion}
use Rattle.uimg_texts.specs.declared.naming.Naming.{Naming}
use Rattle.uimg_blob_reading.specs.Plain.{NamedOf, no_node, a_node, AllValues}
use Rattle.uimg_blob_writing.specs.Content.{Content, Unread, bytes, file, IsBytes, IsKept, AreKept, StandsAtData, FilesAtData}
use Rattle.uimg_fit_base.specs.declared.fault.FitFault.{FitFault}
use Rattle.uimg_fit_building.specs.{FillAnswers.FillsAnswerBy, UnreadTrees.filled_unread}

stands : (name : List ℕ) (c : Content) → IsBytes c → StandsAtData name c
stands name (bytes b) h = tt
stands name (file m size) h = absurd h

all_stand : (own : List (NamedOf Content)) → AllByRecursion (λ p. IsBytes p.value) own → AllByRecursion (λ p. StandsAtData p.name p.value) own
all_stand [] h = tt
all_stand (p ∷ own) h = (stands p.name p.value h.0, all_stand own h.1)

pub no_files_at : (u : Unread) → AllValues IsBytes u → FilesAtData u
no_files_at no_node h = tt
no_files_at (a_node name own below after) h = (all_stand own h.0, no_files_at below h.1, no_files_at after h.2)

kept : (files : List ℕ → Option (List ℕ)) (c : Content) → IsBytes c → IsKept files c
kept files (bytes b) h = tt
kept files (file m size) h = absurd h

all_kept : (files : List ℕ → Option (List ℕ)) (own : List (NamedOf Content)) → AllByRecursion (λ p. IsBytes p.value) own → AllByRecursion (λ p. IsKept files p.value) own
all_kept files [] h = tt
all_kept files (p ∷ own) h = (kept files p.value h.0, all_kept files own h.1)

pub no_files_kept : (files : List ℕ → Option (List ℕ)) (u : Unread) → AllValues IsBytes u → AreKept files u
no_files_kept files no_node h = tt
no_files_kept files (a_node name own below after) h = (all_kept files own h.0, no_files_kept files below h.1, no_files_kept files after h.2)

abbrev name_in : Unread → List ℕ
name_in no_node = []
name_in (a_node name own below after) = name

abbrev children_in : Unread → Unread
children_in no_node = no_node
children_in (a_node name own below after) = below

-- a node with other properties
pub with_props : (m n : List ℕ) (o own other : List (NamedOf Content)) (b below : Unread) → a_node m o b no_node ≡ a_node n other below no_node → a_node m own b no_node ≡ a_node n own below no_node
with_props m n o own other b below is = ap (λ (u : Unread). a_node (name_in u) own (children_in u) no_node) is

-- what a result of filling says of the filled tree
pub told_filled : {X : Type 0} (naming : Naming) (view : X → Unread) (files : List ℕ → Option (List ℕ)) (time : ℕ) (t : Unread) (r : Result X FitFault) → FillsAnswerBy naming view files time t r
    → IfOk r (λ x. view x ≡ filled_unread naming files time t)
told_filled naming view files time t (Ok x) h = h.source
told_filled naming view files time t (Err fault) h = tt
