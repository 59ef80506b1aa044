-- The result of compiling.
use Rattle.std.specs.Prelude.{◌≡◌, Bool, false, IsTrue, Result, Ok, Err}
use Rattle.uimg_blob_reading.specs.Plain.{Nodes}
use Rattle.uimg_blob_writing.specs.{declared.tree.Tree.Tree, Content.in_full, Trees.node_of}
use Rattle.uimg_its.specs.{declared.fault.ItsFault.ItsFault, Parts.FileBytes}
use Rattle.uimg_its.specs.Answers.{is_outside_text, tells_no_file, tells_unread}

-- the result is a refused open
abbrev pub finds_no_file : {X : Type 0} → Result X ItsFault → Bool
finds_no_file (Ok x) = false
finds_no_file (Err fault) = tells_no_file fault.kind

-- the result is a failed read of a file
abbrev pub is_file_unread : {X : Type 0} → Result X ItsFault → Bool
is_file_unread (Ok x) = false
is_file_unread (Err fault) = tells_unread fault.kind

-- If the words spell a tree, the result is that tree, or a refusal for a reason outside the text.
abbrev pub Accepts : {A : Type 0} → FileBytes → Result (Tree A) ItsFault → Nodes → Type 0
Accepts files (Ok tree) t = in_full files (node_of tree.root) ≡ t
Accepts files (Err fault) t = IsTrue (is_outside_text fault.kind)
