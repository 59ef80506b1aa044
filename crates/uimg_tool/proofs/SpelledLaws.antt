-- The image of a tree that a source spells is kept, by what a making answered.
use Rattle.std.proofs.Common.{◌≡◌, inl, inr, ℕ, List, [], Option, Ok, Bool, true, false, IsTrue, ap, subst, sym, ◌∙◌}
use Rattle.uimg_base.specs.{Device.Device, Named.{FileMap, SameFiles}}
use Rattle.uimg_blob_reading.specs.Plain.{Nodes}
use Rattle.uimg_blob_writing.specs.{Content.{AreKept, Unread, in_full}, Trees.node_of}
use Rattle.uimg_fit_base.specs.declared.placement.AlignedPlacement.{AlignedPlacement}
use Rattle.uimg_blob_writing.specs.declared.reservation.Reservation.{Reservation}
use Rattle.uimg_fit_building.specs.{FillAnswers.FillsBy, Refusing.fill_by}
use Rattle.uimg_dts.specs.declared.compiler.Compiled.{Compiled}
use Rattle.uimg_its.specs.{Grammar.Spells, Words.words}
use Rattle.uimg_texts.specs.declared.naming.Naming.TheVariants.{All}
use Rattle.uimg_tool.proofs.KnownLaws.{alone}
use Rattle.uimg_tool.specs.LeavingOut.{in_folder, seen_in}
use Rattle.uimg_tool.specs.{Sources.Spelled, TreesMade.{KeepsEither, KeepsFilled, KeepsIn, KeepsTree, MakesFrom, MakesKept}}
use Rattle.uimg_tool.specs.declared.tree_program.TreeRequest.{TreeRequest}

-- what is written of a tree that was filled
filled_in : {K : Type 0} (device : K → Device) (making : TreeRequest) (time : ℕ) (t u : Nodes) → fill_by All time t ≡ Ok u → making.reservations.now ≡ [] → MakesKept device making u → KeepsFilled device t time making.placement
filled_in device making time t u fills bare made = record {
  filled = u;
  is = fills;
  kept = subst (λ (rs : List Reservation). MakesFrom device rs u making.placement) bare made;
}

filled_either : {K N : Type 0} (in_place : Bool) (there : K → Device) (new : N → Device) (making : TreeRequest) (time : ℕ) (t u : Nodes) → fill_by All time t ≡ Ok u → making.reservations.now ≡ [] → KeepsIn in_place there new making u → KeepsEither there new t time making.placement
filled_either true there new making time t u fills bare (inl made) = inl (filled_in there making time t u fills bare made)
filled_either true there new making time t u fills bare (inr made) = inr (filled_in new making time t u fills bare made)
filled_either false there new making time t u fills bare made = inr (filled_in new making time t u fills bare made)

pub keeps_filled : {K N : Type 0} (there : K → Device) (new : N → Device) (making : TreeRequest) (time : ℕ) (t u : Unread) (old later : FileMap) → SameFiles old later → FillsBy All old.bytes time t u → making.reservations.now ≡ []
    → (IsTrue later.honest → AreKept later.bytes u → KeepsTree there new making (in_full later.bytes u)) → IsTrue old.honest → KeepsEither there new (in_full old.bytes t) time making.placement
keeps_filled there new making time t u old later same fills bare claim honest =
    filled_either making.in_place there new making time (in_full old.bytes t) (in_full old.bytes u) fills.accepted bare
    (subst (λ (b : List ℕ → Option (List ℕ)). AreKept b u → KeepsTree there new making (in_full b u)) same.bytes (claim (same.honest ∙ honest)) fills.kept)

-- what is kept of the tree that a text spells, whose files are in the folder of a world that lent what opens them
pub builds_text : {K N A : Type 0} (there : K → Device) (new : N → Device) (time : ℕ) (placement : AlignedPlacement) (files lent here later : FileMap) (folder text : List ℕ) (others : ℕ) (compiled : Compiled A)
    → SameFiles files lent → here ≡ seen_in folder others lent → SameFiles here later → (IsTrue here.honest → Spelled here.bytes text compiled)
    → (compiled.reservations.items ≡ [] → IsTrue later.honest → AreKept later.bytes (node_of compiled.tree.root) → KeepsEither there new (in_full later.bytes (node_of compiled.tree.root)) time placement)
    → IsTrue files.honest → others ≡ 0 → (t : Nodes) → Spells (words text) (in_folder folder files.bytes) t → KeepsEither there new t time placement
builds_text there new time placement files lent here later folder text others compiled same is still spelled keeps honest none t spells =
    let true_here = subst (λ (m : FileMap). IsTrue m.honest) (sym is) (alone lent.honest others (same.honest ∙ honest) none) in
    let bytes : here.bytes ≡ in_folder folder files.bytes = ap (λ (m : FileMap). m.bytes) is ∙ ap (λ (b : List ℕ → Option (List ℕ)). in_folder folder b) same.bytes in
    let it = spelled true_here t (subst (λ (b : List ℕ → Option (List ℕ)). Spells (words text) b t) (sym bytes) spells) in
    let kept = subst (λ (b : List ℕ → Option (List ℕ)). AreKept b (node_of compiled.tree.root)) (sym still.bytes) it.kept in
    let made = keeps it.bare (still.honest ∙ true_here) kept in
    subst (λ (u : Nodes). KeepsEither there new u time placement) it.tree
    (subst (λ (b : List ℕ → Option (List ℕ)). KeepsEither there new (in_full b (node_of compiled.tree.root)) time placement) still.bytes made)
