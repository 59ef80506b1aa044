-- The result of a build of a FIT image from its source.
use Rattle.std.specs.Prelude.{◌≡◌, ◌≤◌, ℕ, max, List, [], Option, Some, IsSome, Result, Ok, Err}
use Rattle.std.specs.{Prelude.{IsTrue, true, ⊤}, Bool.OnFalse}
use Rattle.uimg_base.specs.{Device.Device, Held.{Held, held_bytes}, Outcome.done}
use Rattle.uimg_base.specs.Sink.{Sink, AppendsAll, AppendsPrefix}
use Rattle.uimg_blob_reading.specs.{Counts.nodes_met, Faults.refuses_memory, Plain.Nodes}
use Rattle.uimg_blob_reading.specs.declared.fault.BlobFault.{BlobFault}
use Rattle.uimg_blob_writing.specs.Content.{Unread, AreKept, in_full}
use Rattle.uimg_its.specs.{Answers.is_outside_text, Grammar.Spells, Words.words}
use Rattle.uimg_its.specs.declared.fault.FaultKind.{FaultKind}
use Rattle.uimg_fit_building.specs.{BuildAnswers.{CanBuild, BuildsAnswer}, Building.built}
use Rattle.uimg_fit_building.specs.{FillAnswers.FillsAnswer, Filling.IsFilled, ReadsBack.ReadsBack}
use Rattle.uimg_fit_building.specs.Refusing.{fill_of}
use Rattle.uimg_fit_reading.specs.Listing.{list_of}
use Rattle.uimg_fit_base.specs.declared.fault.{Fault.Fault as FitEngineFault, FitFault.FitFault}
use Rattle.uimg_fit_base.specs.declared.placement.AlignedPlacement.{AlignedPlacement}
use Rattle.uimg_fit_base.specs.Files.{begins_as_blob}
use Rattle.uimg_fit_base.specs.declared.fault.Fault.TheVariants as fit
use Rattle.uimg_texts.specs.declared.naming.Naming.{Naming}
use Rattle.uimg_engine.specs.declared.fault.Fault.{Fault, TheVariants.{NoFile, Keep, OutOfMemory}}
use Rattle.uimg_engine.specs.declared.fault.Fault.TheVariants.{Legacy, Blob, Fit, Its, Read, Put}

-- The source has a text, whose words spell a tree.
pub record SpellsTree (files : List ℕ → Option (List ℕ)) (source : List ℕ) (t : Nodes)
    : Type 0 where
  pub text : List ℕ
  pub have : files source ≡ Some text
  pub spelled : Spells (words text) files t

-- The source has a text. If the reason of the refusal is in the text, its words spell no tree.
pub record RefusesText (files : List ℕ → Option (List ℕ)) (source : List ℕ) (kind : FaultKind)
    : Type 0 where
  pub text : List ℕ
  pub have : files source ≡ Some text
  -- of I5, I6 and I7 nothing is claimed
  pub none : OnFalse (is_outside_text kind) ((t : Nodes) → Spells (words text) files t → ⊥)

-- A tree is the spelled one, filled at a time.
pub record FillsTree (files : List ℕ → Option (List ℕ)) (source : List ℕ) (time : ℕ) (u : Nodes)
    : Type 0 where
  pub tree : Nodes
  pub spelled : SpellsTree files source tree
  pub filled : fill_of time tree ≡ Ok u

-- The spelled tree is not filled; a fault of filling says why.
pub record Unfilled (files : List ℕ → Option (List ℕ)) (source : List ℕ) (time : ℕ)
    (fault : FitFault) : Type 0 where
  pub tree : Unread
  pub spelled : SpellsTree files source (in_full files tree)
  pub stops : FillsAnswer {X = Unread} (λ t. t) files time tree (Err fault)

-- The spelled tree is filled, and its files are those of the source.
pub record FillsSource (files : List ℕ → Option (List ℕ)) (source : List ℕ) (time : ℕ) (u : Unread)
    : Type 0 where
  pub fills : FillsTree files source time (in_full files u)
  pub is_filled : IsFilled (in_full files u)
  pub kept : AreKept files u

-- What the result of building says of the filled tree.
pub record BuildsFilled {X : Type 0} (files : List ℕ → Option (List ℕ)) (source : List ℕ) (time : ℕ)
    (placement : AlignedPlacement) (result : Result X FitEngineFault) (s t : Sink) : Type 0 where
  pub tree : Nodes
  pub fills : FillsTree files source time tree
  pub builds : BuildsAnswer tree placement result s t

-- The filled tree can be built.
pub record AcceptsTree (files : List ℕ → Option (List ℕ)) (source : List ℕ) (time : ℕ)
    (placement : AlignedPlacement) (tree : Nodes) : Type 0 where
  pub fills : FillsTree files source time tree
  pub accepted : CanBuild tree placement

-- The image of the filled tree was appended, and reads back.
pub record BuildsTree (files : List ℕ → Option (List ℕ)) (source : List ℕ) (time : ℕ)
    (placement : AlignedPlacement) (s t : Sink) : Type 0 where
  pub tree : Nodes
  pub accepts : AcceptsTree files source time placement tree
  pub written : AppendsAll s t (built tree placement)
  pub reads_back : ReadsBack (built tree placement) tree

-- Why an image is refused for its images: the tree was not filled, and nothing was appended; or the
-- filled tree was not built.
pub data StopsAtImages (files : List ℕ → Option (List ℕ)) (source : List ℕ) (time : ℕ)
    (placement : AlignedPlacement) (fault : FitFault) (s t : Sink) : Type 0 where
  unfilled : Unfilled files source time fault → t ≡ s
      → StopsAtImages files source time placement fault s t
  unbuilt : BuildsFilled {X = ⊤} files source time placement (Err (fit.Fit fault)) s t
      → StopsAtImages files source time placement fault s t

-- Why a read failed in building: the text was not read, and nothing was appended; or a file was not
-- read while the image was written.
pub data StopsAtRead (files : List ℕ → Option (List ℕ)) (source : List ℕ) (time : ℕ)
    (placement : AlignedPlacement) (s t : Sink) : Type 0 where
  before : IsSome (files source) → t ≡ s → StopsAtRead files source time placement s t
  unwritten : BuildsFilled {X = ⊤} files source time placement (Err fit.Read) s t
      → StopsAtRead files source time placement s t

-- What the result says of the bytes of the source, if it exists: all of them, or why not.
abbrev pub ReadsSourceText : {X : Type 0} → (X → List ℕ) → Option (List ℕ) → Result X Fault → Type 0
ReadsSourceText view bytes (Ok x) = bytes ≡ Some (view x)
ReadsSourceText view bytes (Err Read) = IsSome bytes
ReadsSourceText view bytes (Err (NoFile i)) = i ≡ 0
ReadsSourceText view bytes (Err OutOfMemory) = ⊤
ReadsSourceText view bytes (Err _) = ⊥

-- What the result says of the source: the filled tree, or why there is none.
abbrev pub ReadsTree : {X : Type 0} → (X → Unread) → (List ℕ → Option (List ℕ)) → List ℕ → ℕ
    → Result X Fault → Type 0
ReadsTree view files source time (Ok x) = FillsSource files source time (view x)
ReadsTree view files source time (Err (Fit fault)) = Unfilled files source time fault
ReadsTree view files source time (Err (Its fault)) = RefusesText files source fault.kind
ReadsTree view files source time (Err Read) = IsSome (files source)
ReadsTree view files source time (Err (NoFile i)) = i ≡ 0
ReadsTree view files source time (Err OutOfMemory) = ⊤
ReadsTree view files source time (Err _) = ⊥

-- What the result of building says of the source and of what was appended: the image, or why not;
-- after a failed open, read or write, a prefix of it.
abbrev pub BuildsSource : {X : Type 0} → (List ℕ → Option (List ℕ)) → List ℕ → ℕ → AlignedPlacement
    → Result X Fault → Sink → Sink → Type 0
BuildsSource files source time placement (Ok x) s t = BuildsTree files source time placement s t
BuildsSource files source time placement (Err (Legacy fault)) s t = ⊥
BuildsSource files source time placement (Err (Blob fault at)) s t =
    BuildsFilled {X = ⊤} files source time placement (Err (fit.Blob fault at)) s t
BuildsSource files source time placement (Err (Fit fault)) s t =
    StopsAtImages files source time placement fault s t
BuildsSource files source time placement (Err (Its fault)) s t = RefusesText files source fault.kind
BuildsSource files source time placement (Err Read) s t =
    StopsAtRead files source time placement s t
BuildsSource files source time placement (Err Put) s t =
    BuildsFilled {X = ⊤} files source time placement (Err fit.Put) s t
BuildsSource files source time placement (Err (NoFile i)) s t = i ≡ 0
BuildsSource files source time placement (Err Keep) s t = ⊥
BuildsSource files source time placement (Err OutOfMemory) s t = ⊤

-- The image of the filled tree is kept, and reads back. Its first bytes mark it as a FIT image, and
-- its listing ends without a fault.
pub record KeepsTree (files : List ℕ → Option (List ℕ)) (source : List ℕ) (time : ℕ)
    (placement : AlignedPlacement) (kept : Device) : Type 0 where
  pub tree : Nodes
  -- the source spells a tree, this is that tree filled, and it can be built
  pub accepts : AcceptsTree files source time placement tree
  -- the source that is kept has the bytes of `built`
  pub bytes : kept.bytes ≡ built tree placement
  pub honest : IsTrue kept.honest
  pub reads_back : ReadsBack (built tree placement) tree
  pub is_fit : begins_as_blob (built tree placement) ≡ true
  pub done : (naming : Naming) → (list_of naming (built tree placement)).end ≡ done

-- The image of the filled tree is kept, and its whole listing was appended.
pub record MakesTree (naming : Naming) (files : List ℕ → Option (List ℕ)) (source : List ℕ)
    (time : ℕ) (placement : AlignedPlacement) (kept : Device) (s t : Sink) : Type 0 where
  pub keeps : KeepsTree files source time placement kept
  -- exactly its listing was appended
  pub listed : AppendsAll s t (list_of naming (built keeps.tree placement)).text

-- A prefix of the listing of the filled tree's image was appended.
pub record BreaksTree (naming : Naming) (files : List ℕ → Option (List ℕ)) (source : List ℕ)
    (time : ℕ) (placement : AlignedPlacement) (s t : Sink) : Type 0 where
  pub tree : Nodes
  pub accepts : AcceptsTree files source time placement tree
  pub prefix : AppendsPrefix s t (list_of naming (built tree placement)).text

-- Why a blob is refused: a name of the filled tree is bad, or the listing was refused memory for
-- the table of nodes.
pub data StopsAtBlob (naming : Naming) (files : List ℕ → Option (List ℕ)) (source : List ℕ)
    (time : ℕ) (placement : AlignedPlacement) (fault : BlobFault) (at : ℕ) (s t : Sink)
    : Type 0 where
  unnamed : BuildsFilled {X = ⊤} files source time placement (Err (fit.Blob fault at)) s t → t ≡ s
      → StopsAtBlob naming files source time placement fault at s t
  no_table : IsTrue (refuses_memory fault) → BreaksTree naming files source time placement s t
      → StopsAtBlob naming files source time placement fault at s t

-- Why a read failed in making: the text was not read, and nothing was listed; or a read of a file,
-- or of what was kept, failed.
pub data StopsReading (naming : Naming) (files : List ℕ → Option (List ℕ)) (source : List ℕ)
    (time : ℕ) (placement : AlignedPlacement) (s t : Sink) : Type 0 where
  unread : IsSome (files source) → t ≡ s → StopsReading naming files source time placement s t
  unlisted : BreaksTree naming files source time placement s t
      → StopsReading naming files source time placement s t

-- what a fault of making a FIT image says of the source, and of the listing
abbrev pub StopsSource : Naming → (List ℕ → Option (List ℕ)) → List ℕ → ℕ → AlignedPlacement → Fault
    → Sink → Sink → Type 0
StopsSource naming files source time placement (Legacy fault) s t = ⊥
StopsSource naming files source time placement (Blob fault at) s t =
    StopsAtBlob naming files source time placement fault at s t
StopsSource naming files source time placement (Fit fault) s t =
    StopsAtImages files source time placement fault s t × (t ≡ s)
StopsSource naming files source time placement (Its fault) s t =
    RefusesText files source fault.kind × (t ≡ s)
StopsSource naming files source time placement Read s t =
    StopsReading naming files source time placement s t
StopsSource naming files source time placement Put s t =
    BreaksTree naming files source time placement s t
StopsSource naming files source time placement (NoFile i) s t = (i ≡ 0) × (t ≡ s)
StopsSource naming files source time placement Keep s t =
    ((tree : Nodes) × AcceptsTree files source time placement tree) × (t ≡ s)
StopsSource naming files source time placement OutOfMemory s t = t ≡ s

-- The result is the kept image, with its listing appended, or a fault of making it.
abbrev pub MakesSource : {K : Type 0} → (K → Device) → Naming → (List ℕ → Option (List ℕ)) → List ℕ
    → ℕ → AlignedPlacement → Result K Fault → Sink → Sink → Type 0
MakesSource device naming files source time placement (Ok kept) s t =
    MakesTree naming files source time placement (device kept) s t
MakesSource device naming files source time placement (Err fault) s t =
    StopsSource naming files source time placement fault s t

-- The room took memory for no more than the nodes of the filled tree's image.
pub record HoldsNodes (files : List ℕ → Option (List ℕ)) (source : List ℕ) (time : ℕ)
    (placement : AlignedPlacement) (old new : Held) : Type 0 where
  pub tree : Nodes
  pub accepts : AcceptsTree files source time placement tree
  pub peak : new.peak ≤ max old.peak (held_bytes (nodes_met (built tree placement)))

-- What the making of an image does to a room, at any exit: it only cleared it, or it took memory
-- for the nodes of an image that can be built.
pub data HoldsSource (files : List ℕ → Option (List ℕ)) (source : List ℕ) (time : ℕ)
    (placement : AlignedPlacement) (old new : Held) : Type 0 where
  only_cleared : new ≡ record old { entries = [] } → HoldsSource files source time placement old new
  for_nodes : HoldsNodes files source time placement old new
      → HoldsSource files source time placement old new
