-- The tree of a source, and what its reading and its building say.
use Rattle.std.proofs.Common.{◌≡◌, ℕ, length, nat_lt, List, Option, None, Some, IfSome, Err, Bool, true, false, IsTrue, if◌then◌else◌, ◌∙◌, sym, subst, refl}
use Rattle.std.specs.Bool.{OnFalse, ⊤}
use Rattle.uimg_base.specs.{Device.{Rose, RisesIf}, Named.{FileMap, SameFiles}}
use Rattle.uimg_base.specs.Sink.{Sink, AppendsAll}
use Rattle.uimg_blob_reading.specs.Plain.{Nodes}
use Rattle.uimg_blob_writing.specs.{Content.{Unread, AreKept, in_full}, UsingFiles.UsesFiles}
use Rattle.uimg_its.specs.{Answers.is_outside_text, Grammar.Spells, Words.words}
use Rattle.uimg_its.specs.declared.fault.FaultKind.{FaultKind}
use Rattle.uimg_fit_base.specs.declared.fault.{Fault.Fault as FitEngineFault, FitFault.FitFault}
use Rattle.uimg_fit_base.specs.declared.placement.AlignedPlacement.{AlignedPlacement}
use Rattle.uimg_fit_base.specs.Faults.{is_read as fit_is_read}
use Rattle.uimg_fit_base.specs.declared.fault.Fault.TheVariants as fit
use Rattle.uimg_fit_base.specs.declared.fault.FitFault.TheVariants as fit_fault
use Rattle.uimg_fit_building.specs.BuildAnswers.{is_no_file as fit_is_no_file, CanBuild, BuildsAnswer}
use Rattle.uimg_fit_building.specs.{Building.{placed_blob, built}, Filling.IsFilled}
use Rattle.uimg_fit_building.specs.FillAnswers.{opens_no_file, fails_to_read, Fills, FillsAnswer}
use Rattle.uimg_fit_building.specs.{ReadsBack.ReadsBack, Refusing.{is_low, build_fault, fault_with}}
use Rattle.uimg_engine.specs.{declared.fault.Fault.Fault, Commands.{LacksSource, OpensSource}}
use Rattle.uimg_engine.specs.Faults.{of_fit, is_unread, is_no_text, is_no_payload, refuses_payload, is_lost_payload, loses_payload}
use Rattle.uimg_engine.specs.MakingTrees.{SpellsTree, RefusesText, FillsTree, Unfilled, FillsSource, BuildsTree, BuildsSource, unbuilt, unwritten}

-- files that are the same
pub same_twice : {a b d : FileMap} → SameFiles a b → SameFiles b d → SameFiles a d
same_twice p q = record { bytes = q.bytes ∙ p.bytes; honest = q.honest ∙ p.honest; complete = q.complete ∙ p.complete }

pub still_honest : {a b : FileMap} → SameFiles a b → IsTrue a.honest → IsTrue b.honest
still_honest same honest = subst (λ (h : Bool). IsTrue h) (sym same.honest) honest

pub still_complete : {a b : FileMap} → SameFiles a b → IsTrue a.complete → IsTrue b.complete
still_complete same complete = subst (λ (h : Bool). IsTrue h) (sym same.complete) complete

none_by : (b : Bool) (P : Nodes → Type 0) → ((t : Nodes) → P t → IsTrue b) → OnFalse b ((t : Nodes) → P t → ⊥)
none_by true P h = tt
none_by false P h = λ t p. let e : false ≡ true = h t p in absurd (cc)

-- a text that is refused
pub refused_text : (a b : FileMap) (source text now : List ℕ) (kind : FaultKind) → SameFiles a b → now ≡ text → IsTrue a.honest → a.bytes source ≡ Some text → (IsTrue b.honest → (t : Nodes) → Spells (words now) b.bytes t → IsTrue (is_outside_text kind)) → RefusesText a.bytes source kind
refused_text a b source text now kind same is honest have accepted =
    let at_text = subst (λ (bs : List ℕ). (t : Nodes) → Spells (words bs) b.bytes t → IsTrue (is_outside_text kind)) is (accepted (still_honest same honest)) in
    let at_files = subst (λ (files : List ℕ → Option (List ℕ)). (t : Nodes) → Spells (words text) files t → IsTrue (is_outside_text kind)) same.bytes at_text in
    record { text = text; have = have; none = none_by (is_outside_text kind) (λ (t : Nodes). Spells (words text) a.bytes t) at_files }

-- a tree that is spelled
pub spelled_tree : (a b : FileMap) (source text now : List ℕ) (t : Unread) → SameFiles a b → now ≡ text → IsTrue a.honest → a.bytes source ≡ Some text → (IsTrue b.honest → Spells (words now) b.bytes (in_full b.bytes t)) → SpellsTree a.bytes source (in_full a.bytes t)
spelled_tree a b source text now t same is honest have only =
    let at_text = subst (λ (bs : List ℕ). Spells (words bs) b.bytes (in_full b.bytes t)) is (only (still_honest same honest)) in
    record {
      text = text;
      have = have;
      spelled = subst (λ (files : List ℕ → Option (List ℕ)). Spells (words text) files (in_full files t)) same.bytes at_text;
    }

-- the files of a tree, kept by files that are the same
pub kept_by : {a b : FileMap} (t : Unread) → SameFiles a b → AreKept a.bytes t → AreKept b.bytes t
kept_by t same kept = subst (λ (files : List ℕ → Option (List ℕ)). AreKept files t) (sym same.bytes) kept

-- a tree that is filled
pub filled_source_of : (a d : FileMap) (source : List ℕ) (time : ℕ) (t u : Unread) → SameFiles a d → IsTrue a.honest → SpellsTree a.bytes source (in_full a.bytes t) → AreKept a.bytes t → (IsTrue d.honest → AreKept d.bytes t → Fills d.bytes time t u) → FillsSource a.bytes source time u
filled_source_of a d source time t u same honest spelled kept filled =
    let fills = subst (λ (files : List ℕ → Option (List ℕ)). Fills files time t u) same.bytes (filled (still_honest same honest) (kept_by t same kept)) in
    record {
      fills = record { tree = in_full a.bytes t; spelled = spelled; filled = fills.accepted };
      is_filled = fills.is_filled;
      kept = fills.kept;
    }

-- a fault of filling, whatever is answered else
fault_of_filling : {X : Type 0} (view : X → Unread) (files : List ℕ → Option (List ℕ)) (time : ℕ) (t : Unread) (f : FitFault) → FillsAnswer view files time t (Err f) → FillsAnswer {X = Unread} (λ u. u) files time t (Err f)
fault_of_filling view files time t fit_fault.NoImages h = h
fault_of_filling view files time t fit_fault.NoData h = h
fault_of_filling view files time t fit_fault.DataOutside h = h
fault_of_filling view files time t fit_fault.NoSuchImage h = h
fault_of_filling view files time t fit_fault.UnknownAlgo h = h
fault_of_filling view files time t fit_fault.PositionTooLow h = h
fault_of_filling view files time t fit_fault.TooLarge h = h
fault_of_filling view files time t fit_fault.OutOfMemory h = h
fault_of_filling view files time t fit_fault.NoFile h = h
fault_of_filling view files time t fit_fault.ReadFailed h = h

-- a tree that is not filled
pub unfilled_source : {X : Type 0} (view : X → Unread) (a d : FileMap) (source : List ℕ) (time : ℕ) (t : Unread) (f : FitFault) → SameFiles a d → IsTrue a.honest → SpellsTree a.bytes source (in_full a.bytes t) → AreKept a.bytes t → (IsTrue d.honest → AreKept d.bytes t → FillsAnswer view d.bytes time t (Err f)) → Unfilled a.bytes source time f
unfilled_source view a d source time t f same honest spelled kept filled =
    let stops = subst (λ (files : List ℕ → Option (List ℕ)). FillsAnswer view files time t (Err f)) same.bytes (filled (still_honest same honest) (kept_by t same kept)) in
    record { tree = t; spelled = spelled; stops = fault_of_filling view a.bytes time t f stops }

-- what refuses a payload's file
pub payload_of_filling : (X : Type 0) (f : FitFault) → refuses_payload f ≡ opens_no_file {X = X} (Err f)
payload_of_filling X fit_fault.NoImages = refl
payload_of_filling X fit_fault.NoData = refl
payload_of_filling X fit_fault.DataOutside = refl
payload_of_filling X fit_fault.NoSuchImage = refl
payload_of_filling X fit_fault.UnknownAlgo = refl
payload_of_filling X fit_fault.PositionTooLow = refl
payload_of_filling X fit_fault.TooLarge = refl
payload_of_filling X fit_fault.OutOfMemory = refl
payload_of_filling X fit_fault.NoFile = refl
payload_of_filling X fit_fault.ReadFailed = refl

payload_of_fit : (X Y : Type 0) (f : FitFault) → refuses_payload f ≡ fit_is_no_file {X = Y} (Err (fit.Fit f))
payload_of_fit X Y fit_fault.NoImages = refl
payload_of_fit X Y fit_fault.NoData = refl
payload_of_fit X Y fit_fault.DataOutside = refl
payload_of_fit X Y fit_fault.NoSuchImage = refl
payload_of_fit X Y fit_fault.UnknownAlgo = refl
payload_of_fit X Y fit_fault.PositionTooLow = refl
payload_of_fit X Y fit_fault.TooLarge = refl
payload_of_fit X Y fit_fault.OutOfMemory = refl
payload_of_fit X Y fit_fault.NoFile = refl
payload_of_fit X Y fit_fault.ReadFailed = refl

pub payload_of_building : (X Y : Type 0) (fault : FitEngineFault) → is_no_payload {X = X} (Err (of_fit fault)) ≡ fit_is_no_file {X = Y} (Err fault)
payload_of_building X Y (fit.Blob f at) = refl
payload_of_building X Y (fit.Fit f) = payload_of_fit X Y f
payload_of_building X Y fit.Read = refl
payload_of_building X Y fit.Put = refl

pub text_of_building : (X : Type 0) (fault : FitEngineFault) → is_no_text {X = X} (Err (of_fit fault)) ≡ false
text_of_building X (fit.Blob f at) = refl
text_of_building X (fit.Fit f) = refl
text_of_building X fit.Read = refl
text_of_building X fit.Put = refl

pub lacks_of_building : (files : List ℕ → Option (List ℕ)) (source : List ℕ) (fault : FitEngineFault) → LacksSource files source (of_fit fault)
lacks_of_building files source (fit.Blob f at) = tt
lacks_of_building files source (fit.Fit f) = tt
lacks_of_building files source fit.Read = tt
lacks_of_building files source fit.Put = tt

pub read_of_building : (X Y : Type 0) (fault : FitEngineFault) → fit_is_read {X = Y} (Err fault) ≡ false → is_unread {X = X} (Err (of_fit fault)) ≡ false
read_of_building X Y (fit.Blob f at) h = refl
read_of_building X Y (fit.Fit f) h = refl
read_of_building X Y fit.Read h = h
read_of_building X Y fit.Put h = refl

-- what loses a payload's file
pub lost_of_filling : (X : Type 0) (f : FitFault) → loses_payload f ≡ fails_to_read {X = X} (Err f)
lost_of_filling X fit_fault.NoImages = refl
lost_of_filling X fit_fault.NoData = refl
lost_of_filling X fit_fault.DataOutside = refl
lost_of_filling X fit_fault.NoSuchImage = refl
lost_of_filling X fit_fault.UnknownAlgo = refl
lost_of_filling X fit_fault.PositionTooLow = refl
lost_of_filling X fit_fault.TooLarge = refl
lost_of_filling X fit_fault.OutOfMemory = refl
lost_of_filling X fit_fault.NoFile = refl
lost_of_filling X fit_fault.ReadFailed = refl

-- no building does
abbrev KeepsPayload : Option FitFault → Type 0
KeepsPayload fault = IfSome fault (λ f. loses_payload f ≡ false)

kept_payload : (a b c : Bool) → KeepsPayload (if a then Some fit_fault.TooLarge else if b then Some fit_fault.PositionTooLow else if c then Some fit_fault.TooLarge else None)
kept_payload true b c = refl
kept_payload false true c = refl
kept_payload false false true = refl
kept_payload false false false = tt

keeps_payload : (t : Nodes) (placement : AlignedPlacement) → KeepsPayload (build_fault t placement)
unfolding fault_with
keeps_payload t placement =
    kept_payload (nat_lt 4294967295 (length (placed_blob t placement))) (is_low (length (placed_blob t placement)) placement) (nat_lt 4294967295 (length (built t placement)))

lost_by : (t : Nodes) (placement : AlignedPlacement) (f : FitFault) (s u : Sink) → BuildsAnswer {X = ⊤} t placement (Err (fit.Fit f)) s u → loses_payload f ≡ false
lost_by t placement fit_fault.NoImages s u builds = refl
lost_by t placement fit_fault.NoData s u builds = refl
lost_by t placement fit_fault.DataOutside s u builds = refl
lost_by t placement fit_fault.NoSuchImage s u builds = refl
lost_by t placement fit_fault.UnknownAlgo s u builds = refl
lost_by t placement fit_fault.PositionTooLow s u builds = refl
lost_by t placement fit_fault.TooLarge s u builds = refl
lost_by t placement fit_fault.OutOfMemory s u builds = refl
lost_by t placement fit_fault.NoFile s u builds = refl
lost_by t placement fit_fault.ReadFailed s u builds = subst KeepsPayload builds.1 (keeps_payload t placement)

pub lost_of_building : (X : Type 0) (t : Nodes) (placement : AlignedPlacement) (fault : FitEngineFault) (s u : Sink) → BuildsAnswer {X = ⊤} t placement (Err fault) s u → is_lost_payload {X = X} (Err (of_fit fault)) ≡ false
lost_of_building X t placement (fit.Blob f at) s u builds = refl
lost_of_building X t placement (fit.Fit f) s u builds = lost_by t placement f s u builds
lost_of_building X t placement fit.Read s u builds = refl
lost_of_building X t placement fit.Put s u builds = refl

stays_by : (b : Bool) (old new : ℕ) → RisesIf b old new → OnFalse b (new ≡ old)
stays_by true old new h = tt
stays_by false old new h = h

rose_by : (b : Bool) (old new : ℕ) → RisesIf b old new → IsTrue b → Rose old new
rose_by true old new h t = h
rose_by false old new h t = let e : false ≡ true = t in absurd (cc)

-- files of which only the last call may have refused one, a payload's
pub opens_last : {X : Type 0} (source : List ℕ) (fault : Fault) (refused : Bool) (a b d : FileMap) → is_no_payload {X = X} (Err fault) ≡ refused → is_no_text {X = X} (Err fault) ≡ false → LacksSource a.bytes source fault → SameFiles a b → b.refusals ≡ a.refusals → UsesFiles refused b d → (IsTrue a.complete → IsTrue a.honest → refused ≡ false) → OpensSource {X = X} source (Err fault) a d
opens_last {X = X} source fault refused a b d payload text lacks same stayed uses found =
    let rises = subst (λ (n : ℕ). RisesIf refused n d.refusals) stayed uses.refusals in
    record {
      same = same_twice same uses.same;
      text = subst (λ (p : Bool). OnFalse p (RisesIf (is_no_text {X = X} (Err fault)) a.refusals d.refusals)) (sym payload)
          (subst (λ (t : Bool). OnFalse refused (RisesIf t a.refusals d.refusals)) (sym text) (stays_by refused a.refusals d.refusals rises));
      payload = λ is. rose_by refused a.refusals d.refusals rises (subst (λ (p : Bool). IsTrue p) payload is);
      missing = λ complete. lacks;
      found = λ complete honest. payload ∙ found complete honest;
    }

-- an image that is built
pub built_source : (a b : FileMap) (source : List ℕ) (time : ℕ) (placement : AlignedPlacement) (u : Unread) (s t : Sink) → SameFiles a b → IsTrue a.honest → FillsSource a.bytes source time u
    → (IsTrue b.honest → AreKept b.bytes u → CanBuild (in_full b.bytes u) placement × AppendsAll s t (built (in_full b.bytes u) placement))
    → (IsTrue b.honest → AreKept b.bytes u → IsFilled (in_full b.bytes u) → ReadsBack (built (in_full b.bytes u) placement) (in_full b.bytes u))
    → BuildsTree a.bytes source time placement s t
built_source a b source time placement u s t same honest fills builds reads_back =
    let h = still_honest same honest in
    let kept = kept_by u same fills.kept in
    let filled = subst (λ (files : List ℕ → Option (List ℕ)). IsFilled (in_full files u)) (sym same.bytes) fills.is_filled in
    let image = subst (λ (files : List ℕ → Option (List ℕ)). CanBuild (in_full files u) placement × AppendsAll s t (built (in_full files u) placement)) same.bytes (builds h kept) in
    let back = subst (λ (files : List ℕ → Option (List ℕ)). ReadsBack (built (in_full files u) placement) (in_full files u)) same.bytes (reads_back h kept filled) in
    record {
      tree = in_full a.bytes u;
      accepts = record { fills = fills.fills; accepted = image.0 };
      written = image.1;
      reads_back = back;
    }

fault_of_building : (files : List ℕ → Option (List ℕ)) (source : List ℕ) (time : ℕ) (placement : AlignedPlacement) (u : Nodes) (fault : FitEngineFault) (s t : Sink) → FillsTree files source time u → BuildsAnswer {X = ⊤} u placement (Err fault) s t → BuildsSource {X = ⊤} files source time placement (Err (of_fit fault)) s t
fault_of_building files source time placement u (fit.Blob f at) s t fills builds = record { tree = u; fills = fills; builds = builds }
fault_of_building files source time placement u (fit.Fit f) s t fills builds = unbuilt (record { tree = u; fills = fills; builds = builds })
fault_of_building files source time placement u fit.Read s t fills builds = unwritten (record { tree = u; fills = fills; builds = builds })
fault_of_building files source time placement u fit.Put s t fills builds = record { tree = u; fills = fills; builds = builds }

-- an image that is not built
pub unbuilt_source : (a b : FileMap) (source : List ℕ) (time : ℕ) (placement : AlignedPlacement) (u : Unread) (fault : FitEngineFault) (s t : Sink) → SameFiles a b → IsTrue a.honest → FillsSource a.bytes source time u
    → (IsTrue b.honest → AreKept b.bytes u → BuildsAnswer {X = ⊤} (in_full b.bytes u) placement (Err fault) s t)
    → BuildsSource {X = ⊤} a.bytes source time placement (Err (of_fit fault)) s t
unbuilt_source a b source time placement u fault s t same honest fills builds =
    let stops = subst (λ (files : List ℕ → Option (List ℕ)). BuildsAnswer {X = ⊤} (in_full files u) placement (Err fault) s t) same.bytes (builds (still_honest same honest) (kept_by u same fills.kept)) in
    fault_of_building a.bytes source time placement (in_full a.bytes u) fault s t fills.fills stops
