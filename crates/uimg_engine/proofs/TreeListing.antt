-- What was made of a source is kept and listed.
use Rattle.std.proofs.Common.{◌≡◌, ◌≤◌, ℕ, length, arith, List, [], ◌∷◌, Option, IfSome, None, Some, Result, Ok, Err, Bool, true, false, IsTrue, if◌then◌else◌, ◌∙◌, ap, sym, subst, refl}
use Rattle.std.{specs.{Bool.⊤, Option.option_or}, proofs.lemmas.Bool.le-ltb}
use Rattle.uimg_base.specs.{Device.{Device, SameDevice}, Results.◌>>=◌, Sink.{Sink, AppendsPrefix}}
use Rattle.uimg_base.specs.Outcome.{Outcome, done, refused, Tells, unless_refused, after}
use Rattle.uimg_base.specs.declared.status.Status.{Status}
use Rattle.uimg_base.proofs.SinkLaws.{prefix_none, appended_to_nothing}
use Rattle.uimg_texts.specs.Numbers.{be32}
use Rattle.uimg_blob_reading.specs.{Faults.refuses_memory, LookUps.{NodeOf, images}}
use Rattle.uimg_blob_reading.specs.{Plain.{NamedOf, NodesOf, Nodes, no_node, a_node}, Spots.Spot}
use Rattle.uimg_blob_reading.specs.declared.fault.BlobFault.{BlobFault}
use Rattle.uimg_blob_reading.specs.declared.fault.BlobFault.TheVariants.{BadNodeName, BadPropertyName}
use Rattle.uimg_blob_writing.specs.{Encoding.blob, Measured.{is_name, bad_property, bad_name}}
use Rattle.uimg_fit_base.specs.declared.fault.{Fault.Fault as FitEngineFault, FitFault.FitFault}
use Rattle.uimg_fit_base.specs.declared.placement.AlignedPlacement.{AlignedPlacement}
use Rattle.uimg_fit_base.specs.Files.{tree_of, root_own, listed_or, begins_as_blob}
use Rattle.uimg_fit_base.specs.Report.{report, verify_of}
use Rattle.uimg_fit_base.specs.declared.fault.Fault.TheVariants as fit
use Rattle.uimg_fit_base.specs.declared.fault.FitFault.TheVariants as fit_fault
use Rattle.uimg_fit_building.specs.{BuildAnswers.BuildsAnswer, Building.built}
use Rattle.uimg_fit_reading.specs.Listing.{head_lines, lists, list_of}
use Rattle.uimg_requests.specs.declared.command.Action.TheVariants as action
use Rattle.uimg_requests.specs.declared.command.Form.TheVariants as form
use Rattle.uimg_texts.specs.declared.naming.Naming.{Naming}
use Rattle.uimg_engine.specs.declared.fault.Fault.{Fault}
use Rattle.uimg_engine.specs.Faults.{end_of, unless_memory, of_fit, is_of_making, is_no_memory}
use Rattle.uimg_engine.specs.Headline.{end_as, outcome_as, outcome_in, outcome_of}
use Rattle.uimg_engine.specs.declared.fault.Fault.TheVariants.{Legacy, Blob, Fit, Its, Read, Put, NoFile, Keep, OutOfMemory}
use Rattle.uimg_engine.specs.MakingTrees.{BuildsTree, StopsAtImages, unfilled, unbuilt, StopsAtRead, before, unwritten, StopsReading, unread, unlisted, BuildsSource, KeepsTree, MakesTree, BreaksTree, StopsAtBlob, unnamed, no_table, StopsSource}
use Rattle.uimg_engine.proofs.MakingLaws.{all_told}

-- What is built begins as a blob.
begins : (rest : List ℕ) → begins_as_blob (208 ∷ 13 ∷ 254 ∷ 237 ∷ rest) ≡ true
unfolding begins_as_blob be32
begins rest =
    let long : 4 ≤ length (208 ∷ 13 ∷ 254 ∷ 237 ∷ rest) = omega arith in
    rw (le-ltb (length (208 ∷ 13 ∷ 254 ∷ 237 ∷ rest)) 4 long) refl

built_is_fit : (u : Nodes) (placement : AlignedPlacement) → begins_as_blob (built u placement) ≡ true
unfolding blob
built_is_fit u placement = begins _

lists_done : (naming : Naming) (file : List ℕ) (t : NodesOf Spot) (found : Option (List (NodeOf Spot))) → (unless_refused (listed_or found) (report file)).end ≡ done → (after (head_lines (root_own t)) (lists naming file t found)).end ≡ done
lists_done naming file t (Some found) h = refl
lists_done naming file t None h = absurd (cc)

list_done_by : (naming : Naming) (file : List ℕ) (r : Result (NodesOf Spot) FitEngineFault) → (unless_refused (r >>= (λ t. listed_or (images t))) (report file)).end ≡ done → (unless_refused r (λ t. after (head_lines (root_own t)) (lists naming file t (images t)))).end ≡ done
list_done_by naming file (Ok t) h = lists_done naming file t (images t) h
list_done_by naming file (Err f) h = absurd (cc)

-- The listing of what verifies ends well.
list_done : (naming : Naming) (file : List ℕ) → (verify_of file).end ≡ done → (list_of naming file).end ≡ done
list_done naming file h = list_done_by naming file (tree_of file) h

-- an image that was built on an empty shelf, and kept
pub keeping_tree : (files : List ℕ → Option (List ℕ)) (source : List ℕ) (time : ℕ) (placement : AlignedPlacement) (image now : Sink) (kept : Device) → BuildsTree files source time placement image now → image.contents ≡ Some [] → now.contents ≡ Some kept.bytes → IsTrue kept.honest → KeepsTree files source time placement kept
keeping_tree files source time placement image now kept builds empty whole honest =
    record {
      tree = builds.tree;
      accepts = builds.accepts;
      bytes = appended_to_nothing image now kept.bytes _ empty whole builds.written;
      honest = honest;
      reads_back = builds.reads_back;
      is_fit = built_is_fit builds.tree placement;
      done = λ naming. list_done naming _ builds.reads_back.report;
    }

-- what was kept is listed as a FIT image
told_as_fit : (naming : Naming) (file image : List ℕ) (r : Result Status Fault) (s t : Sink) → file ≡ image → begins_as_blob image ≡ true → Tells (end_of r) (outcome_of naming (record { action = action.List; form = form.Guess }) file) s t → Tells (end_of r) (outcome_as of_fit (list_of naming image)) s t
told_as_fit naming file image r s t same begins told =
    subst (λ (is_fit : Bool). Tells (end_of r) (outcome_in naming is_fit action.List image) s t) begins
    (subst (λ (bytes : List ℕ). Tells (end_of r) (outcome_of naming (record { action = action.List; form = form.Guess }) bytes) s t) same told)

-- what is kept, and then listed
pub listing_makes_tree : (naming : Naming) (files : List ℕ → Option (List ℕ)) (source : List ℕ) (time : ℕ) (placement : AlignedPlacement) (kept now : Device) (status : Status) (s t : Sink) → KeepsTree files source time placement kept → SameDevice kept now → Tells (end_of (Ok status)) (outcome_of naming (record { action = action.List; form = form.Guess }) kept.bytes) s t → MakesTree naming files source time placement now s t
listing_makes_tree naming files source time placement kept now status s t keeps same told =
    record {
      keeps = record {
        tree = keeps.tree;
        accepts = keeps.accepts;
        bytes = same.bytes ∙ keeps.bytes;
        honest = subst (λ (b : Bool). IsTrue b) (sym same.honest) keeps.honest;
        reads_back = keeps.reads_back;
        is_fit = keeps.is_fit;
        done = keeps.done;
      };
      listed = all_told status (outcome_as of_fit (list_of naming (built keeps.tree placement))) s t (told_as_fit naming kept.bytes _ (Ok status) s t keeps.bytes keeps.is_fit told);
    }

-- a listing that ends well is not refused
not_done : (o : Outcome FitEngineFault) (f : Fault) (s t : Sink) → o.end ≡ done → Tells (Some (refused f)) (outcome_as of_fit o) s t → ⊥
not_done o f s t ends told = let e : refused f ≡ done = sym told.0 ∙ ap (end_as of_fit) ends in absurd (cc)

broken : (naming : Naming) (files : List ℕ → Option (List ℕ)) (source : List ℕ) (time : ℕ) (placement : AlignedPlacement) (kept : Device) (s t : Sink) (keeps : KeepsTree files source time placement kept) → AppendsPrefix s t (list_of naming (built keeps.tree placement)).text → BreaksTree naming files source time placement s t
broken naming files source time placement kept s t keeps prefix = record { tree = keeps.tree; accepts = keeps.accepts; prefix = prefix }

table_refused : (naming : Naming) (b : Bool) (files : List ℕ → Option (List ℕ)) (source : List ℕ) (time : ℕ) (placement : AlignedPlacement) (kept : Device) (f : BlobFault) (at : ℕ) (s t : Sink) → b ≡ refuses_memory f → (keeps : KeepsTree files source time placement kept) → Tells (unless_memory b (refused (Blob f at))) (outcome_as of_fit (list_of naming (built keeps.tree placement))) s t → StopsAtBlob naming files source time placement f at s t
table_refused naming true files source time placement kept f at s t is keeps told = no_table (sym is) (broken naming files source time placement kept s t keeps told)
table_refused naming false files source time placement kept f at s t is keeps told = absurd (not_done _ _ s t (keeps.done naming) told)

-- why the listing of what was kept stops
listing_stops_by : (naming : Naming) (files : List ℕ → Option (List ℕ)) (source : List ℕ) (time : ℕ) (placement : AlignedPlacement) (kept : Device) (f : Fault) (s t : Sink) (keeps : KeepsTree files source time placement kept) → is_of_making {X = Status} (Err f) ≡ false → Tells (end_of (Err f)) (outcome_as of_fit (list_of naming (built keeps.tree placement))) s t → StopsSource naming files source time placement f s t
listing_stops_by naming files source time placement kept (Legacy f) s t keeps not told = absurd (not_done _ _ s t (keeps.done naming) told)
listing_stops_by naming files source time placement kept (Blob f at) s t keeps not told = table_refused naming (refuses_memory f) files source time placement kept f at s t refl keeps told
listing_stops_by naming files source time placement kept (Fit f) s t keeps not told = absurd (not_done _ _ s t (keeps.done naming) told)
listing_stops_by naming files source time placement kept (Its f) s t keeps not told = absurd (not_done _ _ s t (keeps.done naming) told)
listing_stops_by naming files source time placement kept Read s t keeps not told = unlisted (broken naming files source time placement kept s t keeps told)
listing_stops_by naming files source time placement kept Put s t keeps not told = broken naming files source time placement kept s t keeps told
listing_stops_by naming files source time placement kept (NoFile i) s t keeps not told = absurd (not_done _ _ s t (keeps.done naming) told)
listing_stops_by naming files source time placement kept Keep s t keeps not told = absurd (not_done _ _ s t (keeps.done naming) told)
listing_stops_by naming files source time placement kept OutOfMemory s t keeps not told = absurd (not_done _ _ s t (keeps.done naming) told)

pub listing_stops_tree : (naming : Naming) (files : List ℕ → Option (List ℕ)) (source : List ℕ) (time : ℕ) (placement : AlignedPlacement) (kept : Device) (f : Fault) (s t : Sink) → KeepsTree files source time placement kept → is_of_making {X = Status} (Err f) ≡ false → Tells (end_of (Err f)) (outcome_of naming (record { action = action.List; form = form.Guess }) kept.bytes) s t → StopsSource naming files source time placement f s t
listing_stops_tree naming files source time placement kept f s t keeps not told =
    listing_stops_by naming files source time placement kept f s t keeps not (told_as_fit naming kept.bytes _ (Err f) s t keeps.bytes keeps.is_fit told)

-- why an image is not built, where nothing is listed
same_stop : (u : Nodes) (placement : AlignedPlacement) (f : FitFault) (image now s : Sink) → BuildsAnswer {X = ⊤} u placement (Err (fit.Fit f)) image now → BuildsAnswer {X = ⊤} u placement (Err (fit.Fit f)) s s
same_stop u placement fit_fault.NoImages image now s h = h
same_stop u placement fit_fault.NoData image now s h = h
same_stop u placement fit_fault.DataOutside image now s h = h
same_stop u placement fit_fault.NoSuchImage image now s h = h
same_stop u placement fit_fault.UnknownAlgo image now s h = h
same_stop u placement fit_fault.PositionTooLow image now s h = h
same_stop u placement fit_fault.TooLarge image now s h = h
same_stop u placement fit_fault.OutOfMemory image now s h = h
same_stop u placement fit_fault.NoFile image now s h = (h.0, prefix_none s _)
same_stop u placement fit_fault.ReadFailed image now s h = h

stops_at_images : (files : List ℕ → Option (List ℕ)) (source : List ℕ) (time : ℕ) (placement : AlignedPlacement) (f : FitFault) (image now s : Sink) → StopsAtImages files source time placement f image now → StopsAtImages files source time placement f s s
stops_at_images files source time placement f image now s (unfilled u e) = unfilled u refl
stops_at_images files source time placement f image now s (unbuilt b) = unbuilt (record { tree = b.tree; fills = b.fills; builds = same_stop b.tree placement f image now s b.builds })

stops_reading : (naming : Naming) (files : List ℕ → Option (List ℕ)) (source : List ℕ) (time : ℕ) (placement : AlignedPlacement) (image now s : Sink) → StopsAtRead files source time placement image now → StopsReading naming files source time placement s s
stops_reading naming files source time placement image now s (before there e) = unread there refl
stops_reading naming files source time placement image now s (unwritten b) =
    unlisted (record { tree = b.tree; accepts = record { fills = b.fills; accepted = b.builds.0 }; prefix = prefix_none s _ })

pub building_stops_tree : (X : Type 0) (naming : Naming) (files : List ℕ → Option (List ℕ)) (source : List ℕ) (time : ℕ) (placement : AlignedPlacement) (f : Fault) (image now s : Sink) → BuildsSource {X = X} files source time placement (Err f) image now → StopsSource naming files source time placement f s s
building_stops_tree X naming files source time placement (Legacy f) image now s stop = absurd stop
building_stops_tree X naming files source time placement (Blob f at) image now s stop = unnamed (record { tree = stop.tree; fills = stop.fills; builds = stop.builds }) refl
building_stops_tree X naming files source time placement (Fit f) image now s stop = (stops_at_images files source time placement f image now s stop, refl)
building_stops_tree X naming files source time placement (Its f) image now s stop = (stop, refl)
building_stops_tree X naming files source time placement Read image now s stop = stops_reading naming files source time placement image now s stop
building_stops_tree X naming files source time placement Put image now s stop =
    record { tree = stop.tree; accepts = record { fills = stop.fills; accepted = stop.builds.0 }; prefix = prefix_none s _ }
building_stops_tree X naming files source time placement (NoFile i) image now s stop = (stop, refl)
building_stops_tree X naming files source time placement Keep image now s stop = absurd stop
building_stops_tree X naming files source time placement OutOfMemory image now s stop = refl

-- A bad name is no want of memory.
good_or : (a b : Option BlobFault) → IfSome a (λ f. refuses_memory f ≡ false) → IfSome b (λ f. refuses_memory f ≡ false) → IfSome (option_or a b) (λ f. refuses_memory f ≡ false)
good_or None b p q = q
good_or (Some f) b p q = p

good_if : (test : Bool) (a b : Option BlobFault) → IfSome a (λ f. refuses_memory f ≡ false) → IfSome b (λ f. refuses_memory f ≡ false) → IfSome (if test then a else b) (λ f. refuses_memory f ≡ false)
good_if true a b p q = p
good_if false a b p q = q

good_property : (own : List (NamedOf (List ℕ))) → IfSome (bad_property own) (λ f. refuses_memory f ≡ false)
unfolding bad_property
good_property [] = tt
good_property (p ∷ own) = good_if (is_name p.name) (bad_property own) (Some BadPropertyName) (good_property own) refl

good_name : (t : Nodes) → IfSome (bad_name t) (λ f. refuses_memory f ≡ false)
unfolding bad_name
good_name no_node = tt
good_name (a_node name own below after) =
    good_if (is_name name) (option_or (bad_property own) (option_or (bad_name below) (bad_name after))) (Some BadNodeName)
    (good_or (bad_property own) (option_or (bad_name below) (bad_name after)) (good_property own) (good_or (bad_name below) (bad_name after) (good_name below) (good_name after))) refl

pub no_memory_built : (X Y : Type 0) (files : List ℕ → Option (List ℕ)) (source : List ℕ) (time : ℕ) (placement : AlignedPlacement) (f : Fault) (s t : Sink) → BuildsSource {X = X} files source time placement (Err f) s t → is_no_memory {X = Y} (Err f) ≡ false
no_memory_built X Y files source time placement (Legacy f) s t stop = refl
no_memory_built X Y files source time placement (Blob f at) s t stop = subst (λ (o : Option BlobFault). IfSome o (λ f. refuses_memory f ≡ false)) stop.builds.0 (good_name stop.tree)
no_memory_built X Y files source time placement (Fit f) s t stop = refl
no_memory_built X Y files source time placement (Its f) s t stop = refl
no_memory_built X Y files source time placement Read s t stop = refl
no_memory_built X Y files source time placement Put s t stop = refl
no_memory_built X Y files source time placement (NoFile i) s t stop = refl
no_memory_built X Y files source time placement Keep s t stop = refl
no_memory_built X Y files source time placement OutOfMemory s t stop = refl
