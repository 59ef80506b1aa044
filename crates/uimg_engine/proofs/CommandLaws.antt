-- What a making says, by its command.
use Rattle.std.proofs.Common.{◌≡◌, ◌≤◌, max, ◌∙◌, ℕ, List, [], Option, Some, Result, Ok, Err, Bool, false, None, IsSome, IsTrue, IfErr, map, ap, sym, subst, refl}
use Rattle.std.specs.{Bool.⊤, Io.KnownBytes.Appends}
use Rattle.std.specs.Io.KnownBytes as Io
use Rattle.uimg_base.specs.{Device.{Device, SameDevice, RisesIf}, Held.{Held, held_bytes}}
use Rattle.uimg_base.specs.{Named.FileMap, Sink.{Sink, AppendsAll}, Outcome.Tells, declared.status.Status.Status}
use Rattle.uimg_base.proofs.SinkLaws.{prefix_none, appended_to_nothing}
use Rattle.uimg_blob_reading.specs.Counts.{nodes_met}
use Rattle.uimg_fit_base.specs.{Faults.of_making, Placements.aligned_by}
use Rattle.uimg_fit_base.specs.declared.fault.FitFault.{FitFault}
use Rattle.uimg_fit_base.specs.declared.fault.FitFault.TheVariants as fit_fault
use Rattle.uimg_texts.specs.declared.naming.Naming.{Naming}
use Rattle.uimg_engine.specs.{declared.fault.Fault.Fault, Making.{timed, KeepsBuilt}}
use Rattle.uimg_engine.specs.MakingTrees.{KeepsTree, only_cleared, for_nodes}
use Rattle.uimg_engine.specs.declared.fault.Fault.TheVariants.{Legacy, Blob, Fit, Its, Read, Put, NoFile, Keep, OutOfMemory}
use Rattle.uimg_requests.specs.declared.make_command.MakeCommand.{MakeCommand}
use Rattle.uimg_requests.specs.declared.make_command.MakeCommand.TheVariants.{Parts, Tree}
use Rattle.uimg_engine.specs.Faults.{end_of, is_lost_payload, loses_payload, is_keep, is_of_making, is_no_memory, is_no_payload}
use Rattle.uimg_engine.specs.Commands.{LacksSource, LacksPayload, LacksFile, OpensToBuild, BuildsCommand, MakesCommandBetween, LeavesRoomBetween, HoldsCommandBetween, listing_of, TakesListing}
use Rattle.uimg_engine.proofs.MakingLaws.{building_stops, keeping, listing_makes, listing_stops}
use Rattle.uimg_engine.proofs.TreeListing.{building_stops_tree, keeping_tree, listing_makes_tree, listing_stops_tree, no_memory_built}

-- what is kept
abbrev KeepsCommand : MakeCommand → ℕ → ℕ → (List ℕ → Option (List ℕ)) → Device → Type 0
KeepsCommand (Parts options names) time align files kept = KeepsBuilt (timed options time) files (map (λ name. name.items) names.items) kept
KeepsCommand (Tree source placement) time align files kept = KeepsTree files source.items time (aligned_by placement align) kept

-- why an image is not built, where nothing is listed
pub building_stops_command : (X : Type 0) {K : Type 0} (device : K → Device) (naming : Naming) (command : MakeCommand) (time align : ℕ) (files : List ℕ → Option (List ℕ)) (f : Fault) (image now s : Sink) → is_keep {X = X} (Err f) ≡ false → BuildsCommand {X = X} command time align files (Err f) image now → MakesCommandBetween device naming command time align files (Err f) s s
building_stops_command X device naming (Parts options names) time align files f image now s never stop = building_stops X naming _ files _ f image now s never stop
building_stops_command X device naming (Tree source placement) time align files f image now s never stop = building_stops_tree X naming files source.items time (aligned_by placement align) f image now s stop

-- an image that was built on an empty shelf, and kept
keeping_written : {X : Type 0} (command : MakeCommand) (time align : ℕ) (files : List ℕ → Option (List ℕ)) (x : X) (image now : Sink) (kept : Device) → BuildsCommand command time align files (Ok x) image now → image.contents ≡ Some [] → now.contents ≡ Some kept.bytes → IsTrue kept.honest → KeepsCommand command time align files kept
keeping_written {X = X} (Parts options names) time align files x image now kept builds empty whole honest = keeping X _ files _ x image now kept builds empty whole honest
keeping_written (Tree source placement) time align files x image now kept builds empty whole honest = keeping_tree files source.items time (aligned_by placement align) image now kept builds empty whole honest

-- what is known of an output that was written to stays known when it is written out
known_after : (old new : Option (List ℕ)) (bytes : List ℕ) → old ≡ Some [] → Appends old new bytes → IsSome new
known_after None new bytes empty appended = absurd (cc)
known_after (Some a) None bytes empty appended = absurd appended
known_after (Some a) (Some now) bytes empty appended = refl

known_built : {X : Type 0} (command : MakeCommand) (time align : ℕ) (files : List ℕ → Option (List ℕ)) (x : X) (image now : Sink) → BuildsCommand command time align files (Ok x) image now → image.contents ≡ Some [] → IsSome now.contents
known_built (Parts options names) time align files x image now builds empty = known_after _ _ _ empty builds.builds.written.appended
known_built (Tree source placement) time align files x image now builds empty = known_after _ _ _ empty builds.written.appended

written_out : (now held : Option (List ℕ)) (bytes : List ℕ) → IsSome now → Io.Keeps now held → held ≡ Some bytes → now ≡ Some bytes
written_out None held bytes known keeps whole = absurd (cc)
written_out (Some a) None bytes known keeps whole = absurd keeps
written_out (Some a) (Some b) bytes known keeps whole = cc

pub keeping_command : {X : Type 0} (command : MakeCommand) (time align : ℕ) (files : List ℕ → Option (List ℕ)) (x : X) (image now : Sink) (held : Option (List ℕ)) (kept : Device) → BuildsCommand command time align files (Ok x) image now → image.contents ≡ Some [] → Io.Keeps now.contents held → held ≡ Some kept.bytes → IsTrue kept.honest → KeepsCommand command time align files kept
keeping_command command time align files x image now held kept builds empty out whole honest =
    keeping_written command time align files x image now kept builds empty (written_out now.contents held kept.bytes (known_built command time align files x image now builds empty) out whole) honest

-- an image that was built and not written out, where nothing is listed
pub writing_stops_command : {X K : Type 0} (device : K → Device) (naming : Naming) (command : MakeCommand) (time align : ℕ) (files : List ℕ → Option (List ℕ)) (x : X) (image now s : Sink) → BuildsCommand command time align files (Ok x) image now → MakesCommandBetween device naming command time align files (Err Put) s s
writing_stops_command device naming (Parts options names) time align files x image now s builds = (
  record { parts = builds.parts; have = builds.have; accepted = builds.builds.accepted },
  record { parts = builds.parts; have = builds.have; prefix = prefix_none s _ },
)
writing_stops_command device naming (Tree source placement) time align files x image now s builds =
    record { tree = builds.tree; accepts = builds.accepts; prefix = prefix_none s _ }

-- bytes that were written on an empty shelf, and kept
pub keeping_bytes : (image now : Sink) (text : List ℕ) (held : Option (List ℕ)) (kept : Device) → AppendsAll image now text → image.contents ≡ Some [] → Io.Keeps now.contents held → held ≡ Some kept.bytes → kept.bytes ≡ text
keeping_bytes image now text held kept all empty out whole =
    appended_to_nothing image now kept.bytes text empty (written_out now.contents held kept.bytes (known_after _ _ _ empty all.appended) out whole) all

-- what is kept, and then listed
pub listing_makes_command : {K : Type 0} (device : K → Device) (k : K) (naming : Naming) (command : MakeCommand) (time align : ℕ) (files : List ℕ → Option (List ℕ)) (kept : Device) (status : Status) (s t : Sink) → KeepsCommand command time align files kept → SameDevice kept (device k) → Tells (end_of (Ok status)) (listing_of naming command kept.bytes) s t → MakesCommandBetween device naming command time align files (Ok k) s t
listing_makes_command device k naming (Parts options names) time align files kept status s t keeps same told = listing_makes naming _ files _ kept (device k) status s t keeps same told
listing_makes_command device k naming (Tree source placement) time align files kept status s t keeps same told = listing_makes_tree naming files source.items time (aligned_by placement align) kept (device k) status s t keeps same told

-- why the listing stops
pub listing_stops_command : {K : Type 0} (device : K → Device) (naming : Naming) (command : MakeCommand) (time align : ℕ) (files : List ℕ → Option (List ℕ)) (kept : Device) (f : Fault) (s t : Sink) (old new : Held) → KeepsCommand command time align files kept → is_of_making {X = Status} (Err f) ≡ false → TakesListing command kept (is_no_memory {X = Status} (Err f)) old new → Tells (end_of (Err f)) (listing_of naming command kept.bytes) s t → MakesCommandBetween device naming command time align files (Err f) s t
listing_stops_command device naming (Parts options names) time align files kept f s t old new keeps not takes told = listing_stops naming _ files _ kept f s t keeps not takes.1 told
listing_stops_command device naming (Tree source placement) time align files kept f s t old new keeps not takes told = listing_stops_tree naming files source.items time (aligned_by placement align) kept f s t keeps not told

-- a listing loses no payload
no_loss : (f : FitFault) → of_making f ≡ false → loses_payload f ≡ false
no_loss fit_fault.NoImages is = refl
no_loss fit_fault.NoData is = refl
no_loss fit_fault.DataOutside is = refl
no_loss fit_fault.NoSuchImage is = refl
no_loss fit_fault.UnknownAlgo is = refl
no_loss fit_fault.PositionTooLow is = refl
no_loss fit_fault.TooLarge is = refl
no_loss fit_fault.OutOfMemory is = refl
no_loss fit_fault.NoFile is = refl
no_loss fit_fault.ReadFailed is = absurd (cc)

pub listing_loses_none : (X Y : Type 0) (f : Fault) → is_of_making {X = X} (Err f) ≡ false → is_lost_payload {X = Y} (Err f) ≡ false
listing_loses_none X Y (Legacy f) is = refl
listing_loses_none X Y (Blob f at) is = refl
listing_loses_none X Y (Fit f) is = no_loss f is
listing_loses_none X Y (Its f) is = refl
listing_loses_none X Y Read is = refl
listing_loses_none X Y Put is = refl
listing_loses_none X Y (NoFile i) is = refl
listing_loses_none X Y Keep is = refl
listing_loses_none X Y OutOfMemory is = refl

-- the room, where no image is built
pub room_stays : (X : Type 0) {K : Type 0} (device : K → Device) (honest : Bool) (command : MakeCommand) (time align : ℕ) (files : List ℕ → Option (List ℕ)) (f : Fault) (image now : Sink) (old new : Held) → new ≡ record old { entries = [] } → (IsTrue honest → BuildsCommand {X = X} command time align files (Err f) image now) → LeavesRoomBetween device honest command (Err f) old new
room_stays X device honest (Parts options names) time align files f image now old new cleared built = cleared
room_stays X device honest (Tree source placement) time align files f image now old new cleared built =
    record {
      cleared = λ is. cleared;
      refused = λ is. subst (λ (b : Bool). RisesIf b old.refused new.refused) (sym (no_memory_built X ⊤ files source.items time (aligned_by placement align) f image now (built is))) (ap (λ (h : Held). h.refused) cleared);
    }

-- the room, where nothing is listed, and where what is kept is
pub holds_nothing : (command : MakeCommand) (time align : ℕ) (files : List ℕ → Option (List ℕ)) (old new : Held) → new ≡ record old { entries = [] } → HoldsCommandBetween command time align files old new
holds_nothing (Parts options names) time align files old new cleared = cleared
holds_nothing (Tree source placement) time align files old new cleared = only_cleared cleared

pub holds_listed : (command : MakeCommand) (time align : ℕ) (files : List ℕ → Option (List ℕ)) (kept : Device) (no_memory : Bool) (old now new : Held) → now ≡ record old { entries = [] } → KeepsCommand command time align files kept → TakesListing command kept no_memory now new → HoldsCommandBetween command time align files old new
holds_listed (Parts options names) time align files kept no_memory old now new cleared keeps takes = takes.0 ∙ ap (λ (h : Held). record h { entries = [] }) cleared
holds_listed (Tree source placement) time align files kept no_memory old now new cleared keeps takes =
    for_nodes (record {
      tree = keeps.tree;
      accepts = keeps.accepts;
      peak =
          subst (λ (bytes : List ℕ). new.peak ≤ max old.peak (held_bytes (nodes_met bytes))) keeps.bytes
          (subst (λ (h : Held). new.peak ≤ max h.peak (held_bytes (nodes_met kept.bytes))) cleared (takes.peak keeps.honest));
    })

-- an answer over files is one over the same files
pub made_of_same : {K : Type 0} (device : K → Device) (naming : Naming) (command : MakeCommand) (time align : ℕ) (a b : List ℕ → Option (List ℕ)) (result : Result K Fault) (s t : Sink) → a ≡ b → MakesCommandBetween device naming command time align a result s t → MakesCommandBetween device naming command time align b result s t
made_of_same device naming command time align a b result s t same made = subst (λ (files : List ℕ → Option (List ℕ)). MakesCommandBetween device naming command time align files result s t) same made

-- what files that are complete and honest lack
lacks_by : (files : List ℕ → Option (List ℕ)) (source : List ℕ) (f : Fault) → LacksSource files source f → is_no_payload {X = ⊤} (Err f) ≡ false → LacksPayload files source f
lacks_by files source (Legacy f) lacks found = tt
lacks_by files source (Blob f at) lacks found = tt
lacks_by files source (Fit f) lacks found = found
lacks_by files source (Its f) lacks found = tt
lacks_by files source Read lacks found = tt
lacks_by files source Put lacks found = tt
lacks_by files source (NoFile i) lacks found = lacks
lacks_by files source Keep lacks found = tt
lacks_by files source OutOfMemory lacks found = tt

payload_again : (X Y : Type 0) (f : Fault) → is_no_payload {X = X} (Err f) ≡ false → is_no_payload {X = Y} (Err f) ≡ false
payload_again X Y (Legacy f) h = refl
payload_again X Y (Blob f at) h = refl
payload_again X Y (Fit f) h = h
payload_again X Y (Its f) h = refl
payload_again X Y Read h = refl
payload_again X Y Put h = refl
payload_again X Y (NoFile i) h = refl
payload_again X Y Keep h = refl
payload_again X Y OutOfMemory h = refl

pub lacks_file : {X : Type 0} (command : MakeCommand) (result : Result X Fault) (old new : FileMap) → OpensToBuild command result old new → IsTrue old.honest → IsTrue old.complete → IfErr result (LacksFile command old.bytes)
lacks_file (Parts options names) result old new opens is complete = opens.missing complete
lacks_file (Tree source placement) (Ok x) old new opens is complete = tt
lacks_file {X = X} (Tree source placement) (Err f) old new opens is complete =
    lacks_by old.bytes source.items f (opens.missing complete) (payload_again X ⊤ f (opens.found complete is))
