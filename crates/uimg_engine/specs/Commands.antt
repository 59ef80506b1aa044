-- The result of a build, by its command.
use Rattle.std.specs.{Borrow.Bor, Prelude.{IfErr, Bool, false, ⊤}, Bool.OnFalse}
use Rattle.std.specs.Prelude.{◌≡◌, ℕ, List, [], map, Option, None, Result, Ok, Err, IsTrue, IfOk}
use Rattle.uimg_base.specs.{Device.{Device, Rose, RisesIf}, Held.Held, Lent.Lent, Sink.Sink}
use Rattle.uimg_base.specs.{Named.{FileMap, SameFiles, bytes_named}, Outcome.{Outcome, Tells}}
use Rattle.uimg_base.specs.{Using.Uses, declared.status.Status.Status}
use Rattle.uimg_fit_base.specs.Placements.{aligned_by}
use Rattle.uimg_blob_reading.specs.Indexed.{TakesNodes}
use Rattle.uimg_texts.specs.declared.naming.Naming.{Naming}
use Rattle.uimg_engine.specs.declared.fault.Fault.{Fault, TheVariants.{NoFile, Fit}}
use Rattle.uimg_engine.specs.Faults.{end_of, is_read, is_put, is_no_memory, is_of_making}
use Rattle.uimg_engine.specs.Faults.{is_no_text, is_no_payload, refuses_payload, is_unread}
use Rattle.uimg_engine.specs.Faults.{is_lost_payload, is_keep}
use Rattle.uimg_engine.specs.Headline.{outcome_in, outcome_of, TakesTable, Stays}
use Rattle.uimg_engine.specs.Making.{timed, OpensNames, Lacks, BuildsNames, MakesAnswer}
use Rattle.uimg_engine.specs.MakingTrees.{BuildsSource, MakesSource, HoldsSource}
use Rattle.uimg_requests.specs.declared.command.Action.TheVariants as Action
use Rattle.uimg_requests.specs.declared.command.Form.TheVariants as Form
use Rattle.uimg_requests.specs.declared.make_command.MakeCommand.{MakeCommand}
use Rattle.uimg_requests.specs.declared.make_command.MakeCommand.TheVariants.{Parts, Tree}

-- the files are honest
abbrev pub HonestFiles : {F : Type 0} → (F → FileMap) → Lent F → Type 0
HonestFiles view files = IsTrue (view files.entry.now).honest

-- files in memory, by their names
abbrev pub bytes_among : List (Bor (List ℕ) × Bor (List ℕ)) → List ℕ → Option (List ℕ)
bytes_among files = λ name. bytes_named name files

-- Files have the sizes that a command keeps: those of a tree if the files are honest; parts keep
-- none.
abbrev pub KeepsSizes : MakeCommand → FileMap → Type 0
KeepsSizes (Parts options files) map = ⊤
KeepsSizes (Tree source placement) map = IsTrue map.honest

-- at `NoFile` the source has no bytes; of other faults nothing is claimed
abbrev pub LacksSource : (List ℕ → Option (List ℕ)) → List ℕ → Fault → Type 0
LacksSource files source (NoFile i) = files source ≡ None
LacksSource files source _ = ⊤

-- The files are unchanged. A refusal was counted exactly if the source or a file of it could not be
-- opened. Complete files refuse only a source without bytes, and no payload if they are honest.
pub record OpensSource {X : Type 0} (source : List ℕ) (result : Result X Fault) (old new : FileMap)
    : Type 0 where
  pub same : SameFiles old new
  -- of the source, and of a file that is read into the tree (I5)
  pub text : OnFalse (is_no_payload result) (RisesIf (is_no_text result) old.refusals new.refusals)
  -- of the file of a payload (F9)
  pub payload : IsTrue (is_no_payload result) → Rose old.refusals new.refusals
  -- `NoFile` only for a source without bytes
  pub missing : IsTrue old.complete → IfErr result (LacksSource old.bytes source)
  -- no F9 over complete and honest files
  pub found : IsTrue old.complete → IsTrue old.honest → is_no_payload result ≡ false

-- what building or making does to the files
abbrev pub OpensToBuild : {X : Type 0} → MakeCommand → Result X Fault → FileMap → FileMap → Type 0
OpensToBuild (Parts options files) result old new =
    OpensNames (map (λ name. name.items) files.items) result old new
OpensToBuild (Tree source placement) result old new = OpensSource source.items result old new

-- what the result of building at a time, with an alignment, says of the files and of what was
-- appended
abbrev pub BuildsCommand : {X : Type 0} → MakeCommand → ℕ → ℕ → (List ℕ → Option (List ℕ))
    → Result X Fault → Sink → Sink → Type 0
BuildsCommand (Parts options names) time align files result s t =
    BuildsNames (timed options time) files (map (λ name. name.items) names.items) result s t
BuildsCommand (Tree source placement) time align files result s t =
    BuildsSource files source.items time (aligned_by placement align) result s t

-- what the result of making at a time, with an alignment, says of the files and of the listing
abbrev pub MakesCommandBetween : {K : Type 0} → (K → Device) → Naming → MakeCommand → ℕ → ℕ
    → (List ℕ → Option (List ℕ)) → Result K Fault → Sink → Sink → Type 0
MakesCommandBetween device naming (Parts options names) time align files result s t =
    MakesAnswer device naming (timed options time) files (map (λ name. name.items) names.items)
    result s t
MakesCommandBetween device naming (Tree source placement) time align files result s t =
    MakesSource device naming files source.items time (aligned_by placement align) result s t

abbrev pub MakesCommand : {K : Type 0} → (K → Device) → Naming → MakeCommand → ℕ → ℕ
    → (List ℕ → Option (List ℕ)) → Result K Fault → Lent Sink → Type 0
MakesCommand device naming command time align files result out =
    MakesCommandBetween device naming command time align files result out.entry.now out.exit.now

-- What a fault says over complete and honest files: which name, or the source, has no bytes. No
-- payload lacks its file.
abbrev pub LacksPayload : (List ℕ → Option (List ℕ)) → List ℕ → Fault → Type 0
LacksPayload files source (Fit fault) = refuses_payload fault ≡ false
LacksPayload files source fault = LacksSource files source fault

abbrev pub LacksFile : MakeCommand → (List ℕ → Option (List ℕ)) → Fault → Type 0
LacksFile (Parts options names) files fault =
    Lacks files (map (λ name. name.items) names.items) fault
LacksFile (Tree source placement) files fault = LacksPayload files source.items fault

-- What the making from a source does to a room if it is refused. A fault of making only clears it.
-- If the files are honest, a refusal was counted exactly if memory for the nodes was refused.
pub record LeavesRefused (honest of_making no_memory : Bool) (old new : Held) : Type 0 where
  pub cleared : IsTrue of_making → new ≡ record old { entries = [] }
  -- `OutOfMemory` of the blob is returned exactly if the refusals of the room rose
  pub refused : IsTrue honest → RisesIf no_memory old.refused new.refused

-- What the making of a FIT image does to a room: it took memory for the nodes of what is kept, or
-- the making is refused.
abbrev pub TakesKept : {K : Type 0} → (K → Device) → Bool → Result K Fault → (old new : Held)
    → Type 0
TakesKept device honest (Ok kept) old new = TakesNodes (device kept) false old new
TakesKept device honest (Err fault) old new =
    LeavesRefused honest (is_of_making {X = ⊤} (Err fault)) (is_no_memory {X = ⊤} (Err fault)) old
    new

abbrev pub LeavesRoomBetween : {K : Type 0} → (K → Device) → Bool → MakeCommand → Result K Fault
    → (old new : Held) → Type 0
LeavesRoomBetween device honest (Parts options files) result old new =
    new ≡ record old { entries = [] }
LeavesRoomBetween device honest (Tree source placement) result old new =
    TakesKept device honest result old new

abbrev pub LeavesRoom : {K : Type 0} → (K → Device) → Bool → MakeCommand → Result K Fault
    → Lent Held → Type 0
LeavesRoom device honest command result room =
    LeavesRoomBetween device honest command result room.entry.now room.exit.now

-- What making does to a room, at any exit: a listing of parts takes no memory, a listing of a FIT
-- image takes memory for its nodes.
abbrev pub HoldsCommandBetween : MakeCommand → ℕ → ℕ → (List ℕ → Option (List ℕ)) → (old new : Held)
    → Type 0
HoldsCommandBetween (Parts options names) time align files old new =
    new ≡ record old { entries = [] }
HoldsCommandBetween (Tree source placement) time align files old new =
    HoldsSource files source.items time (aligned_by placement align) old new

abbrev pub HoldsCommand : MakeCommand → ℕ → ℕ → (List ℕ → Option (List ℕ)) → Lent Held → Type 0
HoldsCommand command time align files room =
    HoldsCommandBetween command time align files room.entry.now room.exit.now

-- the listing of an image that was made, with the names of a set
abbrev pub listing_of : Naming → MakeCommand → List ℕ → Outcome Fault
listing_of naming (Parts options files) file = outcome_in naming false Action.List file
listing_of naming (Tree source placement) file =
    outcome_of naming (record { action = Action.List; form = Form.Guess }) file

-- what that listing does to a room
abbrev pub TakesListing : MakeCommand → Device → Bool → (old new : Held) → Type 0
TakesListing (Parts options files) kept no_memory old new = TakesTable false kept no_memory old new
TakesListing (Tree source placement) kept no_memory old new = TakesNodes kept no_memory old new

-- What the listing of what was kept does at any exit: the source is unchanged, and each failure was
-- counted exactly if it is returned; no fault of making is.
pub record ListsMadeBetween (naming : Naming) (command : MakeCommand) (result : Result Status Fault)
    (d e : Device) (old new : Held) (s t : Sink) : Type 0 where
  pub uses : Uses (is_read result) d e
  pub room : TakesListing command d (is_no_memory result) old new
  pub faults : RisesIf (is_put result) s.faults t.faults
  pub not_making : is_of_making result ≡ false
  pub told : IsTrue d.honest → Tells (end_of result) (listing_of naming command d.bytes) s t

abbrev pub ListsMade : {S : Type 0} → Naming → MakeCommand → Result Status Fault → (S → Device)
    → Lent S
    → Lent Held → Lent Sink → Type 0
ListsMade naming command result device source room out = ListsMadeBetween naming command result
    (device source.entry.now) (device source.exit.now) room.entry.now room.exit.now out.entry.now
    out.exit.now

-- If what is kept is honest, exactly its listing was appended, with no fault.
abbrev pub ListsKeptBetween : {K : Type 0} → (K → Device) → Naming → MakeCommand → Sink → Sink → K
    → Type 0
ListsKeptBetween device naming command s t kept = IsTrue (device kept).honest → (status : Status)
    × Tells (end_of (Ok status)) (listing_of naming command (device kept).bytes) s t

abbrev pub ListsKept : {K : Type 0} → (K → Device) → Naming → MakeCommand → Lent Sink → K → Type 0
ListsKept device naming command out kept =
    ListsKeptBetween device naming command out.entry.now out.exit.now kept

-- What making appends to the output: the listing comes last.
pub record ListsLastBetween {X : Type 0} (result : Result X Fault) (s t : Sink) : Type 0 where
  -- at a fault of making nothing was appended
  pub quiet : IsTrue (is_of_making result) → t ≡ s
  -- the faults of the output rise at `Put` alone
  pub puts : is_put result ≡ false → t.faults ≡ s.faults
  -- if they did not rise at `Put`, a write of the image failed, and nothing was appended
  pub put : IsTrue (is_put result) → Stays s.faults t.faults → t ≡ s

abbrev pub ListsLast : {X : Type 0} → Result X Fault → Lent Sink → Type 0
ListsLast result out = ListsLastBetween result out.entry.now out.exit.now

-- What making does at any exit. Files, shelf and what is kept are steady if their reads, and the
-- keeping, never fail.
pub record MakesBetween {K : Type 0} (device : K → Device) (naming : Naming) (command : MakeCommand)
    (files_steady shelf_steady kept_steady : Bool) (result : Result K Fault)
    (before after : FileMap) (old new : Held) (s t : Sink) : Type 0 where
  -- which opens were refused
  pub files : OpensToBuild command result before after
  pub output : ListsLastBetween result s t
  -- over steady, honest files and a steady kept source `Read` and I6 are never returned; of parts
  -- the files need not be honest
  pub reads : IsTrue files_steady → IsTrue kept_steady → KeepsSizes command before
      → is_unread result ≡ false
  -- over steady, honest files F10 is never returned
  pub payloads : IsTrue files_steady → IsTrue before.honest → is_lost_payload result ≡ false
  -- a steady shelf is always kept
  pub keeps : IsTrue shelf_steady → is_keep result ≡ false
  -- exactly the listing of an honest kept source was appended
  pub listed : IfOk result (ListsKeptBetween device naming command s t)
  -- no read of what was kept failed
  pub kept_reads : IfOk result (λ kept. (device kept).failures ≡ 0)
  -- memory was taken for the listing alone
  pub room : LeavesRoomBetween device before.honest command result old new

abbrev pub Makes : {K F : Type 0} → (K → Device) → (F → FileMap) → Naming → MakeCommand
    → (files_steady shelf_steady kept_steady : Bool) → Result K Fault → Lent F → Lent Held
    → Lent Sink → Type 0
Makes device map naming command files_steady shelf_steady kept_steady result files room out =
    MakesBetween device naming command files_steady shelf_steady kept_steady result
    (map files.entry.now) (map files.exit.now) room.entry.now room.exit.now out.entry.now
    out.exit.now
