-- What a command on an image must write, how it must end, how many bytes it may request, and what
-- memory it may take.
use Rattle.std.specs.Prelude.{◌≡◌, ◌↔◌, ℕ, ◌+◌, ◌-◌, ◌^◌, ◌<◌, ◌≤◌, max, List, [], Result, Some, ⊤}
use Rattle.std.specs.Prelude.{Bool, true, false, IsTrue}
use Rattle.uimg_base.specs.{Device.{Device, RisesIf}, Held.{Held, held_bytes}, Lent.Lent}
use Rattle.uimg_base.specs.{Ranges.ReadsAhead, Sink.{Sink, AppendsAll, AppendsPrefix}}
use Rattle.uimg_base.specs.Outcome.{End, Outcome, done, not_right, refused, Tells}
use Rattle.uimg_base.specs.{Using.UsesAtMost, declared.status.Status.Status}
use Rattle.uimg_blob_reading.specs.{Counts.nodes_met, Indexed.TakesNodes}
use Rattle.uimg_fit_base.specs.{declared.fault.Fault.Fault as FitEngineFault, Files.begins_as_blob}
use Rattle.uimg_fit_reading.specs.Listing as fit_listing
use Rattle.uimg_fit_base.specs.Report as fit_report
use Rattle.uimg_fit_base.specs.Extraction as fit_extraction
use Rattle.uimg_fit_reading.specs.Work as fit
use Rattle.uimg_legacy.specs.declared.fault.LegacyFault.{LegacyFault}
use Rattle.uimg_legacy.specs.Listing as legacy_listing
use Rattle.uimg_legacy.specs.Report as legacy_report
use Rattle.uimg_legacy.specs.Extraction as legacy_extraction
use Rattle.uimg_legacy.specs.Work as legacy
use Rattle.uimg_engine.specs.{declared.fault.Fault.{Fault, TheVariants.Legacy}, Faults.is_of_making}
use Rattle.uimg_engine.specs.Faults.{end_of, of_fit, is_read, is_put, is_no_memory, is_refused}
use Rattle.uimg_texts.specs.declared.naming.Naming.{Naming, TheVariants.Profile}
use Rattle.uimg_requests.specs.declared.command.{Action.Action, Command.Command, Form.Form}
use Rattle.uimg_requests.specs.declared.command.Action.TheVariants as action
use Rattle.uimg_requests.specs.declared.command.Form.TheVariants as form

-- The file is read as a FIT image: that is the given format, or the format is to be guessed and the
-- file begins as a blob. Any other file is read as a legacy image.
abbrev pub is_fit : Form → List ℕ → Bool
is_fit form.Guess file = begins_as_blob file
is_fit form.Legacy file = false
is_fit form.Fit file = true

-- an outcome, with its fault turned into one of the command
abbrev pub end_as : {F : Type 0} → (F → Fault) → End F → End Fault
end_as name done = done
end_as name not_right = not_right
end_as name (refused fault) = refused (name fault)

abbrev pub outcome_as : {F : Type 0} → (F → Fault) → Outcome F → Outcome Fault
outcome_as name o = record { text = o.text; end = end_as name o.end }

-- the outcome of an action on a legacy image: its listing with the names of a set, its report, or
-- its part at a position
abbrev pub legacy_outcome : Naming → Action → List ℕ → Outcome LegacyFault
legacy_outcome naming action.List file = legacy_listing.list_of naming file
legacy_outcome naming action.Verify file = legacy_report.verify_of file
legacy_outcome naming (action.Extract position) file = legacy_extraction.extract_of file position

-- the outcome of an action on a FIT image: its listing with the names of a set, its report, or the
-- payload of its image at a position
abbrev pub fit_outcome : Naming → Action → List ℕ → Outcome FitEngineFault
fit_outcome naming action.List file = fit_listing.list_of naming file
fit_outcome naming action.Verify file = fit_report.verify_of file
fit_outcome naming (action.Extract position) file = fit_extraction.extract_of file position

-- the outcome of an action on a file that is read as a FIT image, or as a legacy image
abbrev pub outcome_in : Naming → Bool → Action → List ℕ → Outcome Fault
outcome_in naming true action file = outcome_as of_fit (fit_outcome naming action file)
outcome_in naming false action file = outcome_as Legacy (legacy_outcome naming action file)

-- the outcome of a command on a file, a listing with the names of a set
abbrev pub outcome_of : Naming → Command → List ℕ → Outcome Fault
outcome_of naming command file = outcome_in naming (is_fit command.form file) command.action file

-- the most bytes that the engine of a format requests
abbrev pub work_in : Naming → Bool → Action → List ℕ → ℕ
work_in naming true action.List file = fit.list_work naming file
work_in naming true action.Verify file = fit.verify_work file
work_in naming true (action.Extract position) file = fit.extract_work file position
work_in naming false action.List file = legacy.list_work file
work_in naming false action.Verify file = legacy.verify_work file
work_in naming false (action.Extract position) file = legacy.extract_work file position

-- The most bytes that a command requests, a listing with the names of a set: the four of the magic
-- number, and those of the format's engine. Without payloads that is `64 + 1024 * (nodes +
-- properties) + 4 * (bytes of texts + NOPs)` for a FIT image, each counted as it is met, and
-- `64 + 16 * (sizes + 1)` for a legacy image.
abbrev pub work : Naming → Command → List ℕ → ℕ
work naming command file = 4 + work_in naming (is_fit command.form file) command.action file

-- the most bytes that a listing requests
abbrev pub listing_work : Form → List ℕ → ℕ
listing_work form file = work Profile (record { action = action.List; form = form }) file

-- the most entries of a command's table: one for each node of a FIT image, none for a legacy image
abbrev pub nodes_in : Bool → List ℕ → ℕ
nodes_in true file = nodes_met file
nodes_in false file = 0

abbrev pub nodes_of : Command → List ℕ → ℕ
nodes_of command file = nodes_in (is_fit command.form file) file

-- An extraction requested at most its work without the payload, the bytes that it wrote, and a
-- window of 8192 more. Of other actions nothing is claimed.
abbrev pub ExtractsAheadBetween : ℕ → Action → Outcome Fault → (old new : Device) → Sink → Sink
    → Type 0
ExtractsAheadBetween most action.List o old new s t = ⊤
ExtractsAheadBetween most action.Verify o old new s t = ⊤
ExtractsAheadBetween most (action.Extract position) o old new s t =
    ReadsAhead most old new s t o.text

abbrev pub ExtractsAhead : {S : Type 0} → Naming → Command → (S → Device) → Lent S → Lent Sink
    → Type 0
ExtractsAhead naming command device source out = ExtractsAheadBetween
    (listing_work command.form (device source.entry.now).bytes) command.action
    (outcome_of naming command (device source.entry.now).bytes)
    (device source.entry.now) (device source.exit.now) out.entry.now out.exit.now

-- A refused extraction wrote nothing. Of other actions and results nothing is claimed.
abbrev pub KeepsOutput : Action → Bool → (old new : Sink) → Type 0
KeepsOutput action.List is_refused old new = ⊤
KeepsOutput action.Verify is_refused old new = ⊤
KeepsOutput (action.Extract position) true old new = new ≡ old
KeepsOutput (action.Extract position) false old new = ⊤

-- A refused extraction left a text that was empty empty. Of other actions and results nothing is
-- claimed.
abbrev pub WritesNone : Action → Bool → List ℕ → Type 0
WritesNone action.List is_refused text = ⊤
WritesNone action.Verify is_refused text = ⊤
WritesNone (action.Extract position) true text = text ≡ []
WritesNone (action.Extract position) false text = ⊤

-- a counter was below its greatest value, and did not rise
abbrev pub Stays : ℕ → ℕ → Type 0
Stays old new = (old < 2 ^ 64 - 1) × (new ≡ old)

-- a fact holds exactly if a counter rose, provided that it was below its greatest value
abbrev pub ExactlyIfRose : Type 0 → ℕ → ℕ → Type 0
ExactlyIfRose fact old new = old < 2 ^ 64 - 1 → fact ↔ (old < new)

-- no read of the source failed
abbrev pub NoReadFails : {S : Type 0} → (S → Device) → Lent S → Type 0
NoReadFails device source =
    Stays (device source.entry.now).failures (device source.exit.now).failures

-- no write to the output failed
abbrev pub NoWriteFails : Lent Sink → Type 0
NoWriteFails out = Stays out.entry.now.faults out.exit.now.faults

-- at most a number of bytes more were requested, which depends on the bytes of the source
abbrev pub AsksAtMost : {S : Type 0} → (List ℕ → ℕ) → (S → Device) → Lent S → Type 0
AsksAtMost most device source =
    (device source.exit.now).asked
    ≤ (device source.entry.now).asked + most (device source.entry.now).bytes

-- the room never held more than before, or than a number of bytes
abbrev pub PeaksAtMost : ℕ → Lent Held → Type 0
PeaksAtMost most room = room.exit.now.peak ≤ max room.entry.now.peak most

-- the entries of the room were dropped, and all else in it is unchanged
abbrev pub OnlyClears : Lent Held → Type 0
OnlyClears room = room.exit.now ≡ record room.entry.now { entries = [] }

-- no growth of the table of a FIT image was refused; a legacy image has no table
abbrev pub GrowthsSucceedBetween : Bool → (old new : Held) → Type 0
GrowthsSucceedBetween true old new = Stays old.refused new.refused
GrowthsSucceedBetween false old new = ⊤

abbrev pub GrowthsSucceed : {S : Type 0} → Command → (S → Device) → Lent S → Lent Held → Type 0
GrowthsSucceed command device source room =
    GrowthsSucceedBetween (is_fit command.form (device source.entry.now).bytes)
    room.entry.now room.exit.now

-- The file is certainly read as a legacy image: that is the given format, or the format is to be
-- guessed and the bytes of an honest source do not begin as a blob.
abbrev pub IsLegacy : Form → Device → Type 0
IsLegacy form.Guess source = IsTrue source.honest × (begins_as_blob source.bytes ≡ false)
IsLegacy form.Legacy source = ⊤
IsLegacy form.Fit source = ⊥

-- What a command does to a room: it takes memory for a table of nodes, or none.
abbrev pub TakesTable : Bool → Device → Bool → (old new : Held) → Type 0
TakesTable true source no_memory old new = TakesNodes source no_memory old new
TakesTable false source no_memory old new =
    (new ≡ record old { entries = [] }) × (no_memory ≡ false)

-- What the engine of a format does at any exit: what it requested and took, what it wrote of the
-- outcome, and which failures it counted.
pub record CarriesOutBetween (naming : Naming) (fit : Bool) (what : Action)
    (result : Result Status Fault) (d e : Device) (old new : Held) (s t : Sink) : Type 0 where
  -- the source is unchanged; `Read` is returned exactly if its failures rose
  pub uses : UsesAtMost (work_in naming fit what d.bytes) (is_read result) d e
  pub room : TakesTable fit d (is_no_memory result) old new
  -- the bytes that an extraction requested
  pub ahead : IsTrue d.honest
      → ExtractsAheadBetween (work_in Profile fit action.List d.bytes) what
      (outcome_in naming fit what d.bytes) d e s t
  -- a refused extraction wrote nothing, over any source
  pub untouched : KeepsOutput what (is_refused result) s t
  -- `Put` is returned exactly if the faults of the output rose
  pub faults : RisesIf (is_put result) s.faults t.faults
  -- a fault of making is never returned
  pub not_making : is_of_making result ≡ false
  -- the outcome with its end, or a prefix of its text if a call failed
  pub told : IsTrue d.honest → Tells (end_of result) (outcome_in naming fit what d.bytes) s t

abbrev pub CarriesOut : {S : Type 0} → Naming → Bool → Action → Result Status Fault → (S → Device)
    → Lent S → Lent Held → Lent Sink → Type 0
CarriesOut naming fit what result device source room out = CarriesOutBetween naming fit what result
    (device source.entry.now) (device source.exit.now) room.entry.now room.exit.now out.entry.now
    out.exit.now

-- The same for a command, whose format is given or guessed.
pub record RunsBetween (naming : Naming) (command : Command) (result : Result Status Fault)
    (d e : Device) (old new : Held) (s t : Sink) : Type 0 where
  pub uses : UsesAtMost (work naming command d.bytes) (is_read result) d e
  pub room : TakesNodes d (is_no_memory result) old new
  pub legacy : IsLegacy command.form d → TakesTable false d (is_no_memory result) old new
  pub ahead : IsTrue d.honest
      → ExtractsAheadBetween (listing_work command.form d.bytes) command.action
      (outcome_of naming command d.bytes) d e s t
  pub untouched : KeepsOutput command.action (is_refused result) s t
  pub faults : RisesIf (is_put result) s.faults t.faults
  pub not_making : is_of_making result ≡ false
  pub told : IsTrue d.honest → Tells (end_of result) (outcome_of naming command d.bytes) s t

abbrev pub Runs : {S : Type 0} → Naming → Command → Result Status Fault → (S → Device) → Lent S
    → Lent Held → Lent Sink → Type 0
Runs naming command result device source room out = RunsBetween naming command result
    (device source.entry.now) (device source.exit.now) room.entry.now room.exit.now out.entry.now
    out.exit.now

-- the result means the outcome's end, and exactly its text was appended
abbrev pub MeetsBetween : Result Status Fault → Outcome Fault → Sink → Sink → Type 0
MeetsBetween result o s t = (end_of result ≡ Some o.end) × AppendsAll s t o.text

-- the same for the outcome of the source's bytes
abbrev pub Meets : {S : Type 0} → (List ℕ → Outcome Fault) → Result Status Fault → (S → Device)
    → Lent S → Lent Sink → Type 0
Meets outcome result device source out =
    MeetsBetween result (outcome (device source.entry.now).bytes) out.entry.now out.exit.now

-- a prefix of the text of this outcome of the source's bytes was appended
abbrev pub WritesPrefix : {S : Type 0} → (List ℕ → Outcome Fault) → (S → Device) → Lent S
    → Lent Sink → Type 0
WritesPrefix outcome device source out =
    AppendsPrefix out.entry.now out.exit.now (outcome (device source.entry.now).bytes).text

-- What a call that only reads an image does, at any exit: it requested at most a number of bytes,
-- and took memory for the nodes of a FIT image alone. It returns neither a failed write nor a fault
-- of making.
pub record OnlyReadsBetween {X : Type 0} (form : Form) (most : ℕ) (result : Result X Fault)
    (d e : Device) (old new : Held) : Type 0 where
  -- the source is unchanged; `Read` is returned exactly if its failures rose
  pub uses : UsesAtMost most (is_read result) d e
  -- `OutOfMemory` of the blob is returned exactly if the refusals of the room rose
  pub room : TakesNodes d (is_no_memory result) old new
  -- no memory is taken for a legacy image
  pub legacy : IsLegacy form d → TakesTable false d (is_no_memory result) old new
  -- `Put` is never returned
  pub no_put : is_put result ≡ false
  -- a fault of making is never returned
  pub not_making : is_of_making result ≡ false

-- the same, with the number of bytes as a function of the source's
abbrev pub OnlyReads : {S X : Type 0} → Form → (List ℕ → ℕ) → Result X Fault → (S → Device) → Lent S
    → Lent Held → Type 0
OnlyReads form work result device source room =
    OnlyReadsBetween form (work (device source.entry.now).bytes) result
    (device source.entry.now) (device source.exit.now) room.entry.now room.exit.now

-- What a call on the bytes of an image in memory does: it took memory for its nodes alone, and a
-- refusal was counted exactly if memory was refused. It returns neither a failed read nor a fault
-- of making.
pub record InMemoryBetween {X : Type 0} (nodes : ℕ) (result : Result X Fault) (old new : Held)
    : Type 0 where
  -- `Read` is never returned
  pub no_read : is_read result ≡ false
  -- a fault of making is never returned
  pub not_making : is_of_making result ≡ false
  -- `OutOfMemory` of the blob is returned exactly if the refusals of the room rose
  pub no_memory : RisesIf (is_no_memory result) old.refused new.refused
  -- 8192 bytes, and 128 for each node
  pub peak : new.peak ≤ max old.peak (held_bytes nodes)

abbrev pub InMemory : {X : Type 0} → Form → List ℕ → Result X Fault → Lent Held → Type 0
InMemory form file result room =
    InMemoryBetween (nodes_in (is_fit form file) file) result room.entry.now room.exit.now

-- No memory was taken, and none was refused: the room was only cleared.
abbrev pub TakesNone : {X : Type 0} → Result X Fault → Lent Held → Type 0
TakesNone result room = OnlyClears room × (is_no_memory result ≡ false)

-- Result and text are those of an outcome, unless memory for the text or for a table of nodes was
-- refused.
abbrev pub GivesOutcome : Outcome Fault → Result Status Fault → List ℕ → Type 0
GivesOutcome o result text =
    is_put result ≡ false → is_no_memory result ≡ false
    → (text ≡ o.text) × (end_of result ≡ Some o.end)
