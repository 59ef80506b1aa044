-- The status and the text of a making are those of its result, unless the status is 3.
use Rattle.std.proofs.Common.{◌≡◌, ◌⊎◌, inl, inr, ℕ, List, Option, Bool, true, false, IsTrue, Result, Ok, Err, refl, ap, sym, subst, ◌∙◌, ◌≤◌, arith, true≢false}
use Rattle.std.specs.{Bool.OnFalse, Borrow.Bor, List.list_any, Prelude.is_err}
use Rattle.uimg_base.specs.{Device.{Device, RisesIf}, Named.{FileMap, SameFiles}, Sink.Sink}
use Rattle.uimg_base.specs.declared.status.Status.{Status}
use Rattle.uimg_engine.specs.{Commands.{MakesCommandBetween, OpensToBuild}, OpenedFiles.OpensCommand}
use Rattle.uimg_engine.specs.declared.fault.Fault.{Fault}
use Rattle.uimg_engine.specs.declared.fault.Fault.TheVariants as engine
use Rattle.uimg_engine.specs.Faults.{is_no_file, is_no_payload, is_no_text, refuses_payload}
use Rattle.uimg_fit_base.specs.declared.fault.FitFault.{FitFault}
use Rattle.uimg_fit_base.specs.declared.fault.FitFault.TheVariants as fit
use Rattle.uimg_its.specs.Answers.{tells_no_file}
use Rattle.uimg_its.specs.declared.fault.FaultKind.{FaultKind}
use Rattle.uimg_its.specs.declared.fault.FaultKind.TheVariants as source
use Rattle.uimg_requests.specs.declared.make_command.MakeCommand.{MakeCommand}
use Rattle.uimg_requests.specs.declared.make_command.MakeCommand.TheVariants.{Parts, Tree}
use Rattle.uimg_requests.specs.declared.requests.MakeRequest.{MakeRequest}
use Rattle.uimg_tool.specs.FaultTexts.{told_of_end}
use Rattle.uimg_checks.specs.FaultStatuses.{fault_status, fit_status, source_status}
use Rattle.uimg_tool.specs.{RequestEnds.{AsMade, StoppedAs}, Statuses.{end_status, request_status}}
use Rattle.uimg_tool.specs.{LeavingOut.leads_to, Makings.{IsMadeStatus, MakesAt, MakesRequested, OpensRequested, TellsMaking, files_of, made_status, opens_outfile}}
use Rattle.uimg_tool.specs.declared.request_fault.RequestFault.{RequestFault}
use Rattle.uimg_tool.specs.declared.request_fault.RequestFault.TheVariants as request
use Rattle.uimg_world.specs.declared.file_id.FileId.{FileId}

-- a making that stopped has the status of its fault
stopped : (asked : MakeRequest) (fault : Fault) (told : RequestFault) → StoppedAs asked fault told → request_status told ≡ fault_status fault
stopped asked (engine.Legacy f) (request.Stopped told) is = ap fault_status is
stopped asked (engine.Blob f at) (request.Stopped told) is = ap fault_status is
stopped asked (engine.Fit f) (request.Stopped told) is = ap fault_status is
stopped asked (engine.Its f) (request.Stopped told) is = ap fault_status is
stopped asked engine.Read (request.Stopped told) is = ap fault_status is
stopped asked engine.Put (request.Stopped told) is = ap fault_status is
stopped asked engine.OutOfMemory (request.Stopped told) is = ap fault_status is
stopped asked (engine.NoFile number) (request.CannotRead path) is = refl
stopped asked engine.Keep (request.CannotRead path) is = refl
stopped asked fault told is = absurd is

-- a making one of whose opens was refused has status 3
no_file_fails : {K : Type 0} (made : Result K Fault) → is_no_file made ≡ true → made_status made ≡ 3
no_file_fails (Err (engine.NoFile number)) is = refl
no_file_fails made is = absurd (true≢false (sym is))

no_source : (kind : FaultKind) → tells_no_file kind ≡ true → source_status kind ≡ 3
no_source source.NoFile is = refl
no_source kind is = absurd (true≢false (sym is))

no_text_fails : {K : Type 0} (made : Result K Fault) → is_no_text made ≡ true → made_status made ≡ 3
no_text_fails (Err (engine.NoFile number)) is = refl
no_text_fails (Err (engine.Its fault)) is = no_source fault.kind is
no_text_fails made is = absurd (true≢false (sym is))

no_payload : (fault : FitFault) → refuses_payload fault ≡ true → fit_status fault ≡ 3
no_payload fit.NoFile is = refl
no_payload fault is = absurd (true≢false (sym is))

no_payload_fails : {K : Type 0} (made : Result K Fault) → is_no_payload made ≡ true → made_status made ≡ 3
no_payload_fails (Err (engine.Fit fault)) is = no_payload fault is
no_payload_fails made is = absurd (true≢false (sym is))

rises_only : (b : Bool) (old new : ℕ) → RisesIf b old new → old ≡ 0 → 1 ≤ new → b ≡ true
rises_only true old new rises none some = refl
rises_only false old new same none some = absurd (omega (arith, same, none, some))

source_fails : {K : Type 0} (made : Result K Fault) (old new : ℕ) (b : Bool) → is_no_payload made ≡ b → OnFalse b (RisesIf (is_no_text made) old new) → old ≡ 0 → 1 ≤ new → made_status made ≡ 3
source_fails made old new true is text none some = no_payload_fails made is
source_fails made old new false is text none some = no_text_fails made (rises_only (is_no_text made) old new text none some)

refused_fails : {K : Type 0} (command : MakeCommand) (made : Result K Fault) (old new : FileMap) → OpensToBuild command made old new → old.refusals ≡ 0 → 1 ≤ new.refusals → made_status made ≡ 3
refused_fails (Parts options files) made old new opens none some = no_file_fails made (rises_only (is_no_file made) old.refusals new.refusals opens.refusals none some)
refused_fails (Tree text placement) made old new opens none some = source_fails made old.refusals new.refusals (is_no_payload made) refl opens.text none some

has_status : {K : Type 0} (asked : MakeRequest) (made : Result K Fault) (met leads : Bool) (end : Result Status RequestFault) → AsMade asked made met end → (met ≡ true → leads ≡ true) → (leads ≡ true → made_status made ≡ 3)
    → IsMadeStatus made leads (end_status end)
has_status asked (Ok kept) met false (Ok status) is only fails = ap (λ (s : Status). end_status (Ok s)) is
has_status asked (Ok kept) met true (Ok status) is only fails = absurd (omega (arith, fails refl))
has_status asked (Err fault) true true (Err (request.WritesWhatIsRead path)) is only fails = inl refl
has_status asked (Err fault) true false (Err (request.WritesWhatIsRead path)) is only fails = absurd (true≢false (sym (only refl)))
has_status asked (Err fault) false true (Err told) is only fails = inr (stopped asked fault told is ∙ fails refl)
has_status asked (Err fault) false false (Err told) is only fails = stopped asked fault told is
has_status asked made met leads end is only fails = absurd is

-- what is told of a fault
same_tells : (K : Type 0) (asked : MakeRequest) (fault told : Fault) → told ≡ fault → TellsMaking {K = K} asked (Err fault) (Err (request.Stopped told))
same_tells K asked fault told is = inr (inr (ap fault_status is, ap (λ (it : Fault). told_of_end (Err (request.Stopped it))) is))

stopped_tells : (K : Type 0) (asked : MakeRequest) (fault : Fault) (told : RequestFault) → StoppedAs asked fault told → TellsMaking {K = K} asked (Err fault) (Err told)
stopped_tells K asked (engine.Legacy f) (request.Stopped told) is = same_tells K asked (engine.Legacy f) told is
stopped_tells K asked (engine.Blob f at) (request.Stopped told) is = same_tells K asked (engine.Blob f at) told is
stopped_tells K asked (engine.Fit f) (request.Stopped told) is = same_tells K asked (engine.Fit f) told is
stopped_tells K asked (engine.Its f) (request.Stopped told) is = same_tells K asked (engine.Its f) told is
stopped_tells K asked engine.Read (request.Stopped told) is = same_tells K asked engine.Read told is
stopped_tells K asked engine.Put (request.Stopped told) is = same_tells K asked engine.Put told is
stopped_tells K asked engine.OutOfMemory (request.Stopped told) is = same_tells K asked engine.OutOfMemory told is
stopped_tells K asked (engine.NoFile number) (request.CannotRead path) is = inl refl
stopped_tells K asked engine.Keep (request.CannotRead path) is = inl refl
stopped_tells K asked fault told is = absurd is

made_tells : {K : Type 0} (asked : MakeRequest) (made : Result K Fault) (met : Bool) (end : Result Status RequestFault) → AsMade asked made met end → TellsMaking asked made end
made_tells asked (Ok kept) met (Ok status) is = inr (inr (ap (λ (s : Status). end_status (Ok s)) is, refl))
made_tells asked (Err fault) true (Err (request.WritesWhatIsRead path)) is = inr (inl (ap (λ (p : Bor (List ℕ)). Err (request.WritesWhatIsRead p)) is))
made_tells {K = K} asked (Err fault) false (Err told) is = stopped_tells K asked fault told is
made_tells asked made met end is = absurd is

-- the same of an end that was written
written_tells : {K : Type 0} (asked : MakeRequest) (made : Result K Fault) (end last : Result Status RequestFault) → TellsMaking asked made end → end_status last ≡ end_status end
    → (end_status end ≡ 3) ⊎ (last ≡ end) → TellsMaking asked made last
written_tells asked made end last tells is (inl failed) = inl (is ∙ failed)
written_tells asked made end last tells is (inr same) = subst (λ (it : Result Status RequestFault). TellsMaking asked made it) (sym same) tells

-- the files stay honest
still_honest : {K : Type 0} (command : MakeCommand) (made : Result K Fault) (old new : FileMap) → OpensToBuild command made old new → new.honest ≡ old.honest
still_honest (Parts options files) made old new opens = opens.same.honest
still_honest (Tree source placement) made old new opens = opens.same.honest

-- the end of a making over the files of a folder
pub made_end : {K : Type 0} (device : K → Device) (identities : List ℕ → Option FileId) (asked : MakeRequest) (files start last : FileMap) (made : Result K Fault) (met : Bool) (end : Result Status RequestFault) (leads : List ℕ → Bool) (s t : Sink)
    → IsTrue files.honest → start ≡ files_of asked files → (IsTrue start.honest → MakesCommandBetween device asked.manner.naming asked.command asked.manner.time asked.manner.align start.bytes made s t)
    → OpensToBuild asked.command made start last → OpensCommand asked.command asked.manner.time asked.manner.align (is_err made) start last → leads_to identities asked.folder.now asked.outfile.now ≡ leads → (IsTrue last.honest → met ≡ true → list_any leads last.opened ≡ true)
    → (IsTrue last.honest → list_any leads last.opened ≡ true → 1 ≤ last.refusals) → AsMade asked made met end
    → MakesAt device identities asked files end s t
made_end device identities asked files start last made met end leads s t honest begins makes opens opened is only refused as_made =
    let was_honest = subst IsTrue (sym (ap (λ (m : FileMap). m.honest) begins)) honest in
    let still = subst IsTrue (sym (still_honest asked.command made start last opens)) was_honest in record {
      made = made;
      makes = subst (λ (m : FileMap). MakesCommandBetween device asked.manner.naming asked.command asked.manner.time asked.manner.align m.bytes made s t) begins (makes was_honest);
      last = last;
      opens = subst (λ (m : FileMap). OpensCommand asked.command asked.manner.time asked.manner.align (is_err made) m last) begins opened;
      is = has_status asked made met _ end as_made (subst (λ (l : List ℕ → Bool). met ≡ true → list_any l last.opened ≡ true) (sym is) (only still))
          (λ any. refused_fails asked.command made start last opens (ap (λ (m : FileMap). m.refusals) begins)
          (refused still (subst (λ (l : List ℕ → Bool). list_any l last.opened ≡ true) is any)));
      tells = made_tells asked made met end as_made;
    }

-- the same over the world that lent what opens the files
pub made_in : {K : Type 0} (device : K → Device) (first identities : List ℕ → Option FileId) (asked : MakeRequest) (world files : FileMap) (end : Result Status RequestFault) (s t : Sink)
    → first ≡ identities → SameFiles world files → MakesAt device first asked files end s t → MakesAt device identities asked world end s t
made_in device first identities asked world files end s t same_ids same makes = record {
  made = makes.made;
  makes = subst (λ (b : List ℕ → Option (List ℕ)). MakesRequested device asked b makes.made s t) same.bytes makes.makes;
  last = makes.last;
  opens = subst (λ (b : List ℕ → Option (List ℕ)). OpensRequested asked makes.made (record world { bytes = b }) makes.last) same.bytes
      (subst (λ (h : Bool). OpensRequested asked makes.made (record files { honest = h }) makes.last) same.honest makes.opens);
  is = subst (λ (ids : List ℕ → Option FileId). IsMadeStatus makes.made (opens_outfile ids asked makes.last) (end_status end)) same_ids makes.is;
  tells = makes.tells;
}

-- with the reason of a failed write
pub made_written : {K : Type 0} (device : K → Device) (identities : List ℕ → Option FileId) (asked : MakeRequest) (files : FileMap) (end last : Result Status RequestFault) (s t : Sink)
    → end_status last ≡ end_status end → (end_status end ≡ 3) ⊎ (last ≡ end) → MakesAt device identities asked files end s t → MakesAt device identities asked files last s t
made_written device identities asked files end last s t is stays makes = record {
  made = makes.made;
  makes = makes.makes;
  last = makes.last;
  opens = makes.opens;
  is = subst (λ (n : ℕ). IsMadeStatus makes.made (opens_outfile identities asked makes.last) n) (sym is) makes.is;
  tells = written_tells asked makes.made end last makes.tells is stays;
}
