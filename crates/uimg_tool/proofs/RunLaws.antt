-- What the result of an engine comes to is what the outcome of its command means.
use Rattle.std.proofs.Common.{◌≡◌, if◌then◌else◌, ℕ, List, Bool, true, false, Option, Some, Result, Ok, Err, ◌⊎◌, inl, inr, refl, ap, sym, subst, ◌∙◌}
use Rattle.uimg_base.specs.{Outcome.{End, done, not_right, refused, Tells}, Sink.{Sink}}
use Rattle.uimg_base.specs.declared.status.Status.{Status, TheVariants.{Done, NotRight}}
use Rattle.uimg_blob_reading.specs.Faults.{refuses_memory}
use Rattle.uimg_checks.specs.FaultStatuses.{fault_status}
use Rattle.uimg_engine.specs.Faults.{end_of, unless_memory}
use Rattle.uimg_engine.specs.declared.fault.Fault.{Fault}
use Rattle.uimg_engine.specs.declared.fault.Fault.TheVariants as engine
use Rattle.uimg_requests.specs.declared.requests.RunRequest.{RunRequest}
use Rattle.uimg_tool.specs.{Answering.Comes, FaultTexts.{told_of_end, told_of_outcome}, Statuses.end_status}
use Rattle.uimg_tool.specs.Images.{IsOutcome, outcome_on, outcome_status, run_end}
use Rattle.uimg_tool.specs.declared.request_fault.RequestFault.{RequestFault}

-- a fault is the end of an outcome, or its status is 3
blob_means : (fault : Fault) (no_memory : Bool) → (unless_memory no_memory (refused fault) ≡ Some (refused fault)) ⊎ (◌≡◌ {A = ℕ} (if no_memory then 3 else 1) 3)
blob_means fault true = inr refl
blob_means fault false = inl refl

means : (fault : Fault) → (end_of (Err fault) ≡ Some (refused fault)) ⊎ (fault_status fault ≡ 3)
means (engine.Legacy fault) = inl refl
means (engine.Blob fault at) = blob_means (engine.Blob fault at) (refuses_memory fault)
means (engine.Fit fault) = inl refl
means (engine.Its fault) = inl refl
means engine.Read = inr refl
means engine.Put = inr refl
means (engine.NoFile number) = inl refl
means engine.Keep = inl refl
means engine.OutOfMemory = inl refl

module _ (asked : RunRequest) (file : List ℕ) (s t : Sink) where
  by_end : (e : End Fault) (m : Option (End Fault)) (status : ℕ) (told : Option (Option (List ℕ))) → m ≡ Some e → status ≡ outcome_status e → told ≡ told_of_outcome e
      → Tells m (outcome_on asked file) s t → Comes (IsOutcome asked file) status told s.contents t.contents
  by_end e m status told is same tells gives =
      let it : Tells (Some e) (outcome_on asked file) s t = subst (λ (m : Option (End Fault)). Tells m (outcome_on asked file) s t) is gives in
      inr (same ∙ ap outcome_status (sym it.0), tells ∙ ap told_of_outcome (sym it.0), it.1.appended)

  stopped : (fault : Fault) → (end_of (Err fault) ≡ Some (refused fault)) ⊎ (fault_status fault ≡ 3) → Tells (end_of (Err fault)) (outcome_on asked file) s t
      → Comes (IsOutcome asked file) (fault_status fault) (told_of_outcome (refused fault)) s.contents t.contents
  stopped fault (inr failed) gives = inl failed
  stopped fault (inl is) gives = by_end (refused fault) (end_of (Err fault)) _ _ is refl refl gives

  ended : (end : Result Status Fault) → Tells (end_of end) (outcome_on asked file) s t → Comes (IsOutcome asked file) (end_status (run_end end)) (told_of_end (run_end end)) s.contents t.contents
  ended (Ok Done) gives = by_end done (Some done) _ _ refl refl refl gives
  ended (Ok NotRight) gives = by_end not_right (Some not_right) _ _ refl refl refl gives
  ended (Err fault) gives = stopped fault (means fault) gives

  -- the result of an engine
  pub came : (end : Result Status Fault) (is : Result Status RequestFault) (old new : Option (List ℕ)) → s.contents ≡ old → new ≡ t.contents → is ≡ run_end end → Tells (end_of end) (outcome_on asked file) s t
      → Comes (IsOutcome asked file) (end_status is) (told_of_end is) old new
  came end is old new begins ends so gives =
      subst (λ (e : Result Status RequestFault). Comes (IsOutcome asked file) (end_status e) (told_of_end e) old new) (sym so)
      (subst (λ (x : Option (List ℕ)). Comes (IsOutcome asked file) (end_status (run_end end)) (told_of_end (run_end end)) x new) begins
      (subst (λ (x : Option (List ℕ)). Comes (IsOutcome asked file) (end_status (run_end end)) (told_of_end (run_end end)) s.contents x) (sym ends) (ended end gives)))
