-- What came of a making is what it means.
use Rattle.std.proofs.Common.{◌≡◌, ◌⊎◌, inl, inr, ℕ, List, Option, Some, Result, ap, sym, subst, ◌∙◌}
use Rattle.std.specs.Io.KnownBytes.{Keeps}
use Rattle.std.proofs.KnownBytes.{Keeps-refl}
use Rattle.uimg_base.specs.{Device.Device, Named.FileMap, Sink.Sink}
use Rattle.uimg_base.specs.declared.status.Status.{Status}
use Rattle.uimg_requests.specs.declared.requests.MakeRequest.{MakeRequest}
use Rattle.uimg_tool.specs.{Answering.Comes, FaultTexts.{told_of_end, told_of_made, writes_over}, Made.MeansMake, Makings.{IsMadeStatus, MakesAt, TellsMaking, made_status, opens_outfile}, Statuses.end_status}
use Rattle.uimg_tool.specs.declared.request_fault.RequestFault.{RequestFault}
use Rattle.uimg_world.specs.declared.file_id.FileId.{FileId}

module _ {K : Type 0} (device : K → Device) (identities : List ℕ → Option FileId) (asked : MakeRequest) (files : FileMap) (end : Result Status RequestFault) (s t : Sink) (status : ℕ) (told : Option (Option (List ℕ))) (old new : Option (List ℕ))
    (begins : s.contents ≡ old) (ends : new ≡ t.contents) (is : status ≡ end_status end) (tells : told ≡ told_of_end end) where
  means : (makes : MakesAt device identities asked files end s t) → ((status ≡ 2) × (told ≡ Some (writes_over asked.outfile))) ⊎ ((status ≡ made_status makes.made) × (told ≡ told_of_made makes.made)) → MeansMake device identities asked files status told old new
  means makes so = record {
    made = makes.made;
    before = s;
    after = t;
    makes = makes.makes;
    last = makes.last;
    opens = makes.opens;
    is = subst (λ (n : ℕ). IsMadeStatus makes.made (opens_outfile identities asked makes.last) n) (sym is) makes.is;
    tells = so;
    begins = begins;
    ends = subst (λ (x : Option (List ℕ)). Keeps t.contents x) (sym ends) (Keeps-refl t.contents);
  }

  each : (makes : MakesAt device identities asked files end s t) → TellsMaking asked makes.made end → Comes (MeansMake device identities asked files) status told old new
  each makes (inl failed) = inl (is ∙ failed)
  each makes (inr (inl same)) = inr (means makes (inl (is ∙ ap end_status same, tells ∙ ap told_of_end same)))
  each makes (inr (inr gives)) = inr (means makes (inr (is ∙ gives.0, tells ∙ gives.1)))

  pub made_comes : MakesAt device identities asked files end s t → Comes (MeansMake device identities asked files) status told old new
  made_comes makes = each makes makes.tells
