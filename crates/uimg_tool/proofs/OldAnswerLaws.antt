-- What the making of an image by the names of mkimage answers, by how it ended.
use Rattle.std.proofs.Common.{◌≡◌, ◌⊎◌, inl, inr, ℕ, List, [], Bool, false, true, Option, Some, None, Result, Ok, Err, refl, sym, subst, ◌∙◌, arith, true≢false}
use Rattle.std.specs.{Io.KnownBytes.Keeps, Prelude.{⊤, OnOk, is_ok}, declared.io.Error.Error}
use Rattle.uimg_base.specs.{Device.Device, Named.{FileMap, SameFiles}, Sink.Sink}
use Rattle.uimg_base.specs.declared.status.Status.{Status}
use Rattle.uimg_requests.specs.declared.requests.MakeRequest.{MakeRequest}
use Rattle.uimg_tool.proofs.MakingLaws.{made_in, made_written}
use Rattle.uimg_tool.specs.{MadeEnds.end_printed, Makings.{AnswersMade, IsMadeStatus, MakesAt, opens_outfile}, Statuses.end_status}
use Rattle.uimg_tool.specs.OldMakings.{AnswersListed, AnswersOldMaking, MakesIn}
use Rattle.uimg_tool.specs.Writings.{WritesNew}
use Rattle.uimg_tool.specs.declared.{old_files.Begun.Begun, request_fault.RequestFault.RequestFault}
use Rattle.uimg_tool.specs.declared.safe_path.{SafePath.SafePath, Writing.Writing}
use Rattle.uimg_tool.specs.declared.safe_path.Writing.TheVariants as writing
use Rattle.uimg_world.specs.declared.file_id.FileId.{FileId}

-- nothing is in a file that was created
pub is_new : {F Z : Type 0} (contents : F → Option (List ℕ)) (result : Result (Writing F) Z) (file : F) (safe : SafePath) → result ≡ Ok (writing.Beside file safe)
    → WritesNew contents result → contents file ≡ Some []
is_new contents result file safe is new = subst (λ (r : Result (Writing _) _). WritesNew contents r) is new

-- the status of an end with the flush of what it printed
pub end_or_failed : (end : Result Status RequestFault) (printed : Result ⊤ Error) (status : ℕ) → status ≡ end_status (end_printed end printed) → (status ≡ 3) ⊎ (status ≡ end_status end)
end_or_failed end (Ok flushed) status is = inr is
end_or_failed end (Err error) status is = inl is

pub when_ok : {U E P : Type 0} (r : Result U E) → is_ok r ≡ true → OnOk r P → P
when_ok (Ok value) ok holds = holds
when_ok (Err error) ok holds = absurd (true≢false (sym ok))

-- what is printed was flushed if the status is 0
pub is_flushed : (end : Result Status RequestFault) (printed : Result ⊤ Error) (status : ℕ) → status ≡ end_status (end_printed end printed) → status ≡ 0 → is_ok printed ≡ true
is_flushed end (Ok flushed) status is done = refl
is_flushed end (Err error) status is done = let failed : status ≡ 3 = is in absurd (omega (arith, failed, done))

pub kept : (known : Option (List ℕ)) → Keeps known known
kept None = tt
kept (Some bytes) = refl

module _ (first identities : List ℕ → Option FileId) (asked : MakeRequest) (world files : FileMap) (status : ℕ) (end : Result Status RequestFault)
    (same_ids : first ≡ identities) (same : SameFiles world files) (is_quiet : Bool) (old new : Option (List ℕ)) (s t : Sink) where
  -- over the world that lent what opens the files
  answered : {K : Type 0} (device : K → Device) (before after : Option (List ℕ)) → MakesAt device first asked files end s t → s.contents ≡ before → Keeps t.contents after → status ≡ end_status end
      → AnswersMade device identities asked world status before after
  answered device before after makes begins ends is =
      let moved = made_in device first identities asked world files end s t same_ids same makes in record {
        made = moved.made;
        before = s;
        after = t;
        makes = moved.makes;
        last = moved.last;
        opens = moved.opens;
        is = subst (λ (n : ℕ). IsMadeStatus moved.made (opens_outfile identities asked moved.last) n) (sym is) moved.is;
        begins = begins;
        ends = ends;
      }

  listed : {K : Type 0} (device : K → Device) (quiet : Bool) → MakesAt device first asked files end s t → (quiet ≡ false → (s.contents ≡ old) × Keeps t.contents new) → status ≡ end_status end
      → AnswersListed quiet device identities asked world status old new
  listed device false makes prints is = answered device old new makes (prints refl).0 (prints refl).1 is
  listed device true makes prints is = (s.contents, t.contents, answered device s.contents t.contents makes refl (kept t.contents) is)

  pub there : {K N : Type 0} (kept_there : K → Device) (kept_new : N → Device) → (end_status end ≡ 3) ⊎ MakesAt kept_there first asked files end s t → (is_quiet ≡ false → (s.contents ≡ old) × Keeps t.contents new)
      → (status ≡ 3) ⊎ (status ≡ end_status end) → AnswersOldMaking is_quiet kept_there kept_new identities asked world status old new
  there kept_there kept_new made prints (inl failed) = inl failed
  there kept_there kept_new (inl failed) prints (inr is) = inl (is ∙ failed)
  there kept_there kept_new (inr makes) prints (inr is) = inr (inl (listed kept_there is_quiet makes prints is))

  pub in_new : {K N : Type 0} (kept_there : K → Device) (kept_new : N → Device) → (end_status end ≡ 3) ⊎ MakesAt kept_new first asked files end s t → (is_quiet ≡ false → (s.contents ≡ old) × Keeps t.contents new)
      → (status ≡ 3) ⊎ (status ≡ end_status end) → AnswersOldMaking is_quiet kept_there kept_new identities asked world status old new
  in_new kept_there kept_new made prints (inl failed) = inl failed
  in_new kept_there kept_new (inl failed) prints (inr is) = inl (is ∙ failed)
  in_new kept_there kept_new (inr makes) prints (inr is) = inr (inr (listed kept_new is_quiet makes prints is))

pub failed_in : {F K N : Type 0} (begun : Option (Begun F)) (kept_there : K → Device) (kept_new : N → Device) (identities : List ℕ → Option FileId) (asked : MakeRequest) (files : FileMap) (end : Result Status RequestFault) (s t : Sink)
    → end_status end ≡ 3 → MakesIn begun kept_there kept_new identities asked files end s t
failed_in None kept_there kept_new identities asked files end s t is = inl is
failed_in (Some it) kept_there kept_new identities asked files end s t is = inl is

-- the end of a making that wrote to a file, with the reason of a failed write
module _ {F K N : Type 0} (begun : Option (Begun F)) (kept_there : K → Device) (kept_new : N → Device) (identities : List ℕ → Option FileId) (asked : MakeRequest) (files : FileMap) (made last : Result Status RequestFault) (s t : Sink) where
  ended : {X : Type 0} (device : X → Device) (end : Result Status RequestFault) (after : Sink) → made ≡ end → t ≡ after → end_status last ≡ end_status made → (end_status made ≡ 3) ⊎ (last ≡ made) → MakesAt device identities asked files end s after
      → MakesAt device identities asked files last s t
  ended device end after same prints status stays makes =
      made_written device identities asked files made last s t status stays
      (subst (λ (e : Result Status RequestFault). MakesAt device identities asked files e s t) (sym same)
      (subst (λ (u : Sink). MakesAt device identities asked files end s u) (sym prints) makes))

  pub new_in : (it : Begun F) (end : Result Status RequestFault) (after : Sink) → begun ≡ Some it → made ≡ end → t ≡ after → end_status last ≡ end_status made → (end_status made ≡ 3) ⊎ (last ≡ made)
      → MakesAt kept_new identities asked files end s after → MakesIn begun kept_there kept_new identities asked files last s t
  new_in it end after is same prints status stays makes =
      subst (λ (its : Option (Begun F)). MakesIn its kept_there kept_new identities asked files last s t) (sym is) (inr (ended kept_new end after same prints status stays makes))

  pub there_in : (end : Result Status RequestFault) (after : Sink) → begun ≡ None → made ≡ end → t ≡ after → end_status last ≡ end_status made → (end_status made ≡ 3) ⊎ (last ≡ made)
      → MakesAt kept_there identities asked files end s after → MakesIn begun kept_there kept_new identities asked files last s t
  there_in end after is same prints status stays makes =
      subst (λ (its : Option (Begun F)). MakesIn its kept_there kept_new identities asked files last s t) (sym is) (inr (ended kept_there end after same prints status stays makes))
