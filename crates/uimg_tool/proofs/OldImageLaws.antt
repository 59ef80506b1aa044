-- What a command on an image answers by the names of mkimage and dumpimage.
use Rattle.std.proofs.Common.{◌≡◌, ◌⊎◌, inl, inr, ℕ, List, ◌∷◌, Option, None, Result, Ok, Err, Bool, IsTrue, true, false, sym, subst, ◌∙◌}
use Rattle.std.specs.{Borrow.Bor, Prelude.{⊤, IfOk, OnErr}, Io.KnownBytes.{Appends, Keeps}, declared.io.Error.Error}
use Rattle.std.proofs.KnownBytes.{Appends-kept, Appends-nil}
use Rattle.uimg_base.specs.{Device.Device, Named.{FileMap, Opens}}
use Rattle.uimg_base.specs.declared.status.Status.{Status}
use Rattle.uimg_requests.specs.declared.requests.RunRequest.{RunRequest}
use Rattle.uimg_tool.specs.{Answering.Comes, FaultTexts.told_of_end, Images.{IsExtracted, MeansRun, outcome_on}, MadeEnds.end_printed, OldImages.{AnswersOldExtraction, PrintsOutcome, printed as shown}, Statuses.end_status}
use Rattle.uimg_tool.specs.Writings.{LeadsInPlace, WritesFor}
use Rattle.uimg_tool.specs.declared.request_fault.RequestFault.{RequestFault}
use Rattle.uimg_tool.specs.declared.safe_path.Writing.{Writing}
use Rattle.uimg_tool.specs.declared.safe_path.Writing.TheVariants as writing
use Rattle.uimg_world.specs.Deeds.{Deed, Opens as Opened}

module _ (is_quiet : Bool) (asked : RunRequest) (files : FileMap) (before after : List Deed) (outfile : Option (Bor (List ℕ))) (end : Result Status RequestFault) where
  -- a command that prints, with the flush of what it printed
  pub printed : (flushed : Result ⊤ Error) (status : ℕ) (old mid new : Option (List ℕ)) → is_quiet ≡ false → outfile ≡ None → status ≡ end_status (end_printed end flushed) → Keeps mid new
      → Comes (MeansRun asked outfile files before after) (end_status end) (told_of_end end) old mid → (status ≡ 3) ⊎ PrintsOutcome is_quiet asked files status old new
  printed (Err error) status old mid new aloud none is kept means = inl is
  printed (Ok flushed) status old mid new aloud none is kept means =
      each (subst (λ (o : Option (Bor (List ℕ))). Comes (MeansRun asked o files before after) (end_status end) (told_of_end end) old mid) none means) where
        each : Comes (MeansRun asked None files before after) (end_status end) (told_of_end end) old mid → (status ≡ 3) ⊎ PrintsOutcome is_quiet asked files status old new
        each (inl failed) = inl (is ∙ failed)
        each (inr (file, has, (status_is, tells, put))) =
            inr (file, has, is ∙ status_is, subst (λ (b : Bool). Appends old new (shown b (outcome_on asked file).text)) (sym aloud) (Appends-kept old mid new _ put kept))

  -- one that is to be quiet
  pub quiet : (status : ℕ) (old mid known : Option (List ℕ)) → is_quiet ≡ true → outfile ≡ None → status ≡ end_status end → Comes (MeansRun asked outfile files before after) (end_status end) (told_of_end end) old mid
      → (status ≡ 3) ⊎ PrintsOutcome is_quiet asked files status known known
  quiet status old mid known silent none is means =
      each (subst (λ (o : Option (Bor (List ℕ))). Comes (MeansRun asked o files before after) (end_status end) (told_of_end end) old mid) none means) where
        each : Comes (MeansRun asked None files before after) (end_status end) (told_of_end end) old mid → (status ≡ 3) ⊎ PrintsOutcome is_quiet asked files status known known
        each (inl failed) = inl (is ∙ failed)
        each (inr (file, has, (status_is, tells, put))) =
            inr (file, has, is ∙ status_is, subst (λ (b : Bool). Appends known known (shown b (outcome_on asked file).text)) (sym silent) (Appends-nil known))

-- the image was opened before the new file was created
pub beside : {S Z : Type 0} (device : S → Device) (asked : RunRequest) (path at : List ℕ) (seen : List Deed) (files : FileMap) (source : Result S Z) (end : Result Status RequestFault) (status : ℕ) (known : Option (List ℕ)) (before : List Deed) → IsTrue files.honest
    → IfOk source (λ opened. Opens files asked.image.now (device opened))
    → IfOk source (λ opened. IsTrue (device opened).honest → (end_status end ≡ 2) ⊎ Comes (IsExtracted asked at seen (device opened).bytes) (end_status end) (told_of_end end) known known)
    → OnErr source (end_status end ≡ 3) → (status ≡ 3) ⊎ (status ≡ end_status end) → AnswersOldExtraction asked path files status known known before
beside device asked path at seen files source end status known before honest opens extracts unread (inl failed) = inl failed
beside device asked path at seen files (Err fault) end status known before honest opens extracts unread (inr is) = inl (is ∙ unread)
beside device asked path at seen files (Ok opened) end status known before honest opens extracts unread (inr is) = each (extracts (opens.honest honest)) where
  each : (end_status end ≡ 2) ⊎ Comes (IsExtracted asked at seen (device opened).bytes) (end_status end) (told_of_end end) known known → AnswersOldExtraction asked path files status known known before
  each (inl over) = inr (inl (is ∙ over))
  each (inr (inl failed)) = inl (is ∙ failed)
  each (inr (inr held)) = inr (inr (inl (
    at,
    seen,
    told_of_end end,
    (
      (device opened).bytes,
      opens.bytes honest,
      subst (λ (n : ℕ). IsExtracted asked at seen (device opened).bytes n (told_of_end end) known known) (sym is) held,
    ),
  )))

pub placed : (asked : RunRequest) (path : List ℕ) (files : FileMap) (status : ℕ) (known : Option (List ℕ)) (opened : Bool) (before seen after : List Deed) → seen ≡ Opened asked.image.now opened ∷ before → LeadsInPlace path seen after
    → AnswersOldExtraction asked path files status known known before
placed asked path files status known opened before seen after is leads = inr (inr (inr (opened, after, subst (λ (t : List Deed). LeadsInPlace path t after) is leads)))

pub in_place : {F Z : Type 0} (path : List ℕ) (result : Result (Writing F) Z) (seen after : List Deed) → result ≡ Ok writing.InPlace → WritesFor path result seen after → LeadsInPlace path seen after
in_place path result seen after is writes = inr (subst (λ (r : Result (Writing _) _). WritesFor path r seen after) is writes)

pub to_pipe : {F Z : Type 0} (path : List ℕ) (result : Result (Writing F) Z) (seen after : List Deed) → result ≡ Ok writing.Pipe → WritesFor path result seen after → LeadsInPlace path seen after
to_pipe path result seen after is writes = inl (subst (λ (r : Result (Writing _) _). WritesFor path r seen after) is writes)
