-- What is left as it was where an unpacking is refused.
use Rattle.std.proofs.Common.{◌≡◌, inl, inr, ℕ, List, ◌∷◌, true, false, Option, Some, None, refl, ap, sym, subst, ◌∙◌, true≢false}
use Rattle.std.specs.{Borrow.Bor, BTreeSet.BTreeSet, Global.Global, Prelude.Vec}
use Rattle.uimg_cli.specs.declared.command_line.keys.KeyRequest.{KeyRequest}
use Rattle.uimg_cli.specs.declared.command_line.unpack.UnpackRequest.{UnpackRequest}
use Rattle.uimg_tool.specs.{Checking.keys_read, EndingStatuses.{HasEndingStatus, ending_status}, Leavings.{LeavesAsked, LeavesEnding, is_refusal}, UnpackEnds.end_of, Unpackings.unpacking_of}
use Rattle.uimg_tool.specs.declared.unpack_answers.Ending.{Ending}
use Rattle.uimg_unpacking.specs.{Contents.{Files, files_after}, Leaving.{Leaves, is_left}}
use Rattle.uimg_unpacking.specs.declared.trouble.Trouble.TheVariants as of
use Rattle.uimg_unpacking.specs.declared.unpacking.Ended.{Ended}
use Rattle.uimg_unpacking.specs.declared.unpacking.Ended.TheVariants as fit
use Rattle.uimg_unpacking.specs.declared.unpacking.Unpacking.{Unpacking}
use Rattle.uimg_world.specs.Deeds.{Deed, Identifies, Opens}
use Rattle.uimg_world.specs.declared.file_id.FileId.{FileId}

-- at such a status no file has its name
left_status : (ended : Ended) → is_refusal (ending_status (end_of ended)) ≡ true → is_left ended ≡ true
left_status fit.Kept is = absurd (true≢false (sym is))
left_status fit.Refused is = refl
left_status fit.NoImage is = refl
left_status fit.Weak is = refl
left_status (fit.Stopped fault) is = refl
left_status (fit.StoppedLegacy fault) is = refl
left_status (fit.Troubled (of.NotPutBack path)) is = absurd (true≢false (sym is))
left_status (fit.Troubled (of.CannotPrint why)) is = absurd (true≢false (sym is))
left_status (fit.Troubled of.Closed) is = absurd (true≢false (sym is))
left_status (fit.Troubled _) is = refl

pub left_ended : (asked : Unpacking) (ended : Ended) (end : Ending) (before after : List Deed) → end ≡ end_of ended → (asked.keeps_good ≡ false → is_left ended ≡ true → Leaves asked.folder.path.now before after) → LeavesEnding asked end before after
left_ended asked ended end before after is leaves good refused = leaves good (left_status ended (ap (λ (e : Ending). is_refusal (ending_status e)) (sym is) ∙ refused))

-- the image was opened and looked at before
pub left_at : (asked : UnpackRequest) (path : Bor (List ℕ)) (among : Option (Bor (BTreeSet (Vec ℕ Global)))) (image : Option FileId) (unpacked : Unpacking) (end : Ending) (old middle new : List Deed) → unpacked ≡ unpacking_of asked among image path
    → middle ≡ Identifies path.now image ∷ Opens path.now true ∷ old → LeavesEnding unpacked end middle new → asked.keeps_good ≡ false → is_refusal (ending_status end) ≡ true → Leaves asked.folder.now old new
left_at asked path among image unpacked end old middle new is looked leaves good refused start told p own =
    let its : LeavesEnding (unpacking_of asked among image path) end middle new = subst (λ (a : Unpacking). LeavesEnding a end middle new) is leaves in
    its good refused start told p own ∙ ap (λ (t : List Deed). files_after start t p) looked

-- the same after it was told, by the status
refused_by : (end : Ending) (status : ℕ) → HasEndingStatus end status → is_refusal status ≡ true → is_refusal (ending_status end) ≡ true
refused_by end status (inl is) refused = ap is_refusal (sym is) ∙ refused
refused_by end status (inr is) refused = absurd (true≢false (sym refused ∙ ap is_refusal is))

pub left_told : (asked : UnpackRequest) (end : Ending) (status : ℕ) (old middle new : List Deed) → (asked.keeps_good ≡ false → is_refusal (ending_status end) ≡ true → Leaves asked.folder.now old middle)
    → (asked.as_json ≡ false → HasEndingStatus end status) → (asked.as_json ≡ false → is_refusal (ending_status end) ≡ true → new ≡ middle) → LeavesAsked asked status old new
left_told asked end status old middle new leaves has silent good plain refused =
    let by_end = refused_by end status (has plain) refused in
    subst (λ (t : List Deed). Leaves asked.folder.now old t) (sym (silent plain by_end)) (leaves good by_end)

pub left_failed : (asked : UnpackRequest) (status : ℕ) (before after : List Deed) → status ≡ 3 → LeavesAsked asked status before after
left_failed asked status before after failed good plain refused = absurd (true≢false (sym refused ∙ ap is_refusal failed))

-- the same after a file of keys was read, or nothing was cleaned
left_keys : (key : Option KeyRequest) (old : List Deed) (start : Files) (p : List ℕ) → files_after start (keys_read key old) p ≡ files_after start old p
left_keys None old start p = refl
left_keys (Some asked) old start p = refl

pub left_keyed : (asked : UnpackRequest) (status : ℕ) (old middle new : List Deed) → middle ≡ keys_read asked.key old → LeavesAsked asked status middle new → LeavesAsked asked status old new
left_keyed asked status old middle new noted left good plain refused start told p own =
    left good plain refused start told p own ∙ ap (λ (t : List Deed). files_after start t p) noted ∙ left_keys asked.key old start p

pub left_cleaned : (asked : UnpackRequest) (status : ℕ) (old middle new : List Deed) → middle ≡ old → LeavesAsked asked status middle new → LeavesAsked asked status old new
left_cleaned asked status old middle new same left = subst (λ (t : List Deed). LeavesAsked asked status t new) same left
