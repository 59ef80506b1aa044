-- What is changed while an image is unpacked.
use Rattle.std.proofs.Common.{◌≡◌, ◌⊎◌, inl, inr, ℕ, List, [], ◌∷◌, ◌++◌, Bool, true, false, ◌&&◌, refl, ap, ap₂, sym, subst, ◌∙◌, arith}
use mathlib.Core.List.{append_assoc}
use Rattle.std.proofs.lemmas.List.Folds.{list_all-append}
use Rattle.uimg_unpacking.proofs.Placing.{no_more, stays_naming}
use Rattle.uimg_world.specs.Deeds.{Deed, Opens, Identifies, changes, changes_only}
use Rattle.uimg_world.specs.declared.file_id.FileId.{FileId}
use Rattle.std.specs.Prelude.{Option, Some, None, Vec}
use Rattle.std.specs.{Borrow.Bor, BTreeSet.BTreeSet, Global.Global, Option.option_copied}
use Rattle.uimg_base.specs.Named.{FileMap, SameFiles}
use Rattle.uimg_cli.specs.declared.command_line.unpack.UnpackRequest.{UnpackRequest}
use Rattle.uimg_unpacking.specs.Places.{ChangesWithin, Obeys, Terms, may_change, terms_of}
use Rattle.uimg_checks.specs.Answers.{answer_status}
use Rattle.uimg_verifying.specs.declared.required.Required.{Required}
use Rattle.uimg_checks.specs.declared.answer.Answer.{Answer, TheVariants.{Failed, Refused}}
use Rattle.uimg_tool.specs.{Checking.keys_read, UnpackEnds.AnswersEnding, Unpackings.{HoldsPayloads, IsChosen, IsRight, KeepsAt, KeepsBy, KeepsImage, RightAt, SignedBy, UnpacksRight, unpacking_of}}
use Rattle.uimg_tool.specs.declared.unpack_answers.Ending.{Ending}
use Rattle.uimg_tool.specs.declared.unpack_answers.Ending.TheVariants as ending

both : (a b : Bool) → a ≡ true → b ≡ true → (a && b) ≡ true
both a b p q = ap₂ (λ (x y : Bool). x && y) p q

-- nothing was changed
pub unchanged : (folder : List ℕ) (is_naming : Bool) (old new : List Deed) → changes new ≡ changes old → ChangesWithin folder is_naming old new
unchanged folder is_naming old new same = record { made = []; is = same; within = refl }

-- what was changed before, and then
pub later : (folder : List ℕ) (is_naming : Bool) (old middle new : List Deed) → ChangesWithin folder is_naming old middle → ChangesWithin folder true middle new → ChangesWithin folder true old new
later folder is_naming old middle new first last = record {
  made = last.made ++ first.made;
  is = last.is ∙ ap (λ (t : List Deed). last.made ++ t) first.is ∙ sym (append_assoc last.made first.made (changes old));
  within = list_all-append (changes_only (may_change folder true)) last.made first.made
      ∙ both _ _ last.within (stays_naming folder is_naming first.made first.within);
}

pub cleaned_alone : (folder : List ℕ) (old new : List Deed) → ChangesWithin folder false old new → ChangesWithin folder true old new
cleaned_alone folder old new first = record { made = first.made; is = first.is; within = stays_naming folder false first.made first.within }

pub cleaned_first : (folder : List ℕ) (old middle new : List Deed) → ChangesWithin folder false old middle → ChangesWithin folder true middle new → ChangesWithin folder true old new
cleaned_first folder old middle new first last = later folder false old middle new first last

-- an ending that was told after the changes
pub told_after : (folder : List ℕ) (old middle new : List Deed) → ChangesWithin folder true old middle → changes new ≡ changes middle → ChangesWithin folder true old new
told_after folder old middle new first same = record { made = first.made; is = same ∙ first.is; within = first.within }

-- an image that was opened and looked at before
pub looked_before : (folder path : List ℕ) (file : Option FileId) (old middle new : List Deed) → middle ≡ Identifies path file ∷ Opens path true ∷ old → ChangesWithin folder true middle new → ChangesWithin folder true old new
looked_before folder path file old middle new looked last = record { made = last.made; is = last.is ∙ ap (λ (t : List Deed). last.made ++ changes t) looked; within = last.within }

-- a file of keys that was opened before
pub noted_before : (folder : List ℕ) (old middle new : List Deed) → changes middle ≡ changes old → ChangesWithin folder true middle new → ChangesWithin folder true old new
noted_before folder old middle new same last = record { made = last.made; is = last.is ∙ ap (λ (t : List Deed). last.made ++ t) same; within = last.within }

-- an end that is told as an object is none of status 0
failed : {P : Type 0} (status : ℕ) → (status ≡ 1) ⊎ (status ≡ 3) → status ≡ 0 → P
failed status (inl one) zero = absurd (omega arith)
failed status (inr three) zero = absurd (omega arith)

shown : (end : Ending) (answer : Answer) → AnswersEnding end answer → (answer_status answer ≡ 1) ⊎ (answer_status answer ≡ 3)
shown (ending.Told status) (Failed stop) is = inr refl
shown (ending.Told status) (Refused stop) is = inl refl
shown (ending.Unsigned answer) (Failed stop) is = inr refl
shown (ending.Unsigned answer) (Refused stop) is = inl refl
shown ending.Unread (Failed stop) is = inr refl
shown ending.Unread (Refused stop) is = inl refl
shown ending.Weak answer is = inl (ap answer_status is)
shown ending.NoImage answer is = inl (ap answer_status is)
shown (ending.Stopped fault) (Failed stop) is = inr refl
shown (ending.Stopped fault) (Refused stop) is = inl refl
shown (ending.Troubled trouble) (Failed stop) is = inr refl
shown (ending.Troubled trouble) (Refused stop) is = inl refl
shown end answer is = absurd is

-- nothing was asked for
pub nothing_called : (terms : Terms) (old new : List Deed) → new ≡ old → Obeys terms true old new
nothing_called terms old new same = no_more terms true old new same

-- an image that was opened and looked at before
pub right_at : (asked : UnpackRequest) (keys : Option Required) (path : Bor (List ℕ)) (among : Option (Bor (BTreeSet (Vec ℕ Global)))) (image : Option FileId) (file : List ℕ) (old middle new : List Deed) → middle ≡ Identifies path.now image ∷ Opens path.now true ∷ old
    → IsChosen asked.config file (option_copied among) → Obeys (terms_of (unpacking_of asked among image path).folder) true middle new → IsRight (unpacking_of asked among image path) file → HoldsPayloads (unpacking_of asked among image path) file new → SignedBy keys file
    → UnpacksRight asked keys path file old new
right_at asked keys path among image file old middle new looked chosen obeys right holds signed =
    record {
      image = image;
      among = among;
      chosen = chosen;
      obeys = subst (λ (t : List Deed). Obeys (terms_of (unpacking_of asked among image path).folder) true t new) looked obeys;
      right = right;
      holds = holds;
      signed = signed;
    }

-- the same after it was told
pub right_told : (files : FileMap) (asked : UnpackRequest) (keys : Option Required) (path : Bor (List ℕ)) (old middle new : List Deed) → RightAt files asked keys (Some path) old middle → new ≡ middle
    → RightAt files asked keys (Some path) old new
right_told files asked keys path old middle new right same = subst (λ (t : List Deed). RightAt files asked keys (Some path) old t) (sym same) right

-- the same of files that are the same, by keys that were read before
pub keys_right : (old_files new_files : FileMap) (asked : UnpackRequest) (keys : Option Required) (image : Option (Bor (List ℕ))) (old middle new : List Deed) → SameFiles old_files new_files → middle ≡ keys_read asked.key old
    → RightAt new_files asked keys image middle new → RightAt old_files asked keys image (keys_read asked.key old) new
keys_right old_files new_files asked keys None old middle new same noted right = tt
keys_right old_files new_files asked keys (Some path) old middle new same noted right = (
  right.0,
  sym (ap (λ (bytes : List ℕ → Option (List ℕ)). bytes path.now) same.bytes) ∙ right.1,
  subst (λ (t : List Deed). UnpacksRight asked keys path right.0 t new) noted right.2,
)

pub keys_kept : (old_files new_files : FileMap) (asked : UnpackRequest) (keys : Option Required) (image : Option (Bor (List ℕ))) (old middle new : List Deed) → SameFiles old_files new_files → middle ≡ keys_read asked.key old
    → KeepsImage new_files keys image middle new → KeepsImage old_files keys image (keys_read asked.key old) new
keys_kept old_files new_files asked keys None old middle new same noted kept = kept ∙ ap changes noted
keys_kept old_files new_files asked keys (Some path) old middle new same noted (inl signed) =
    inl (signed.0, sym (ap (λ (bytes : List ℕ → Option (List ℕ)). bytes path.now) same.bytes) ∙ signed.1, signed.2)
keys_kept old_files new_files asked keys (Some path) old middle new same noted (inr kept) = inr (kept ∙ ap changes noted)

-- an image that was opened and looked at before
pub kept_at : (files : FileMap) (keys : Option Required) (path file : List ℕ) (image : Option FileId) (old middle new : List Deed) → files.bytes path ≡ Some file → middle ≡ Identifies path image ∷ Opens path true ∷ old → KeepsBy keys file middle new
    → KeepsAt files keys path old new
kept_at files keys path file image old middle new found looked (inl signed) = inl (file, found, signed)
kept_at files keys path file image old middle new found looked (inr kept) = inr (kept ∙ ap changes looked)

-- the same after it was told
pub kept_told : (files : FileMap) (keys : Option Required) (path : List ℕ) (old middle new : List Deed) → KeepsAt files keys path old middle → changes new ≡ changes middle → KeepsAt files keys path old new
kept_told files keys path old middle new (inl signed) same = inl signed
kept_told files keys path old middle new (inr kept) same = inr (same ∙ kept)
