-- What is told of an unpacking is that of its end.
use Rattle.std.proofs.Common.{◌≡◌, ◌⊎◌, inl, inr, ℕ, List, Option, Some, None, Bool, true, false, refl, ap, sym, subst, ◌∙◌, true≢false}
use Rattle.std.specs.{Borrow.Bor, BTreeSet.BTreeSet, Global.Global, Option.option_copied, Prelude.Vec}
use Rattle.uimg_base.specs.Named.{FileMap, SameFiles}
use Rattle.uimg_cli.specs.declared.command_line.unpack.UnpackRequest.{UnpackRequest}
use Rattle.uimg_checks.specs.declared.{answer.Answer.Answer, judging.Terms.Terms}
use Rattle.uimg_engine.specs.Headline.{is_fit}
use Rattle.uimg_verifying.specs.declared.required.Required.{Required}
use Rattle.uimg_requests.specs.declared.command.Form.TheVariants as form
use Rattle.uimg_tool.specs.{EndingStatuses.{HasEndingStatus, ending_status}, Unpacked.TellsImage, Unpackings.{IsChosen, IsUnchosen, signed_terms, unpacking_of}}
use Rattle.uimg_tool.specs.UnpackComplaints.{EndsAsked, EndsAt, EndsIn, EndsOver, EndsSigned, EndsUnsigned, told_of_unpacking}
use Rattle.uimg_tool.specs.declared.unpack_answers.Ending.{Ending}
use Rattle.uimg_tool.specs.declared.unpack_answers.Ending.TheVariants as ending
use Rattle.uimg_world.specs.declared.file_id.FileId.{FileId}
use Rattle.uimg_unpacking.specs.declared.unpacking.Unpacking.{Unpacking}

-- The definition does not ask which file the image is.
any_image : (is : Bool) (asked : UnpackRequest) (among : Option (Bor (BTreeSet (Vec ℕ Global)))) (image : Option FileId) (path : Bor (List ℕ)) (file : List ℕ) (end : Ending) → EndsIn is (unpacking_of asked among image path) file end → EndsIn is (unpacking_of asked among None path) file end
any_image true asked among image path file end ends = ends
any_image false asked among image path file end ends = ends

over_at : (files : FileMap) (asked : UnpackRequest) (path : Bor (List ℕ)) (among : Option (Bor (BTreeSet (Vec ℕ Global)))) (image : Option FileId) (file : List ℕ) (end : Ending) → files.bytes path.now ≡ Some file → IsChosen asked.config file (option_copied among)
    → EndsOver (unpacking_of asked among image path) file end → EndsAt files asked path end
over_at files asked path among image file end found chosen (inl failed) = inl failed
over_at files asked path among image file end found chosen (inr ends) =
    inr (file, found, record { among = among; chosen = chosen; ends = any_image (is_fit form.Guess file) asked among image path file end ends })

-- an image that was opened
pub ended_at : (files : FileMap) (asked : UnpackRequest) (terms : Terms) (path : Bor (List ℕ)) (among : Option (Bor (BTreeSet (Vec ℕ Global)))) (image : Option FileId) (file : List ℕ) (unpacking : Unpacking) (end : Ending) → unpacking ≡ unpacking_of asked among image path
    → terms ≡ signed_terms asked terms.required → files.bytes path.now ≡ Some file → IsChosen asked.config file (option_copied among) → EndsSigned unpacking terms file end → EndsAsked files asked terms.required path end
ended_at files asked terms path among image file unpacking end is are found chosen (inl ends) =
    inl (over_at files asked path among image file end found chosen (subst (λ (it : Unpacking). EndsOver it file end) is ends))
ended_at files asked terms path among image file unpacking end is are found chosen (inr unsigned) =
    inr (file, found, inl (subst (λ (it : Terms). EndsUnsigned it file end) are unsigned))

-- an image without what is chosen
pub unchosen_at : (files : FileMap) (asked : UnpackRequest) (keys : Option Required) (path : Bor (List ℕ)) (file : List ℕ) (answer : Answer) (end : Ending) → end ≡ ending.Unsigned answer → files.bytes path.now ≡ Some file
    → IsUnchosen asked.config file answer → EndsAsked files asked keys path end
unchosen_at files asked keys path file answer end is found shows = inr (file, found, inr (answer, is, shows))

has_status : (end : Ending) (status : ℕ) → HasEndingStatus end status → (status ≡ 3) ⊎ (status ≡ ending_status end)
has_status end status (inl same) = inr same
has_status end status (inr failed) = inl failed

-- Without JSON the status is that of the end, unless it is 3.
by_json : (json is : Bool) (end : Ending) (status : ℕ) → json ≡ is → (json ≡ false → HasEndingStatus end status) → (status ≡ 3) ⊎ (json ≡ false → status ≡ ending_status end)
by_json json true end status is has = inr (λ other. absurd (true≢false (sym is ∙ other)))
by_json json false end status is has = without (has_status end status (has is)) where
  without : (status ≡ 3) ⊎ (status ≡ ending_status end) → (status ≡ 3) ⊎ (json ≡ false → status ≡ ending_status end)
  without (inl failed) = inl failed
  without (inr same) = inr (λ _. same)

module _ (files : FileMap) (asked : UnpackRequest) (keys : Option Required) (path : Bor (List ℕ)) (end : Ending) (status : ℕ) (told : Option (Option (List ℕ))) where
  both : EndsAsked files asked keys path end → (status ≡ 3) ⊎ (asked.as_json ≡ false → status ≡ ending_status end)
      → (status ≡ 3) ⊎ (told ≡ told_of_unpacking path.now asked.as_json end) → (status ≡ 3) ⊎ TellsImage files asked keys (Some path) status told
  both ends (inl failed) tells = inl failed
  both ends (inr is) (inl failed) = inl failed
  both ends (inr is) (inr tells) = inr (record { end = end; ends = ends; is = is; tells = tells })

  pub image_told : EndsAsked files asked keys path end → (asked.as_json ≡ false → HasEndingStatus end status)
      → (status ≡ 3) ⊎ (told ≡ told_of_unpacking path.now asked.as_json end) → (status ≡ 3) ⊎ TellsImage files asked keys (Some path) status told
  image_told ends has tells = both ends (by_json asked.as_json asked.as_json end status refl has) tells

-- the same of files that are the same
ends_same : (old_files new_files : FileMap) (asked : UnpackRequest) (keys : Option Required) (path : Bor (List ℕ)) (end : Ending) → SameFiles old_files new_files → EndsAsked new_files asked keys path end → EndsAsked old_files asked keys path end
ends_same old_files new_files asked keys path end same (inl (inl failed)) = inl (inl failed)
ends_same old_files new_files asked keys path end same (inl (inr ends)) =
    inl (inr (ends.0, sym (ap (λ (bytes : List ℕ → Option (List ℕ)). bytes path.now) same.bytes) ∙ ends.1, ends.2))
ends_same old_files new_files asked keys path end same (inr ends) =
    inr (ends.0, sym (ap (λ (bytes : List ℕ → Option (List ℕ)). bytes path.now) same.bytes) ∙ ends.1, ends.2)

pub image_same : (old_files new_files : FileMap) (asked : UnpackRequest) (keys : Option Required) (image : Option (Bor (List ℕ))) (status : ℕ) (told : Option (Option (List ℕ))) → SameFiles old_files new_files
    → TellsImage new_files asked keys image status told → TellsImage old_files asked keys image status told
image_same old_files new_files asked keys None status told same tells = tells
image_same old_files new_files asked keys (Some path) status told same tells =
    record { end = tells.end; ends = ends_same old_files new_files asked keys path tells.end same tells.ends; is = tells.is; tells = tells.tells }

-- Where the folder is cleaned before, nothing is said.
pub unless_cleaned : {P Q : Type 0} (cleans is : Bool) (status : ℕ) → cleans ≡ is → (cleans ≡ false → (status ≡ 3) ⊎ Q) → (cleans ≡ false → Q → P) → (status ≡ 3) ⊎ (cleans ≡ false → P)
unless_cleaned cleans true status is given so = inr (λ kept. absurd (true≢false (sym is ∙ kept)))
unless_cleaned {P = P} {Q = Q} cleans false status is given so = each (given is) where
  each : (status ≡ 3) ⊎ Q → (status ≡ 3) ⊎ (cleans ≡ false → P)
  each (inl failed) = inl failed
  each (inr told) = inr (λ kept. so kept told)
