-- What a strict check without a refusal says.
use Rattle.std.proofs.Common.{◌≡◌, ℕ, Bool, true, List, Option, Some, None, Result, Ok, Err, refl, ap, subst, ◌∙◌, arith}
use Rattle.uimg_sums.specs.declared.algo.Algo.{Algo}
use Rattle.uimg_blob_reading.specs.declared.fault.BlobFault.{BlobFault}
use Rattle.uimg_blob_reading.specs.declared.fault.BlobFault.TheVariants as blob
use Rattle.uimg_fit_base.specs.declared.fault.Fault.{Fault as FitEngineFault}
use Rattle.uimg_fit_base.specs.declared.fault.Fault.TheVariants as of
use Rattle.uimg_engine.specs.{Headline.is_fit, Faults.of_fit}
use Rattle.uimg_engine.specs.declared.fault.Fault.TheVariants.{Blob}
use Rattle.uimg_checks.specs.Finding.{found_in_fit}
use Rattle.uimg_fit_checking.specs.Checks.{NamedFinding, check_of}
use Rattle.uimg_fit_checking.specs.declared.checking.Finding.TheVariants.{Right, Unhashed, Wrong, Weak, Overlapping, NoImage}
use Rattle.uimg_requests.specs.declared.command.Form.TheVariants as form
use Rattle.uimg_strict.specs.Looseness.{LooseSaid, looseness_of}
use Rattle.uimg_strict.specs.Readings.{ReadAsChecked}
use Rattle.uimg_strict.proofs.RightLaws.{read_as_checked}
use Rattle.uimg_c.specs.{Codes.code_of_fault, Strict.{strict_code, strictly, code_of_loose, why_in_fit}, declared.codes.Code.Code}
use Rattle.uimg_checks.specs.Finding as checks

-- the status in some numbers; 9 if there are none
unfoldable pub status_in : Option Code → ℕ
status_in None = 9
status_in (Some code) = code.status

blob_not_done : (f : BlobFault) (at : ℕ) → status_in (code_of_fault (Blob f at)) ≡ 0 → ⊥
unfolding status_in
blob_not_done blob.TooShort at is = omega (arith, is)
blob_not_done blob.BadMagic at is = omega (arith, is)
blob_not_done blob.BadVersion at is = omega (arith, is)
blob_not_done blob.BlockOutside at is = omega (arith, is)
blob_not_done blob.BadToken at is = omega (arith, is)
blob_not_done blob.Truncated at is = omega (arith, is)
blob_not_done blob.BadNodeName at is = omega (arith, is)
blob_not_done blob.BadNesting at is = omega (arith, is)
blob_not_done blob.BadPropertyName at is = omega (arith, is)
blob_not_done blob.TooLarge at is = omega (arith, is)
blob_not_done blob.OutOfMemory at is = omega (arith, is)

fault_not_done : (f : FitEngineFault) → status_in (code_of_fault (of_fit f)) ≡ 0 → ⊥
unfolding status_in
fault_not_done (of.Blob f at) is = blob_not_done f at is
fault_not_done (of.Fit f) is = omega (arith, is)
fault_not_done of.Read is = omega (arith, is)
fault_not_done of.Put is = omega (arith, is)

-- strictness refuses nothing
pub none_loose : (r : Result (Option LooseSaid) FitEngineFault) → status_in (code_of_loose (why_in_fit r)) ≡ 0 → r ≡ Ok None
unfolding status_in
none_loose (Ok None) is = refl
none_loose (Ok (Some said)) is = absurd (omega (arith, is))
none_loose (Err fault) is = absurd (fault_not_done fault is)

-- all hashes are right
read_by : (need : Algo) (image : List ℕ) (r : Result NamedFinding FitEngineFault) → check_of (Some need) image ≡ r → status_in (strictly image (found_in_fit r)) ≡ 0 → ReadAsChecked image
unfolding status_in
read_by need image (Ok (Right payloads nodes)) right is = read_as_checked (Some need) image payloads nodes right (none_loose (looseness_of image) is)
read_by need image (Ok (Unhashed node)) right is = absurd (omega (arith, is))
read_by need image (Ok (Wrong node hash word)) right is = absurd (omega (arith, is))
read_by need image (Ok (Weak node)) right is = absurd (omega (arith, is))
read_by need image (Ok (Overlapping node)) right is = absurd (omega (arith, is))
read_by need image (Ok NoImage) right is = absurd (omega (arith, is))
read_by need image (Err fault) right is = absurd (fault_not_done fault is)

pub by_need : (need : Option Algo) (image : List ℕ) → status_in (strict_code need image) ≡ 0 → is_fit form.Guess image ≡ true → ReadAsChecked image
unfolding status_in
by_need None image is fit = absurd (omega (arith, is))
by_need (Some need) image is fit = read_by need image (check_of (Some need) image) refl (subst (λ (b : Bool). status_in (strictly image (checks.check_of b (Some need) image)) ≡ 0) fit is)

-- U-Boot reads the image as it was checked.
pub read_if_done : (need : Option Algo) (image : List ℕ) (code : Code) → strict_code need image ≡ Some code → code.status ≡ 0 → is_fit form.Guess image ≡ true → ReadAsChecked image
unfolding status_in
read_if_done need image code is done fit = by_need need image (ap status_in is ∙ done) fit
