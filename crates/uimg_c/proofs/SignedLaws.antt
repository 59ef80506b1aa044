-- What a check of signatures that finds all right says.
use Rattle.std.proofs.Common.{◌≡◌, ℕ, ◌==◌, Bool, true, false, List, Option, Some, None, Ok, if◌then◌else◌, refl, ap, sym, ◌∙◌, arith, true≢false}
use Rattle.std.specs.Cmp.{unsigned_Decides}
use Rattle.uimg_engine.specs.Headline.{is_fit}
use Rattle.uimg_requests.specs.declared.command.Form.TheVariants as form
use Rattle.uimg_sums.specs.declared.algo.Algo.{Algo}
use Rattle.uimg_strict.specs.Readings.{ReadAsChecked}
use Rattle.uimg_verifying.specs.{Configurations.unsigned_of, declared.required.Required.Required}
use Rattle.uimg_c.specs.{Codes.strength, Strict.strict_code, declared.codes.Code.Code, declared.reports.UimgReport.UimgReport}
use Rattle.uimg_c.specs.Signed.{IsSigned, ReportsSigned, signed_after, signed_code, unsigned_code}
use Rattle.uimg_c.proofs.StrictLaws.{by_need, none_loose, status_in}

-- the code of a strict check, and that of the signatures, if that of both is 0
Both : Option Code → Option Code → Type 0
Both strict signed = (status_in strict ≡ 0) × (status_in signed ≡ 0)

both_in : (b : Bool) (code : Code) (later : Option Code) → (code.status == 0) ≡ b → status_in (if b then later else Some code) ≡ 0 → Both (Some code) later
unfolding status_in Both
both_in true code later zero is = ((unsigned_Decides code.status 0).0 zero, is)
both_in false code later other is = absurd (true≢false (sym ((unsigned_Decides code.status 0).1 is) ∙ other))

both : (required : Required) (image : List ℕ) (strict : Option Code) → status_in (signed_after (is_fit form.Guess image) (Some required) image strict) ≡ 0 → Both strict (unsigned_code (is_fit form.Guess image) required image)
unfolding status_in Both
both required image None is = absurd (omega (arith, is))
both required image (Some code) is = both_in (code.status == 0) code (unsigned_code (is_fit form.Guess image) required image) refl is

fit_signed : (fit : Bool) (required : Required) (image : List ℕ) → status_in (unsigned_code fit required image) ≡ 0 → (fit ≡ true) × (unsigned_of required image ≡ Ok None)
unfolding status_in
fit_signed true required image is = (refl, none_loose (unsigned_of required image) is)
fit_signed false required image is = absurd (omega (arith, is))

done : (need : ℕ) (file config image : List ℕ) (report : UimgReport) (r : ReportsSigned need file config image report) → report.status ≡ 0 → Both (strict_code (strength need) image) (unsigned_code (is_fit form.Guess image) r.required image)
unfolding status_in
done need file config image report r zero = both r.required image (strict_code (strength need) image) (ap status_in r.code ∙ zero)

-- The keys sign each configuration.
pub signed_if_done : (need : ℕ) (file config image : List ℕ) (report : UimgReport) → ReportsSigned need file config image report → report.status ≡ 0 → IsSigned file config image
unfolding Both
signed_if_done need file config image report r zero =
    let found = fit_signed (is_fit form.Guess image) r.required image (done need file config image report r zero).1 in
    record { required = r.required; asked = r.asked; is = found.0; signed = found.1 }

-- U-Boot reads the image as it was checked.
pub read_if_signed : (need : ℕ) (file config image : List ℕ) (report : UimgReport) → ReportsSigned need file config image report → report.status ≡ 0 → ReadAsChecked image
unfolding Both
read_if_signed need file config image report r zero =
    let b = done need file config image report r zero in
    by_need (strength need) image b.0 (fit_signed (is_fit form.Guess image) r.required image b.1).0
