-- What the check of signatures reports.
use Rattle.std.specs.Prelude.{◌≡◌, ℕ, ◌==◌, List, [], ◌∷◌, Bool, true, false, Option, Some, None, Ok, if◌then◌else◌}
use Rattle.uimg_c.specs.declared.{codes.Code.Code, reports.UimgReport.UimgReport}
use Rattle.uimg_c.specs.{Codes.{refusal, strength}, Strict.{code_of_loose, loose_number}}
use Rattle.uimg_c.specs.Strict.{strict_code, why_in_fit}
use Rattle.uimg_engine.specs.Headline.{is_fit}
use Rattle.uimg_keys.specs.Keys.{HasKeys}
use Rattle.uimg_requests.specs.declared.command.Form.TheVariants as form
use Rattle.uimg_strict.specs.declared.loose.Looseness.TheVariants.{Unsigned}
use Rattle.uimg_sums.specs.declared.algo.Algo.{Algo}
use Rattle.uimg_verifying.specs.{Configurations.{only_of, unsigned_of}, declared.required.Required.Required}

-- the report if the keys are refused
abbrev pub no_keys : UimgReport
no_keys = record { status = 2; fault = 0; place = 0; needed = 0; written = 0; peak = 0 }

-- the numbers of the signatures of a FIT image, or of a legacy image, which has none
abbrev pub unsigned_code : Bool → Required → List ℕ → Option Code
unsigned_code true required image = code_of_loose (why_in_fit (unsigned_of required image))
unsigned_code false required image = Some (refusal 83 (loose_number Unsigned) 0)

-- the numbers of a strict check, or, if it finds all right and keys are required, of the signatures
abbrev pub signed_after : Bool → Option Required → List ℕ → Option Code → Option Code
signed_after fit None image strict = strict
signed_after fit (Some required) image None = None
signed_after fit (Some required) image (Some code) =
    if code.status == 0 then unsigned_code fit required image else Some code

-- the numbers of a check by these keys, if keys are required
abbrev pub signed_code : Option Algo → Option Required → List ℕ → Option Code
signed_code need required image =
    signed_after (is_fit form.Guess image) required image (strict_code need image)

-- the name of the only configuration that must be signed; without a byte each must be
abbrev pub config_named : List ℕ → Option (List ℕ)
config_named [] = None
config_named (byte ∷ rest) = Some (byte ∷ rest)

-- What a call requires by a file of keys and a name: signatures by its keys, none over SHA-1.
pub record Requires (file config : List ℕ) (required : Required) : Type 0 where
  pub has : HasKeys file required.keys
  pub only : only_of required ≡ config_named config
  pub sha1 : required.takes_sha1 ≡ false

-- A report without a text has the end of a check of signatures by the keys of a file.
pub record ReportsSigned (need : ℕ) (file config image : List ℕ) (report : UimgReport) : Type 0 where
  pub required : Required
  pub asked : Requires file config required
  pub code : signed_code (strength need) (Some required) image ≡ Some
      (record { status = report.status; fault = report.fault; place = report.place })
  pub no_text : (report.needed ≡ 0) × (report.written ≡ 0)

-- The keys of a file sign each configuration of a FIT image, or the one of this name.
pub record IsSigned (file config image : List ℕ) : Type 0 where
  pub required : Required
  pub asked : Requires file config required
  pub is : is_fit form.Guess image ≡ true
  pub signed : unsigned_of required image ≡ Ok None
