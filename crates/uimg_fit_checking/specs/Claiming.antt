-- The claims that the taker of a FIT image's payloads gets before any is unpacked, in order, whatever
-- it does with them.
use Rattle.std.specs.Prelude.{◌≡◌, ℕ, ◌-◌, List, [], ◌∷◌, ◌++◌, length, nat_lt, if◌then◌else◌}
use Rattle.std.specs.Prelude.{Option, Some, None, Result, Ok, Err}
use Rattle.uimg_blob_reading.specs.LookUps.{NodeOf}
use Rattle.uimg_blob_reading.specs.Spots.{Spot}
use Rattle.uimg_fit_base.specs.declared.fault.Fault.{Fault}
use Rattle.uimg_fit_base.specs.declared.fault.Fault.TheVariants as of
use Rattle.uimg_fit_base.specs.declared.fault.FitFault.{FitFault}
use Rattle.uimg_fit_base.specs.Places.{payload}
use Rattle.uimg_fit_base.specs.Files.{images_of}
use Rattle.uimg_fit_checking.specs.declared.unpacking.requested.Requested.{Requested}
use Rattle.uimg_fit_checking.specs.Unpacking.{Which, as_bytes, is_asked}

-- a claim: the name of an image, and the length of its payload
pub record Claim : Type 0 where
  pub name : List ℕ
  pub size : ℕ

abbrev pub claim : List ℕ → ℕ → Claim
claim name size = record { name = name; size = size }

-- a payload is claimed if it fits the bytes that may still be read; then the other ones are
abbrev pub claims_before : List ℕ → ℕ → Result (List ℕ) FitFault → (ℕ → List Claim) → List Claim
claims_before name left (Ok message) later =
    if nat_lt left (length message) then [] else claim name (length message)
    ∷ later (left - length message)
claims_before name left (Err fault) later = []

-- The requested payloads are claimed in order, up to the first that is refused or exceeds the bytes
-- that may be read.
unfoldable pub claims : Which → List ℕ → ℕ → List (NodeOf Spot) → List Claim
claims only file left [] = []
claims only file left (image ∷ more) =
    if is_asked only image.name then claims_before image.name left (payload file image)
    (λ rest. claims only file rest more)
    else claims only file left more

-- the same for the images of a file; as many bytes may be read as it has
abbrev pub claims_in : {E : Type 0} → Which → List ℕ → Result (List (NodeOf Spot)) E
    → List Claim
claims_in only file (Ok found) = claims only file (length file) found
claims_in only file (Err fault) = []

abbrev pub claims_of : Which → List ℕ → List Claim
claims_of only file = claims_in only file (images_of file)

-- the claim for a payload that was found, if `left` bytes may be read
abbrev pub claim_of : ℕ → Option Requested → List Claim
claim_of left None = []
claim_of left (Some found) =
    if nat_lt left found.span.length then [] else claim (as_bytes found.name) found.span.length ∷ []

-- Some of the claims were told: the first ones.
pub record ClaimedFirst (all old new : List Claim) : Type 0 where
  pub rest : List Claim
  pub is : new ++ rest ≡ old ++ all

-- What was told at any exit: all claims of the definition, or the first of them if a device failed.
abbrev pub ClaimsTo : {X : Type 0} → List Claim → Result X Fault → List Claim → List Claim → Type 0
ClaimsTo all (Ok found) old new = new ≡ old ++ all
ClaimsTo all (Err (of.Fit fault)) old new = new ≡ old ++ all
ClaimsTo all (Err (of.Blob fault at)) old new = new ≡ old
ClaimsTo all (Err fault) old new = ClaimedFirst all old new
