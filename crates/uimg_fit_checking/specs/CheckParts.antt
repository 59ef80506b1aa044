-- Checks of the images of a FIT image, one after the other.
use Rattle.std.specs.Prelude.{◌≡◌, ⊤, ℕ, ◌+◌, ◌≤◌, ◌*◌, List, length, Option, Some, None, Result}
use Rattle.std.specs.Prelude.{Ok, Err, IfOk, IfSome}
use Rattle.std.specs.List.{sum_by}
use Rattle.std.specs.Option.{option_map}
use Rattle.uimg_sums.specs.declared.algo.Algo.{Algo}
use Rattle.uimg_texts.specs.declared.naming.Naming.TheVariants as naming
use Rattle.uimg_base.specs.Device.{Device}
use Rattle.uimg_base.specs.Lent.{Lent}
use Rattle.uimg_base.specs.declared.spans.Span.{Span}
use Rattle.uimg_base.specs.declared.source.SourceFault.{SourceFault}
use Rattle.uimg_blob_reading.specs.LookUps.{NodeOf}
use Rattle.uimg_blob_reading.specs.Spots.{Spot}
use Rattle.uimg_fit_base.specs.declared.fault.Fault.{Fault}
use Rattle.uimg_fit_base.specs.declared.fault.Fault.TheVariants as of
use Rattle.uimg_fit_base.specs.Faults.{Gives}
use Rattle.uimg_fit_base.specs.Places.{payload}
use Rattle.uimg_texts.specs.Slices.{slice}
use Rattle.uimg_fit_reading.specs.Values.{in_span}
use Rattle.uimg_fit_checking.specs.declared.checking.Finding.{Finding}
use Rattle.uimg_fit_checking.specs.declared.checking.Finding.TheVariants as fit_finding
use Rattle.uimg_fit_checking.specs.declared.wrong_hashes.WrongHash.{WrongHash}
use Rattle.uimg_fit_checking.specs.declared.checking.checked_payloads.Checked.{Checked}
use Rattle.uimg_fit_checking.specs.declared.checking.checked_payloads.Checked.TheVariants.{On}
use Rattle.uimg_fit_checking.specs.declared.checking.checked_payloads.Checked.TheVariants.{Ended}
use Rattle.uimg_fit_reading.specs.Allowances.{node_allowance}
use Rattle.uimg_fit_reading.specs.Work.{hashed_size}
use Rattle.uimg_fit_checking.specs.Checks.{NamedFinding, named_finding, EndsInside, wrong_in}
use Rattle.uimg_fit_checking.specs.Checks.{found_of}
use Rattle.uimg_fit_checking.specs.Checks.{image_finding, first_told}
use Rattle.uimg_texts.specs.declared.naming.Naming.{TheVariants.{Profile}}

-- the finding about an image with a hash node that is not right
abbrev pub wrong_told : List ℕ → List ℕ → WrongHash → NamedFinding
wrong_told file name found =
    fit_finding.Wrong name (slice file found.hash.place found.hash.length) found.word

-- The first hash node that is not right was found; at most 96 bytes were requested for each node.
pub record FindsWrongBetween (file message : List ℕ) (hs : List (NodeOf Spot)) (asked new : ℕ)
    (result : Result (Option WrongHash) SourceFault) : Type 0 where
  pub told : (name : List ℕ)
      → IfOk result (λ found. option_map (wrong_told file name) found ≡ wrong_in name message hs)
  pub short : IfOk result (λ found. IfSome found (λ w. w.hash.length ≤ 255))
  pub paid : new ≤ asked + 96 * length hs

abbrev pub FindsWrong : {S : Type 0} → List ℕ → List (NodeOf Spot)
    → Result (Option WrongHash) SourceFault → (S → Device) → Lent S → Type 0
FindsWrong message hs result device source =
    FindsWrongBetween (device source.entry.now).bytes message hs (device source.entry.now).asked
    (device source.exit.now).asked result

-- the result for an image: that `size` bytes of its payload were read, or the finding
abbrev pub IsChecked : List ℕ → ℕ → ℕ → Option NamedFinding → Checked → Type 0
IsChecked file left size told (On rest) = (told ≡ None) × (rest + size ≡ left)
IsChecked file left size told (Ended finding) = told ≡ Some (named_finding file finding)

-- the same, or the fault of its payload
abbrev pub TellsChecked : List ℕ → ℕ → ℕ → Result (Option NamedFinding) Fault → Result Checked Fault
    → Type 0
TellsChecked file left size told (Ok (On rest)) = (told ≡ Ok None) × (rest + size ≡ left)
TellsChecked file left size told (Ok (Ended finding)) =
    told ≡ Ok (Some (named_finding file finding))
TellsChecked file left size told (Err (of.Fit fault)) = told ≡ Err (of.Fit fault)
TellsChecked file left size told (Err (of.Blob fault at)) = ⊥
TellsChecked file left size told (Err _) = ⊤

-- how many bytes are left for the following images
abbrev pub left_of : {F : Type 0} → Result Checked F → ℕ
left_of (Ok (On rest)) = rest
left_of (Ok (Ended finding)) = 0
left_of (Err fault) = 0

-- each span of a finding ends within a file of this size
abbrev pub StaysInside : ℕ → Checked → Type 0
StaysInside size (On rest) = ⊤
StaysInside size (Ended finding) = EndsInside size finding

-- An image whose payload is known was checked; 12 bytes are left for finding the payload.
pub record ChecksPayloadBetween (file : List ℕ) (need : Option Algo) (left : ℕ)
    (image : NodeOf Spot) (message : List ℕ) (asked new : ℕ) (result : Result Checked SourceFault)
    : Type 0 where
  pub told : IfOk result
      (IsChecked file left (hashed_size naming.All image (Ok message)) (found_of need left image message))
  pub paid : new + left_of result + 12 ≤ asked + left + node_allowance Profile image

abbrev pub ChecksPayload : {S : Type 0} → Option Algo → ℕ → NodeOf Spot → Span
    → Result Checked SourceFault → (S → Device) → Lent S → Type 0
ChecksPayload need left found payload result device source =
    ChecksPayloadBetween (device source.entry.now).bytes need left found
    (in_span (device source.entry.now).bytes payload) (device source.entry.now).asked
    (device source.exit.now).asked result

-- An image was checked.
pub record ChecksImageBetween (file : List ℕ) (need : Option Algo) (left : ℕ) (image : NodeOf Spot)
    (asked new : ℕ) (result : Result Checked Fault) : Type 0 where
  pub told : TellsChecked file left (hashed_size naming.All image (payload file image))
      (image_finding need left image (payload file image)) result
  pub paid : new + left_of result ≤ asked + left + node_allowance Profile image

abbrev pub ChecksImage : {S : Type 0} → Option Algo → ℕ → NodeOf Spot → Result Checked Fault
    → (S → Device) → Lent S → Type 0
ChecksImage need left image result device source =
    ChecksImageBetween (device source.entry.now).bytes need left image
    (device source.entry.now).asked (device source.exit.now).asked result

-- Images were checked, up to the first finding.
pub record ChecksImagesBetween (file : List ℕ) (need : Option Algo) (found : List (NodeOf Spot))
    (asked new : ℕ) (result : Result (Option (Finding Span)) Fault) : Type 0 where
  pub told : Gives (option_map (named_finding file)) result
      (first_told need file (length file) found)
  pub paid : new ≤ asked + length file + sum_by (node_allowance Profile) found

abbrev pub ChecksImages : {S : Type 0} → Option Algo → List (NodeOf Spot)
    → Result (Option (Finding Span)) Fault → (S → Device) → Lent S → Type 0
ChecksImages need found result device source =
    ChecksImagesBetween (device source.entry.now).bytes need found (device source.entry.now).asked
    (device source.exit.now).asked result
