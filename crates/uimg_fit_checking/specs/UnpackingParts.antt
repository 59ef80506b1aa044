-- Unpacking the payloads of a FIT image, one after the other.
use Rattle.std.specs.Prelude.{◌≡◌, ⊤, ℕ, ◌+◌, ◌<◌, ◌≤◌, ◌*◌, List, ◌++◌, length, Bool}
use Rattle.std.specs.Prelude.{true, false, ◌||◌, ◌⊎◌, if◌then◌else◌, IfOk, IsTrue, flat_map}
use Rattle.std.specs.Prelude.{Option, Some, None, Result, Ok, Err}
use Rattle.std.specs.List.{list_all}
use Rattle.std.specs.Option.{option_map}
use Rattle.uimg_sums.specs.declared.algo.Algo.{Algo}
use Rattle.uimg_base.specs.Lent.{Lent}
use Rattle.uimg_base.specs.Device.{Device}
use Rattle.uimg_base.specs.Held.{Held}
use Rattle.uimg_base.specs.Using.{Uses}
use Rattle.uimg_base.specs.declared.source.SourceFault.{SourceFault}
use Rattle.uimg_blob_reading.specs.LookUps.{NodeOf, hashes}
use Rattle.uimg_blob_reading.specs.Spots.{Spot}
use Rattle.uimg_fit_base.specs.declared.fault.Fault.{Fault}
use Rattle.uimg_fit_base.specs.declared.fault.Fault.TheVariants as of
use Rattle.uimg_fit_base.specs.declared.fault.FitFault.{FitFault}
use Rattle.uimg_fit_base.specs.Faults.{is_read, is_put, is_out_of_memory, is_of_making}
use Rattle.uimg_fit_base.specs.Places.{payload}
use Rattle.uimg_fit_reading.specs.Allowances.{allowance}
use Rattle.uimg_fit_reading.specs.Values.{in_span}
use Rattle.uimg_fit_checking.specs.declared.unpacking.node_names.NodeName.{NodeName}
use Rattle.uimg_fit_checking.specs.declared.unpacking.taker.Refusal.{Refusal}
use Rattle.uimg_fit_checking.specs.declared.unpacking.claims.Claim.{Claim}
use Rattle.uimg_fit_checking.specs.declared.unpacking.claims.Claim.TheVariants.{Fits, Overlaps}
use Rattle.uimg_fit_checking.specs.declared.unpacking.requested.Requested.{Requested}
use Rattle.uimg_fit_checking.specs.Checks.{wrong_in, or_weak}
use Rattle.uimg_fit_checking.specs.Claiming as Claiming
use Rattle.uimg_fit_checking.specs.Claiming.{ClaimsTo, claims}
use Rattle.uimg_fit_checking.specs.Unpacking.{Take, GivenFirst, Which, overlapping, is_asked, is_kept}
use Rattle.uimg_fit_checking.specs.Unpacking.{is_any, told_of, as_bytes, take_of}
use Rattle.uimg_texts.specs.declared.naming.Naming.{TheVariants.{Profile}}

-- The refusal of a payload was found, if any; at most 351 bytes were requested for each hash node.
pub record FindsRefusalBetween (need : Option Algo) (image : NodeOf Spot) (message : List ℕ)
    (asked new : ℕ) (result : Result (Option Refusal) SourceFault) : Type 0 where
  pub told : IfOk result
      (λ found. option_map (told_of image.name) found
      ≡ or_weak (wrong_in image.name message (hashes image)) need image)
  pub paid : new ≤ asked + 351 * length (hashes image)

abbrev pub FindsRefusal : {S : Type 0} → Option Algo → NodeOf Spot → List ℕ
    → Result (Option Refusal) SourceFault → (S → Device) → Lent S → Type 0
FindsRefusal need image message result device source =
    FindsRefusalBetween need image message (device source.entry.now).asked
    (device source.exit.now).asked result

-- Source and room are unchanged; the fault is neither refused memory nor one of building.
pub record LeavesImageBetween {X : Type 0} (result : Result X Fault) (d e : Device) (old new : Held)
    : Type 0 where
  pub uses : Uses (is_read result) d e
  pub room : new ≡ old
  pub memory : is_out_of_memory result ≡ false
  pub no_making : is_of_making result ≡ false

abbrev pub LeavesImage : {S X : Type 0} → Result X Fault → (S → Device) → Lent S → Lent Held
    → Type 0
LeavesImage result device source room =
    LeavesImageBetween result (device source.entry.now) (device source.exit.now) room.entry.now
    room.exit.now

-- The same, and the fault is not a failed write.
pub record ReadsOrRefusesBetween {X : Type 0} (result : Result X Fault) (d e : Device)
    (old new : Held) : Type 0 where
  pub uses : Uses (is_read result) d e
  pub room : new ≡ old
  pub no_put : is_put result ≡ false
  pub memory : is_out_of_memory result ≡ false
  pub no_making : is_of_making result ≡ false

abbrev pub ReadsOrRefuses : {S X : Type 0} → Result X Fault → (S → Device) → Lent S → Lent Held
    → Type 0
ReadsOrRefuses result device source room =
    ReadsOrRefusesBetween result (device source.entry.now) (device source.exit.now) room.entry.now
    room.exit.now

-- The payload is that of the image of this number, and ends within a file of this size.
pub record IsPayloadOf (image size : ℕ) (found : Requested) : Type 0 where
  pub number : found.image ≡ image
  pub inside : found.span.place + found.span.length ≤ size

-- The image is requested, and this is its payload.
pub record FindsPayload (only : Which) (file : List ℕ) (image : NodeOf Spot)
    (found : Requested) : Type 0 where
  pub asked : is_asked only image.name ≡ true
  pub named : as_bytes found.name ≡ image.name
  pub is : payload file image ≡ Ok (in_span file found.span)

-- What a result says of the payload of an image: where it is, if it is requested.
abbrev pub TellsFound : Which → List ℕ → NodeOf Spot → Result (Option Requested) Fault
    → Type 0
TellsFound only file image (Ok (Some found)) = FindsPayload only file image found
TellsFound only file image (Ok None) = is_asked only image.name ≡ false
TellsFound only file image (Err (of.Fit fault)) =
    (is_asked only image.name ≡ true) × (payload file image ≡ Err fault)
TellsFound only file image (Err (of.Blob fault at)) = ⊥
TellsFound only file image (Err fault) = ⊤

-- What a claim says of a requested payload, or of one that is not, if `left` bytes may be read.
abbrev pub Claims : ℕ → Option Requested → Claim → Type 0
Claims left None claim = claim ≡ Fits left
Claims left (Some found) (Fits rest) = rest + found.span.length ≡ left
Claims left (Some found) (Overlaps name) = (left < found.span.length) × (name ≡ found.name)

-- what claiming all images returns, by the definition
abbrev pub ClaimsAll : Result (Option (List ℕ)) FitFault → Result (Option NodeName) Fault → Type 0
ClaimsAll told (Ok found) = told ≡ Ok (option_map as_bytes found)
ClaimsAll told (Err (of.Fit fault)) = told ≡ Err fault
ClaimsAll told (Err (of.Blob fault at)) = ⊥
ClaimsAll told (Err fault) = ⊤

-- The images were claimed, up to the first with which payloads overlap.
pub record ClaimsImagesBetween (file : List ℕ) (only : Which) (found : List (NodeOf Spot))
    (asked new : ℕ) (result : Result (Option NodeName) Fault) (notes : Bool)
    (before after : List Claiming.Claim) : Type 0 where
  pub told : ClaimsAll (overlapping only file (length file) found) result
  pub paid : new ≤ asked + 267 * length found
  pub claimed : IsTrue notes → ClaimsTo (claims only file (length file) found) result before after

abbrev pub ClaimsImages : {S T : Type 0} → Which → List (NodeOf Spot)
    → Result (Option NodeName) Fault → (S → Device) → Lent S → Bool → (T → List Claiming.Claim)
    → Lent T → Type 0
ClaimsImages only found result device source notes claimed taker =
    ClaimsImagesBetween (device source.entry.now).bytes only found (device source.entry.now).asked
    (device source.exit.now).asked result notes (claimed taker.entry.now) (claimed taker.exit.now)

-- the most bytes requested for an image besides its payload, its name and its span
abbrev pub take_allowance : NodeOf Spot → ℕ
take_allowance image = 493 + allowance Profile image.below

-- What a result says of an image that was taken, or passed over if it is not requested.
abbrev pub TakesTo : (Take → List Take) → Bool → Take → Result Bool Fault
    → Result (List ℕ) FitFault → List Take → List Take → Type 0
TakesTo seen true one (Ok all) payload old new = (new ≡ old ++ seen one) × (all ≡ is_kept one)
TakesTo seen false one (Ok all) payload old new = (new ≡ old) × (all ≡ true)
TakesTo seen true one (Err (of.Fit fault)) payload old new = (new ≡ old) × (payload ≡ Err fault)
TakesTo seen false one (Err (of.Fit fault)) payload old new = ⊥
TakesTo seen asked one (Err (of.Blob fault at)) payload old new = ⊥
TakesTo seen asked one (Err of.Read) payload old new = new ≡ old
TakesTo seen true one (Err of.Put) payload old new = (new ≡ old) ⊎ (new ≡ old ++ seen one)
TakesTo seen false one (Err of.Put) payload old new = new ≡ old

-- What a result says of the payload of an image that is requested, the bytes in its span.
abbrev pub TakesRequested : (Take → List Take) → Option Algo → NodeOf Spot → Requested → List ℕ
    → Result Bool Fault → List Take → List Take → Type 0
TakesRequested seen need image found file result old new =
    as_bytes found.name ≡ image.name → (message : List ℕ) → message ≡ in_span file found.span
    → TakesTo seen true (take_of need image message) result (Ok message) old new

-- What a result says of such an image, whatever the taker does: whether it is kept; and whether a
-- payload was begun, before and after.
abbrev pub EndsImage : Bool → Take → Result Bool Fault → Result (List ℕ) FitFault → Bool → Bool
    → Type 0
EndsImage asked one (Ok all) payload old new =
    (all ≡ (if asked then is_kept one else true)) × (new ≡ (asked || old))
EndsImage asked one (Err (of.Fit fault)) payload old new = (asked ≡ true) × (payload ≡ Err fault)
EndsImage asked one (Err (of.Blob fault at)) payload old new = ⊥
EndsImage asked one (Err of.Read) payload old new = ⊤
EndsImage asked one (Err of.Put) payload old new = ⊤

-- how many bytes of a payload are read: none if its image is not requested
abbrev pub size_if : Bool → Result (List ℕ) FitFault → ℕ
size_if true (Ok message) = length message
size_if true (Err fault) = 0
size_if false payload = 0

-- A fact about images whose payloads have at most the file's length together.
abbrev pub Fitting : Which → List ℕ → List (NodeOf Spot) → Type 0 → Type 0
Fitting only file found P = overlapping only file (length file) found ≡ Ok None → P

-- Images were taken, or some of them if a device failed; no other fault is returned.
abbrev pub TakesAll : (Take → List Take) → List Take → Result Bool Fault → List Take → List Take
    → Type 0
TakesAll seen ts (Ok all) old new = (new ≡ old ++ flat_map seen ts) × (all ≡ list_all is_kept ts)
TakesAll seen ts (Err (of.Fit fault)) old new = ⊥
TakesAll seen ts (Err (of.Blob fault at)) old new = ⊥
TakesAll seen ts (Err fault) old new = GivenFirst seen old new ts

-- The result says whether each image is kept; no fault but that of a device is returned. A payload
-- was begun if there is one, or before.
abbrev pub EndsAll : List Take → Result Bool Fault → Bool → Bool → Type 0
EndsAll ts (Ok all) old new = (all ≡ list_all is_kept ts) × (new ≡ (is_any ts || old))
EndsAll ts (Err (of.Fit fault)) old new = ⊥
EndsAll ts (Err (of.Blob fault at)) old new = ⊥
EndsAll ts (Err fault) old new = ⊤
