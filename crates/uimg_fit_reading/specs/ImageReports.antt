-- Reports on images, one after the other.
use Rattle.std.specs.Prelude.{◌≡◌, ◌≤◌, ◌+◌, ℕ, List, if◌then◌else◌, Bool, true, false, Result, Ok}
use Rattle.std.specs.{Prelude.{Err, IfOk, is_err, Option}, List.sum_by}
use Rattle.uimg_texts.specs.declared.naming.Naming.TheVariants.{Profile}
use Rattle.uimg_base.specs.{Device.Device, Lent.Lent, Outcome.{Outcome, Tells}, Writing.Written}
use Rattle.uimg_base.specs.{Sink.{Sink, AppendsAll}, declared.spans.Span.Span}
use Rattle.uimg_base.specs.declared.{ranges.MoveFault.MoveFault, status.Status.Status}
use Rattle.uimg_base.specs.declared.status.Status.TheVariants.{Done, NotRight}
use Rattle.uimg_blob_reading.specs.{LookUps.{NodeOf, hashes}, Roles.in_images, Spots.Spot}
use Rattle.uimg_fit_base.specs.{declared.fault.Fault.Fault, Faults.end_of, Places.payload}
use Rattle.uimg_fit_base.specs.Report.{hash_lines, are_right, report_step, report}
use Rattle.uimg_fit_reading.specs.{declared.open_fit.OpenFit.OpenFit, Nodes.{OfNode, OfNodes}}
use Rattle.uimg_fit_reading.specs.{OpenFits.{file_of, InFit}, Values.in_span, Plans.are_compared}
use Rattle.uimg_fit_reading.specs.{Allowances.node_allowance, Work.hashed_size}

-- the status of a report
abbrev pub report_status : Bool → Status
report_status true = Done
report_status false = NotRight

-- an image whose payload was found was reported on; 12 bytes are left for finding the payload
pub record ReportsFoundBetween (image : NodeOf Spot) (message : List ℕ) (size asked new : ℕ)
    (result : Result Bool MoveFault) (old now : Sink) : Type 0 where
  pub right : IfOk result (λ right. right ≡ are_right message (hashes image))
  pub written : Written (is_err result) old now (hash_lines image.name message (hashes image))
  pub paid : new + 12 ≤ asked +
      ((if are_compared Profile (hashes image) then size else 0) + node_allowance Profile image)

-- The same of the image at a number.
abbrev pub ReportsFound : {S A : Type 0} → ℕ → Span → Result Bool MoveFault → (S → Device)
    → Lent (OpenFit S A) → Lent Sink → Type 0
ReportsFound number payload result device fit out =
    InFit device fit.entry.now OfNode in_images number
    (λ image. ReportsFoundBetween image (in_span (file_of device fit.entry.now) payload)
    payload.length (device fit.entry.now.source.now).asked (device fit.exit.now.source.now).asked
    result out.entry.now out.exit.now)

-- the most bytes requested for an image
abbrev pub image_work : List ℕ → NodeOf Spot → ℕ
image_work file image = hashed_size Profile image (payload file image) + node_allowance Profile image

-- An image was reported on.
pub record ImageDone (file : List ℕ) (image : NodeOf Spot) (asked new : ℕ) (right : Bool)
    (old now : Sink) : Type 0 where
  pub message : List ℕ
  pub is : payload file image ≡ Ok message
  pub all_right : right ≡ are_right message (hashes image)
  pub written : AppendsAll old now (hash_lines image.name message (hashes image))
  pub paid : new ≤ asked + image_work file image

-- The report ends at an image, whatever would come after it.
pub record ImageCut (file : List ℕ) (image : NodeOf Spot) (asked new : ℕ) (fault : Fault)
    (old now : Sink) : Type 0 where
  pub told : (rest : Outcome Fault)
      → Tells (end_of (Err fault)) (report_step image (payload file image) rest) old now
  pub paid : new ≤ asked + image_work file image

abbrev pub ReportsImageBetween : List ℕ → NodeOf Spot → ℕ → ℕ → Result Bool Fault → Sink → Sink
    → Type 0
ReportsImageBetween file image asked new (Ok right) old now =
    ImageDone file image asked new right old now
ReportsImageBetween file image asked new (Err fault) old now =
    ImageCut file image asked new fault old now

abbrev pub ReportsImage : {S A : Type 0} → ℕ → Result Bool Fault → (S → Device)
    → Lent (OpenFit S A) → Lent Sink → Type 0
ReportsImage number result device fit out = InFit device fit.entry.now OfNode in_images number
    (λ image. ReportsImageBetween (file_of device fit.entry.now) image
    (device fit.entry.now.source.now).asked (device fit.exit.now.source.now).asked result
    out.entry.now out.exit.now)

-- Images were reported on.
pub record ReportsImagesBetween (file : List ℕ) (found : List (NodeOf Spot)) (asked new : ℕ)
    (result : Result Status Fault) (old now : Sink) : Type 0 where
  pub told : Tells (end_of result) (report file found) old now
  pub paid : new ≤ asked + sum_by (image_work file) found

-- The same of the images from a number on.
abbrev pub ReportsImages : {S A : Type 0} → Option ℕ → Result Status Fault → (S → Device)
    → Lent (OpenFit S A) → Lent Sink → Type 0
ReportsImages first result device fit out = InFit device fit.entry.now OfNodes in_images first
    (λ found. ReportsImagesBetween (file_of device fit.entry.now) found
    (device fit.entry.now.source.now).asked (device fit.exit.now.source.now).asked result
    out.entry.now out.exit.now)
