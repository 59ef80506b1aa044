-- Reporting on images, one more at a time.
use Rattle.std.proofs.Common.{◌≡◌, ◌≤◌, ◌+◌, ◌&&◌, ℕ, List, [], ◌∷◌, ◌++◌, length, Option, Some, None, Bool, true, false, if◌then◌else◌, codes, refl, ap, sym, ◌∙◌, subst, append_assoc, arith}
use Rattle.std.specs.{Prelude.{Result, Ok, Err, IfOk, is_err}, Option.is_some}
use Rattle.std.{specs.List.{flat_map, sum_by}, proofs.lemmas.List.Sums.sum_by-cons}
use Rattle.uimg_base.specs.Outcome.{End, done, not_right, refused, Outcome, told, after, line, Tells}
use Rattle.uimg_base.specs.{Sink.{Sink, AppendsPrefix}, Writing.Written}
use Rattle.uimg_base.specs.declared.{ranges.MoveFault.MoveFault, status.Status.Status}
use Rattle.uimg_base.proofs.OutcomeLaws.{Tells-after}
use Rattle.uimg_base.proofs.SinkLaws.{Appends-none, prefix_first, prefix_none}
use Rattle.uimg_blob_reading.specs.{Grammar.Siblings, LookUps.{NodeOf, hashes}, Roles.in_images}
use Rattle.uimg_blob_reading.{specs.Spots.Spot, proofs.PhaseLaws.true_false}
use Rattle.uimg_blob_reading.specs.Faults.{refuses_memory}
use Rattle.uimg_texts.specs.declared.naming.Naming.TheVariants.{Profile}
use Rattle.uimg_fit_base.specs.{declared.fault.Fault.Fault, Faults.{end_of, of_move, unless_memory}}
use Rattle.uimg_fit_base.specs.declared.fault.Fault.TheVariants.{Blob as OfBlob, Fit, Read, Put}
use Rattle.uimg_fit_base.specs.{declared.fault.FitFault.FitFault, Places.{payload, TellsPlace}}
use Rattle.uimg_fit_reading.specs.{Allowances.node_allowance, Nodes.{AreFrom, HashesAt}}
use Rattle.uimg_fit_reading.specs.{HashReports.{hash_cost, ReportsHashesBetween}, Work.hashed_size}
use Rattle.uimg_fit_reading.specs.Plans.{are_compared}
use Rattle.uimg_base.specs.declared.ranges.MoveFault.TheVariants as move
use Rattle.uimg_fit_reading.specs.ImageReports.{report_status, ReportsFoundBetween, image_work, ImageDone, ImageCut, ReportsImagesBetween}
use Rattle.uimg_fit_base.specs.Report.{hash_line, hash_lines, are_right, end_after, report_step, report}
use Rattle.uimg_fit_reading.proofs.{ImageLaws.none_left, PlanLaws.of_answer}
use Rattle.uimg_fit_reading.proofs.{SharesLaws.{hashes_allowed, one_text}, CompareLaws.compared_any}

-- an image without hash nodes
unhashed_line : (name message : List ℕ) (hs : List (NodeOf Spot)) → hs ≡ [] → name ++ line (codes " - none unhashed") ≡ hash_lines name message hs
unhashed_line name message hs none =
    sym (append_assoc name (codes " - none unhashed") (10 ∷ [])) ∙ sym (ap (hash_lines name message) none)

pub none_found : (image : NodeOf Spot) (name message : List ℕ) (size asked new : ℕ) (failed : Bool) (result : Result Bool MoveFault) (old now : Sink) → name ≡ image.name → hashes image ≡ []
    → IfOk result (λ right. right ≡ true) → is_err result ≡ failed → Written failed old now (name ++ line (codes " - none unhashed")) → new ≤ asked + 255
    → ReportsFoundBetween image message size asked new result old now
none_found image name message size asked new failed result old now named none right ends written paid = record {
  right = of_answer result _ _ (λ b is. is ∙ sym (ap (are_right message) none)) right;
  written = subst (λ (b : Bool). Written b old now (hash_lines image.name message (hashes image))) (sym ends)
      (subst (λ (w : List ℕ). Written failed old now w) (ap (λ (n : List ℕ). n ++ line (codes " - none unhashed")) named ∙ unhashed_line image.name message (hashes image) none) written);
  paid = omega (arith, paid);
}

hashed_lines : (name message : List ℕ) (hs : List (NodeOf Spot)) (h : NodeOf Spot) (more : List (NodeOf Spot)) → hs ≡ h ∷ more → flat_map (hash_line name message) hs ≡ hash_lines name message hs
hashed_lines name message hs h more are = ap (flat_map (hash_line name message)) are ∙ sym (ap (hash_lines name message) are)

-- what is asked for about a hash node is its allowance
one_cost : (n : ℕ) (h : NodeOf Spot) → n ≤ 255 → hash_cost n h ≤ node_allowance Profile h
one_cost n h few = omega (arith, few, one_text Profile h.own (codes "algo") refl)

all_costs : (n : ℕ) (hs : List (NodeOf Spot)) → n ≤ 255 → sum_by (hash_cost n) hs ≤ sum_by (node_allowance Profile) hs
all_costs n [] few = omega arith
all_costs n (h ∷ hs) few = omega (arith, sum_by-cons (hash_cost n) h hs, sum_by-cons (node_allowance Profile) h hs, one_cost n h few, all_costs n hs few)

pub some_found : (t : Siblings) (image : NodeOf Spot) (name message : List ℕ) (size n asked new : ℕ) (first : Option ℕ) (result : Result Bool MoveFault) (old now : Sink) → name ≡ image.name → n ≤ 255
    → is_some first ≡ true → HashesAt t first (hashes image) → ReportsHashesBetween name message size n (hashes image) asked new result old now
    → ReportsFoundBetween image message size asked new result old now
some_found t image name message size n asked new None result old now named few some at r = absurd (true_false (sym some))
some_found t image name message size n asked new (Some first) result old now named few some at r = record {
  right = r.right;
  written = subst (λ (w : List ℕ). Written (is_err result) old now w)
      (ap (λ (m : List ℕ). flat_map (hash_line m message) (hashes image)) named ∙ hashed_lines image.name message (hashes image) at.hash at.more at.are) r.written;
  paid = omega (arith, r.paid, all_costs n (hashes image) few, hashes_allowed Profile image);
}

-- the digests that are compared, and the payload's length
hashed_is : (file message : List ℕ) (image : NodeOf Spot) (size : ℕ) → payload file image ≡ Ok message → length message ≡ size
    → hashed_size Profile image (payload file image) ≡ (if are_compared Profile (hashes image) then size else 0)
hashed_is file message image size is long =
    ap (hashed_size Profile image) is ∙ ap (λ (b : Bool). if b then length message else 0) (compared_any Profile message (hashes image)) ∙ ap (λ (k : ℕ). if are_compared Profile (hashes image) then k else 0) long

-- what a failed device tells of an image, whatever comes after it
cut_tells : (fault : Fault) (image : NodeOf Spot) (message : List ℕ) (rest : Outcome Fault) (old now : Sink) → end_of (Err fault) ≡ None → AppendsPrefix old now (hash_lines image.name message (hashes image))
    → Tells (end_of (Err fault)) (report_step image (Ok message) rest) old now
cut_tells fault image message rest old now none prefix =
    subst (λ (e : Option (End Fault)). Tells e (report_step image (Ok message) rest) old now) (sym none) (prefix_first old now _ rest.text prefix)

-- no hash nodes begin nowhere
pub no_hashes : (t : Siblings) (first : Option ℕ) (hs : List (NodeOf Spot)) → is_some first ≡ false → HashesAt t first hs → hs ≡ []
no_hashes t None hs none at = at
no_hashes t (Some first) hs none at = absurd (true_false none)

failed_device : (fault : MoveFault) → end_of (Err (of_move fault)) ≡ None
failed_device move.Read = refl
failed_device move.Put = refl

-- what is told of an image whose payload is there
pub image_done : (file : List ℕ) (image : NodeOf Spot) (message : List ℕ) (size asked middle new : ℕ) (right : Bool) (old now : Sink) → payload file image ≡ Ok message → length message ≡ size
    → middle ≤ asked + 12 → ReportsFoundBetween image message size middle new (Ok right) old now → ImageDone file image asked new right old now
image_done file image message size asked middle new right old now is long paid r = record {
  message = message;
  is = is;
  all_right = r.right;
  written = r.written.all;
  paid = omega (arith, paid, r.paid, hashed_is file message image size is long);
}

pub image_failed : (file : List ℕ) (image : NodeOf Spot) (message : List ℕ) (size asked middle new : ℕ) (failed : MoveFault) (old now : Sink) → payload file image ≡ Ok message → length message ≡ size
    → middle ≤ asked + 12 → ReportsFoundBetween image message size middle new (Err failed) old now → ImageCut file image asked new (of_move failed) old now
image_failed file image message size asked middle new failed old now is long paid r = record {
  told = λ rest. subst (λ (p : Result (List ℕ) FitFault). Tells (end_of (Err (of_move failed))) (report_step image p rest) old now) (sym is)
      (cut_tells (of_move failed) image message rest old now (failed_device failed) r.written.prefix);
  paid = omega (arith, paid, r.paid, hashed_is file message image size is long);
}

-- what is told of an image whose payload is not there
place_tells : (file : List ℕ) (image : NodeOf Spot) (fault : Fault) (rest : Outcome Fault) (s : Sink) → TellsPlace file image (Err fault) → Tells (end_of (Err fault)) (report_step image (payload file image) rest) s s
place_tells file image (OfBlob fault at) rest s tells = absurd tells
place_tells file image (Fit fault) rest s tells =
    subst (λ (p : Result (List ℕ) FitFault). Tells (Some (refused (Fit fault))) (report_step image p rest) s s) (sym tells) (refl, record { appended = Appends-none s.contents })
place_tells file image Read rest s tells = prefix_none s _
place_tells file image Put rest s tells = prefix_none s _

pub image_cut : (file : List ℕ) (image : NodeOf Spot) (asked new : ℕ) (fault : Fault) (s : Sink) → TellsPlace file image (Err fault) → new ≤ asked + 12 → ImageCut file image asked new fault s s
image_cut file image asked new fault s tells paid = record { told = λ rest. place_tells file image fault rest s tells; paid = omega (arith, paid) }

-- an outcome, where what stands before it was right or not
abbrev pub judged_after : Bool → Outcome Fault → Outcome Fault
judged_after right o = record { text = o.text; end = end_after right o.end }

-- What is told of the images that are left is told of all.
pub record ImagesLeft (t : Siblings) (file : List ℕ) (found : List (NodeOf Spot)) (asked new : ℕ) (old now : Sink) (right : Bool) (next : Option ℕ) : Type 0 where
  pub left : List (NodeOf Spot)
  pub from : AreFrom t in_images next left
  pub told : (e : Option (End Fault)) (s : Sink) → Tells e (judged_after right (report file left)) now s → Tells e (report file found) old s
  pub paid : new + sum_by (image_work file) left ≤ asked + sum_by (image_work file) found

pub all_images : (t : Siblings) (file : List ℕ) (found : List (NodeOf Spot)) (asked : ℕ) (s : Sink) (next : Option ℕ) → AreFrom t in_images next found → ImagesLeft t file found asked asked s s true next
all_images t file found asked s next from = record { left = found; from = from; told = λ e u tells. tells; paid = omega arith }

both_ends : (a b : Bool) (e : End Fault) → end_after a (end_after b e) ≡ end_after (a && b) e
both_ends true b e = refl
both_ends false true e = refl
both_ends false false done = refl
both_ends false false not_right = refl
both_ends false false (refused f) = refl

-- an image, and the others
report_more : (file : List ℕ) (image : NodeOf Spot) (more : List (NodeOf Spot)) → report file (image ∷ more) ≡ report_step image (payload file image) (report file more)
unfolding report
report_more file image more = refl

report_none : (file : List ℕ) → report file [] ≡ told [] done
unfolding report
report_none file = refl

-- one image was reported on
step_done : (file : List ℕ) (image : NodeOf Spot) (left more : List (NodeOf Spot)) (message : List ℕ) (a b : Bool) → left ≡ image ∷ more → payload file image ≡ Ok message → b ≡ are_right message (hashes image)
    → judged_after a (report file left) ≡ after (hash_lines image.name message (hashes image)) (judged_after (a && b) (report file more))
step_done file image left more message a b are is right =
    let lines : List ℕ = hash_lines image.name message (hashes image) in
    let rest : Outcome Fault = report file more in
    ap (λ (l : List (NodeOf Spot)). judged_after a (report file l)) are
    ∙ ap (judged_after a) (report_more file image more)
    ∙ ap (λ (p : Result (List ℕ) FitFault). judged_after a (report_step image p rest)) is
    ∙ ap (λ (e : End Fault). told (lines ++ rest.text) e) (both_ends a (are_right message (hashes image)) rest.end)
    ∙ ap (λ (c : Bool). after lines (judged_after (a && c) rest)) (sym right)

pub images_more : (t : Siblings) (file : List ℕ) (found : List (NodeOf Spot)) (asked new : ℕ) (old now : Sink) (right : Bool) (next : Option ℕ) (k : ImagesLeft t file found asked new old now right next)
    → (image : NodeOf Spot) (more : List (NodeOf Spot)) → k.left ≡ image ∷ more → (later : ℕ) (further : Sink) (following : Option ℕ) (b : Bool)
    → ImageDone file image new later b now further → AreFrom t in_images following more → ImagesLeft t file found asked later old further (right && b) following
images_more t file found asked new old now right next k image more are later further following b d from = record {
  left = more;
  from = from;
  told = λ e s tells. k.told e s (subst (λ (o : Outcome Fault). Tells e o now s) (sym (step_done file image k.left more d.message right b are d.is d.all_right))
      (Tells-after e (judged_after (right && b) (report file more)) now further s (hash_lines image.name d.message (hashes image)) d.written tells));
  paid = omega (arith, k.paid, d.paid, ap (sum_by (image_work file)) are, sum_by-cons (image_work file) image more);
}

-- a refusal is the end, whatever stood before
unless_told : (memory a : Bool) (f : Fault) (o : Outcome Fault) (s u : Sink) → Tells (unless_memory memory (refused f)) o s u → Tells (unless_memory memory (refused f)) (judged_after a o) s u
unless_told true a f o s u tells = tells
unless_told false true f o s u tells = tells
unless_told false false f o s u tells = (ap (end_after false) tells.0, tells.1)

cut_judged : (fault : Fault) (a : Bool) (o : Outcome Fault) (s u : Sink) → Tells (end_of (Err fault)) o s u → Tells (end_of (Err fault)) (judged_after a o) s u
cut_judged (OfBlob fault at) a o s u tells = unless_told (refuses_memory fault) a (OfBlob fault at) o s u tells
cut_judged (Fit fault) a o s u tells = unless_told false a (Fit fault) o s u tells
cut_judged Read a o s u tells = tells
cut_judged Put a o s u tells = tells

pub images_cut : (t : Siblings) (file : List ℕ) (found : List (NodeOf Spot)) (asked new : ℕ) (old now : Sink) (right : Bool) (next : Option ℕ) (k : ImagesLeft t file found asked new old now right next)
    → (image : NodeOf Spot) (more : List (NodeOf Spot)) → k.left ≡ image ∷ more → (later : ℕ) (fault : Fault) (further : Sink) → ImageCut file image new later fault now further
    → ReportsImagesBetween file found asked later (Err fault) old further
images_cut t file found asked new old now right next k image more are later fault further d = record {
  told = k.told (end_of (Err fault)) further
      (subst (λ (o : Outcome Fault). Tells (end_of (Err fault)) (judged_after right o) now further)
      (sym (ap (report file) are ∙ report_more file image more)) (cut_judged fault right _ now further (d.told (report file more))));
  paid = omega (arith, k.paid, d.paid, ap (sum_by (image_work file)) are, sum_by-cons (image_work file) image more);
}

-- no image is left
done_tells : (right : Bool) (s : Sink) → Tells (end_of (Ok (report_status right))) (judged_after right (told [] done)) s s
done_tells true s = (refl, record { appended = Appends-none s.contents })
done_tells false s = (refl, record { appended = Appends-none s.contents })

pub images_done : (t : Siblings) (file : List ℕ) (found : List (NodeOf Spot)) (asked new : ℕ) (old now : Sink) (right : Bool) (next : Option ℕ) → next ≡ None → (status : Status) → status ≡ report_status right
    → ImagesLeft t file found asked new old now right next → ReportsImagesBetween file found asked new (Ok status) old now
images_done t file found asked new old now right next none status is k =
    let nothing : k.left ≡ [] = none_left t in_images k.left (subst (λ (o : Option ℕ). AreFrom t in_images o k.left) none k.from) in
    record {
      told = subst (λ (s : Status). Tells (end_of (Ok s)) (report file found) old now) (sym is)
          (k.told (end_of (Ok (report_status right))) now
          (subst (λ (o : Outcome Fault). Tells (end_of (Ok (report_status right))) (judged_after right o) now now) (sym (ap (report file) nothing ∙ report_none file)) (done_tells right now)));
      paid = omega (arith, k.paid);
    }
