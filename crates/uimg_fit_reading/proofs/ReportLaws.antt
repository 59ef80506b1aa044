-- The report on a file.
use Rattle.std.proofs.Common.{◌≡◌, ◌≤◌, ◌+◌, ◌*◌, ℕ, List, [], ◌∷◌, Some, refl, ap, sym, subst, arith}
use Rattle.std.specs.{Prelude.{Result, Ok, IfOk}, List.sum_by}
use Rattle.std.proofs.lemmas.List.Sums.{sum_by-cons}
use Rattle.uimg_base.specs.{Outcome.{Outcome, unless_refused, Tells}, Sink.Sink}
use Rattle.uimg_base.specs.declared.status.Status.{Status}
use Rattle.uimg_blob_reading.specs.{Blob.tree, Counts.{index_cost, nodes_met, texts_met}}
use Rattle.uimg_blob_reading.specs.{Grammar.Siblings, LookUps.{NodeOf, images}, Spots.{Spot, spots}}
use Rattle.uimg_blob_reading.specs.Reading.{Fault as BlobFaultAt}
use Rattle.uimg_texts.specs.declared.naming.Naming.TheVariants.{Profile}
use Rattle.uimg_fit_base.specs.{declared.fault.Fault.Fault, Faults.end_of, Files.images_of}
use Rattle.uimg_fit_base.specs.{Places.payload, Report.{report, verify_of}}
use Rattle.uimg_fit_base.proofs.FileLaws.{images_are}
use Rattle.uimg_fit_reading.specs.{Allowances.{node_allowance, allowance}, ImageReports.image_work}
use Rattle.uimg_fit_reading.specs.Work.{hashed_size, all_hashed, verify_work}
use Rattle.uimg_fit_reading.proofs.{AllowanceLaws.tree-paid, SharesLaws.images_allowed}
use Rattle.uimg_blob_reading.specs.Keys.{is_text}

-- the report on a file whose images are known
pub report_is : (file : List ℕ) (r : Result (List (NodeOf Spot)) Fault) → images_of file ≡ r → verify_of file ≡ unless_refused r (report file)
report_is file r is = ap (λ (x : Result (List (NodeOf Spot)) Fault). unless_refused x (report file)) is

-- the images of a tree
pub found_told : (file : List ℕ) (t : Siblings) (found : List (NodeOf Spot)) (result : Result Status Fault) (s u : Sink) → tree file ≡ Ok t → images (spots t) ≡ Some found
    → Tells (end_of result) (report file found) s u → Tells (end_of result) (verify_of file) s u
found_told file t found result s u is has tells =
    subst (λ (o : Outcome Fault). Tells (end_of result) o s u) (sym (report_is file (Ok found) (images_are file t (Some found) is has))) tells

parted : (file : List ℕ) (found : List (NodeOf Spot)) → sum_by (image_work file) found ≡ sum_by (λ image. hashed_size Profile image (payload file image)) found + sum_by (node_allowance Profile) found
parted file [] = refl
parted file (n ∷ ns) =
    omega (
      arith,
      sum_by-cons (image_work file) n ns,
      sum_by-cons (λ (image : NodeOf Spot). hashed_size Profile image (payload file image)) n ns,
      sum_by-cons (node_allowance Profile) n ns,
      parted file ns,
    )

-- what is asked for about the images is within the work
pub work_within : (file : List ℕ) (t : Siblings) (found : List (NodeOf Spot)) → tree file ≡ Ok t → images (spots t) ≡ Some found
    → index_cost file + sum_by (image_work file) found ≤ verify_work file
work_within file t found is has =
    let paid : allowance Profile (spots t) ≤ 760 * nodes_met file + 4 * texts_met is_text file =
    subst (λ (r : Result Siblings BlobFaultAt). IfOk r (λ (x : Siblings). allowance Profile (spots x) ≤ 760 * nodes_met file + 4 * texts_met is_text file)) is (tree-paid Profile file) in
    omega (
      arith,
      paid,
      parted file found,
      images_allowed Profile (spots t) found has,
      ap (all_hashed file) (images_are file t (Some found) is has),
    )
