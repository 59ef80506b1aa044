use Rattle.std.proofs.Common.{rules, true, is_err, ◌≡◌, ◌<◌, ◌∙◌, ℕ, List, Bool, false, Option, Some, None, Err, length, map, set, get_or, arith, ap, refl, subst, sym, IsTrue}
use Rattle.std.{proofs.Math.ListN.length-set, specs.Bool.⊤}
use Rattle.uimg_blob_writing.specs.declared.tree.Node.{Node}
use Rattle.uimg_fit_building.specs.{Behind.entry, FillAnswers.{opens_no_file, fails_to_read}}
use Rattle.uimg_fit_building.specs.FillOrder.{IsPassed, IsImageRefused, FillsInOrder}
use Rattle.uimg_fit_building.specs.{PayloadSums.no_files, DigestBytes.zeroed_image}
use Rattle.uimg_fit_building.specs.ImageFillings.{filled_over, fault_in_memory, FillsImage, FillsImages, IsKeptImage}
use Rattle.uimg_fit_building.proofs.EachLaws.{same-at, rest-more, changed-more, agree-more, agree-all}
use Rattle.uimg_fit_building.proofs.DigestBytesLaws.{each-agrees}
use Rattle.uimg_fit_building.proofs.FillOrderLaws.{by-refusal, all-more, all-of, refused-before, order-refused}
use Rattle.uimg_fit_building.proofs.ImagesFillLaws.{images-refused, sound-more, entry-at, none-sound}
use Rattle.uimg_blob_writing.{specs.UsingFiles.OpensEach, proofs.OpenedLaws.each_none}
use Rattle.uimg_fit_building.{specs.OpenedFiles.summed_file, proofs.OpenedFilesLaws.{one-more, one-stops, all-opened}}
use Rattle.uimg_fit_building.proofs.filling.filled_images.fill_images.Goals as goal

pub loop-image-init : goal.loop-image-init
loop-image-init g c = record {
  long = refl;
  same = record { bytes = refl; honest = refl; complete = refl };
  opened = each_none false (g.F.Files.map c.args.files.now);
  refusals = refl;
  rest = refl;
  filled = λ honest. record { rest = refl; done = refl };
  sound = λ honest. none-sound c.args.naming;
  zeroed = refl;
  passed = λ honest. tt;
}

pub returns-in_err-fill_image-clause-opens : goal.returns-in_err-fill_image-clause-opens
returns-in_err-fill_image-clause-opens g c = record {
  files = search rules;
  found = λ complete all.
      let old = c.args.images.now in
      let now = c.loop-image.images in
      let i = c.loop-image.image-index in
      let d = c.image-item.result in
      let s = c.loop-image.invariant in
      let files = (g.F.Files.map c.args.files.now).bytes in
      let in_now : i < length now = omega arith in
      let in_old : i < length old = omega (arith, s.long) in
      let here : get_or now i d ≡ get_or old i d = same-at entry (filled_over c.args.naming files) old now i d in_old in_now s.rest in
      let kept = subst (λ (n : Node _). IsKeptImage files (entry n)) (sym here) (entry-at (IsKeptImage files) old i d in_old all) in
      by-refusal (λ r. opens_no_file r ≡ false) c.from_residual.result c.in_err-fill_image.field-0.0 c.from_residual.ensures.1
      (c.in_err-fill_image.ensures.opens.found (subst (λ (b : Bool). IsTrue b) (sym s.same.complete) complete)
      (subst (λ (b : List ℕ → Option (List ℕ)). IsKeptImage b (entry (get_or now i d))) (sym s.same.bytes) kept));
  steady = λ steady honest all.
      let old = c.args.images.now in
      let now = c.loop-image.images in
      let i = c.loop-image.image-index in
      let d = c.image-item.result in
      let s = c.loop-image.invariant in
      let files = (g.F.Files.map c.args.files.now).bytes in
      let in_now : i < length now = omega arith in
      let in_old : i < length old = omega (arith, s.long) in
      let here : get_or now i d ≡ get_or old i d = same-at entry (filled_over c.args.naming files) old now i d in_old in_now s.rest in
      let kept = subst (λ (n : Node _). IsKeptImage files (entry n)) (sym here) (entry-at (IsKeptImage files) old i d in_old all) in
      by-refusal (λ r. fails_to_read r ≡ false) c.from_residual.result c.in_err-fill_image.field-0.0 c.from_residual.ensures.1
      (c.in_err-fill_image.ensures.opens.steady steady (subst (λ (b : Bool). IsTrue b) (sym s.same.honest) honest)
      (subst (λ (b : List ℕ → Option (List ℕ)). IsKeptImage b (entry (get_or now i d))) (sym s.same.bytes) kept));
}

pub returns-in_err-fill_image-clause-filled : goal.returns-in_err-fill_image-clause-filled
returns-in_err-fill_image-clause-filled g c = λ honest.
    let old = c.args.images.now in
    let now = c.loop-image.images in
    let i = c.loop-image.image-index in
    let d = c.image-item.result in
    let s = c.loop-image.invariant in
    let files = (g.F.Files.map c.args.files.now).bytes in
    let new = entry c.fill_image.new.image in
    let in_now : i < length now = omega arith in
    let in_old : i < length old = omega (arith, s.long) in
    let here : get_or now i d ≡ get_or old i d = same-at entry (filled_over c.args.naming files) old now i d in_old in_now s.rest in
    let fault = c.in_err-fill_image.field-0.0 in
    let told = c.in_err-fill_image.ensures.filled (subst (λ (b : Bool). IsTrue b) (sym s.same.honest) honest) in
    let same = subst (λ (b : List ℕ → Option (List ℕ)). FillsImage {X = ⊤} c.args.naming b (entry (get_or now i d)) new (Err fault)) s.same.bytes told in
    by-refusal (λ r. FillsImages c.args.naming files (map entry old) (map entry (set now i c.fill_image.new.image)) r) c.from_residual.result fault c.from_residual.ensures.1
    (images-refused c.args.naming files old i d in_old (s.sound honest) ⊤ ⊤ new (map entry (set now i c.fill_image.new.image)) fault
    (subst (λ (n : Node _). FillsImage {X = ⊤} c.args.naming files (entry n) new (Err fault)) here same))

pub returns-in_err-fill_image-clause-order : goal.returns-in_err-fill_image-clause-order
returns-in_err-fill_image-clause-order g c = λ honest.
    let old = c.args.images.now in
    let now = c.loop-image.images in
    let i = c.loop-image.image-index in
    let d = c.image-item.result in
    let s = c.loop-image.invariant in
    let files = g.F.Files.map c.args.files.now in
    let steady = g.F.Opened.Source.steady in
    let in_now : i < length now = omega arith in
    let in_old : i < length old = omega (arith, s.long) in
    let here : get_or now i d ≡ get_or old i d = same-at entry (filled_over c.args.naming files.bytes) old now i d in_old in_now s.rest in
    let fault = c.in_err-fill_image.field-0.0 in
    let told = c.in_err-fill_image.ensures.order (subst (λ (b : Bool). IsTrue b) (sym s.same.honest) honest) in
    let same = refused-before c.args.naming files (g.F.Files.map c.loop-image.files) s.same steady (entry (get_or now i d)) fault told in
    by-refusal (λ r. FillsInOrder c.args.naming files steady (Some (map entry old)) r) c.from_residual.result fault c.from_residual.ensures.1
    (order-refused c.args.naming files steady old i d in_old (s.passed honest) ⊤ fault (subst (λ (n : Node _). IsImageRefused c.args.naming files steady (entry n) fault) here same))

pub loop-image-preserved : goal.loop-image-preserved
loop-image-preserved g c =
    let old = c.args.images.now in
    let now = c.loop-image.images in
    let i = c.loop-image.image-index in
    let d = c.image-item.result in
    let s = c.loop-image.invariant in
    let used = c.in_ok-fill_image.ensures.opens.files in
    let files = (g.F.Files.map c.args.files.now).bytes in
    let new = c.fill_image.new.image in
    let in_now : i < length now = omega arith in
    let in_old : i < length old = omega (arith, s.long) in
    let here : get_or now i d ≡ get_or old i d = same-at entry (filled_over c.args.naming files) old now i d in_old in_now s.rest in
    record {
      long = length-set now i new ∙ s.long;
      same = record { bytes = used.same.bytes ∙ s.same.bytes; honest = used.same.honest ∙ s.same.honest; complete = used.same.complete ∙ s.same.complete };
      opened = one-more old i d in_old (g.F.Files.map c.args.files.now) (g.F.Files.map c.loop-image.files) (g.F.Files.map c.fill_image.new.files) s.opened
          (subst (λ (n : Node _). OpensEach false (summed_file (entry n)) (g.F.Files.map c.loop-image.files) (g.F.Files.map c.fill_image.new.files)) here c.in_ok-fill_image.ensures.opened);
      refusals = used.refusals ∙ s.refusals;
      rest = rest-more old now i d new in_old in_now s.rest;
      filled = λ honest.
          let told = c.in_ok-fill_image.ensures.filled (subst (λ (b : Bool). IsTrue b) (sym s.same.honest) honest) in
          changed-more entry (filled_over c.args.naming files) old now i d new in_old in_now (s.filled honest)
          (told.1 ∙ ap (λ (b : List ℕ → Option (List ℕ)). filled_over c.args.naming b (entry (get_or now i d))) s.same.bytes ∙ ap (λ (n : Node _). filled_over c.args.naming files (entry n)) here);
      sound = λ honest.
          let told = c.in_ok-fill_image.ensures.filled (subst (λ (b : Bool). IsTrue b) (sym s.same.honest) honest) in
          sound-more c.args.naming old i d in_old (s.sound honest) (subst (λ (n : Node _). fault_in_memory c.args.naming (entry n) ≡ None) here told.0);
      zeroed = agree-more (λ (n : Node _). zeroed_image c.args.naming (entry n)) (λ (n : Node _). zeroed_image c.args.naming (filled_over c.args.naming no_files (entry n))) old now i d new in_old in_now s.zeroed
          (c.in_ok-fill_image.ensures.rest ∙ ap (λ (n : Node _). zeroed_image c.args.naming (filled_over c.args.naming no_files (entry n))) here);
      passed = λ honest.
          let told = c.in_ok-fill_image.ensures.order (subst (λ (b : Bool). IsTrue b) (sym s.same.honest) honest) in
          let same = subst (λ (b : List ℕ → Option (List ℕ)). IsPassed c.args.naming b (entry (get_or now i d))) s.same.bytes told in
          all-more (IsPassed c.args.naming files) old i d in_old (s.passed honest) (subst (λ (n : Node _). IsPassed c.args.naming files (entry n)) here same);
    }

pub returns-clause-order : goal.returns-clause-order
returns-clause-order g c = λ honest.
    let s = c.loop-image.invariant in
    all-of (IsPassed c.args.naming (g.F.Files.map c.args.files.now).bytes) c.args.images.now c.loop-image.image-index (omega (arith, s.long)) (s.passed honest)

pub returns-clause-rest : goal.returns-clause-rest
returns-clause-rest g c =
    let old = c.args.images.now in
    let now = c.loop-image.images in
    let s = c.loop-image.invariant in
    each-agrees (zeroed_image c.args.naming) (filled_over c.args.naming no_files) old now
    (agree-all (λ (n : Node _). zeroed_image c.args.naming (entry n)) (λ (n : Node _). zeroed_image c.args.naming (filled_over c.args.naming no_files (entry n))) old now c.loop-image.image-index
    (omega (arith, s.long)) (omega arith) s.zeroed)

pub returns-in_err-fill_image-clause-opened : goal.returns-in_err-fill_image-clause-opened
returns-in_err-fill_image-clause-opened g c =
    let old = c.args.images.now in
    let now = c.loop-image.images in
    let i = c.loop-image.image-index in
    let d = c.image-item.result in
    let s = c.loop-image.invariant in
    let m = g.F.Files.map c.loop-image.files in
    let n = g.F.Files.map c.fill_image.new.files in
    let in_now : i < length now = omega arith in
    let in_old : i < length old = omega (arith, s.long) in
    let here : get_or now i d ≡ get_or old i d = same-at entry (filled_over c.args.naming no_files) old now i d in_old in_now s.rest in
    let failed : is_err c.from_residual.result ≡ true = search rules in
    one-stops old (is_err c.from_residual.result) i d in_old (g.F.Files.map c.args.files.now) m n failed s.opened
    (subst (λ (n' : Node _). OpensEach true (summed_file (entry n')) m n) here c.in_err-fill_image.ensures.opened)

pub returns-clause-opened : goal.returns-clause-opened
returns-clause-opened g c =
    let s = c.loop-image.invariant in
    all-opened c.args.images.now c.loop-image.image-index _ _ (omega (arith, s.long)) s.opened
