use Rattle.std.proofs.Common.{rules, true, is_err, ◌≡◌, ◌≤◌, ℕ, Bool, List, Some, None, Result, Ok, Err, ap, sym, subst, ◌∙◌, arith}
use Rattle.uimg_blob_writing.specs.declared.blob_end.BlobEnd.{BlobEnd}
use Rattle.uimg_blob_writing.specs.declared.reservation.Reservation.{Reservation}
use Rattle.uimg_blob_writing.specs.{Content.{Unread, in_full}, Trees.node_of}
use Rattle.uimg_blob_writing.specs.{declared.fault.TreeFault.TreeFault, Layouts.{Plan, plan_with, totalsize}}
use Rattle.uimg_fit_base.specs.{declared.fault.Fault.{Fault, TheVariants.Fit}, Placements.align_of}
use Rattle.uimg_fit_building.specs.Behind.{images_in, padded_sizes, end_fault}
use Rattle.uimg_fit_base.specs.declared.placement.AlignedPlacement.{AlignedPlacement}
use Rattle.uimg_base.specs.{Named.FileMap, Sink.Sink}
use Rattle.uimg_fit_building.specs.BuildSteps.{of_writing, MeasuresTree, WritesTextBetween}
use Rattle.uimg_fit_building.specs.Building.{built_with, end_of}
use Rattle.uimg_fit_building.proofs.BuildLaws.{refused, unmeasured, no_room, all-sent, not-sent, no-low}
use Rattle.uimg_blob_writing.proofs.OpenedLaws.{each_unopened}
use Rattle.uimg_fit_building.proofs.building.build_placed.Goals as goal

-- what measuring with an end tells of a tree that is placed
by-placement : (r : Result Plan Fault) (rs : List Reservation) {a b : BlobEnd} {t u : Unread} → a ≡ b → t ≡ u → MeasuresTree a rs r t → MeasuresTree b rs r u
by-placement r rs {b = b} {t = t} same is told = subst (λ (x : Unread). MeasuresTree b rs r x) is (subst (λ (e : BlobEnd). MeasuresTree e rs r t) same told)

pub returns-in_err-layout-clause-builds : goal.returns-in_err-layout-clause-builds
returns-in_err-layout-clause-builds g c =
    let steady = g.F.Opened.Source.steady in
    let rs = c.args.frame.reservations.now in
    let t = node_of c.args.tree.now.root in
    let m = g.F.Files.map c.args.files.now in
    let s = c.args.out.now in
    let e = c.in_err-layout.field-0.0 in
    refused steady rs t c.args.frame.placement c.from_residual.result e m m s s c.from_residual.ensures.1
    (unmeasured steady rs t c.args.frame.placement m s e (by-placement (Err e) rs c.end_of.ensures c.requires c.in_err-layout.ensures))

pub returns-in_err-check_payloads-clause-builds : goal.returns-in_err-check_payloads-clause-builds
returns-in_err-check_payloads-clause-builds g c =
    let steady = g.F.Opened.Source.steady in
    let rs = c.args.frame.reservations.now in
    let t = node_of c.args.tree.now.root in
    let m = g.F.Files.map c.args.files.now in
    let s = c.args.out.now in
    let p = c.in_ok-layout.layout in
    let f = c.in_err-check_payloads.field-0.0 in
    let is = by-placement (Ok p) rs c.end_of.ensures c.requires c.in_ok-layout.ensures in
    let small : totalsize p ≤ 4294967295 = omega (arith, c.totalsize.ensures, c.totalsize.type_inv) in
    let fault : end_fault (totalsize p) (padded_sizes (align_of c.args.frame.placement) (images_in t)) c.args.frame.placement ≡ Some f =
    ap (λ (n : ℕ). end_fault n (padded_sizes (align_of c.args.frame.placement) (images_in t)) c.args.frame.placement) (sym c.totalsize.ensures) ∙ sym c.in_err-check_payloads.ensures in
    refused steady rs t c.args.frame.placement c.from_residual-in_err-check_payloads.result (Fit f) m m s s c.from_residual-in_err-check_payloads.ensures.1
    (no_room steady rs t c.args.frame.placement m s p is small f fault)

-- the plan of a tree that was measured has its reservations
reserves : (rs : List Reservation) (a : BlobEnd) (t : Unread) (p : Plan) → plan_with a rs t ≡ p → rs ≡ p.reservations
reserves rs a t p h = ap (λ (q : Plan). q.reservations) h

pub write_file-requires-clause-plan : goal.write_file-requires-clause-plan
write_file-requires-clause-plan g c =
    let t = node_of c.args.placed.now.root in
    let rs = c.args.frame.reservations.now in
    let p = c.in_ok-layout.layout in
    let is = c.in_ok-layout.ensures.1 in
    sym is ∙ ap (λ (e : BlobEnd). plan_with e rs t) c.end_of.ensures
    ∙ ap (λ (l : List Reservation). plan_with (end_of c.args.frame.placement) l t) (reserves rs _ t p is)

-- what was sent of a tree, by the reservations of its plan
sent-by : (steady : Bool) (t : Unread) (placement : AlignedPlacement) (r : Result (Unit {0}) TreeFault) (m n : FileMap) (s u : Sink) (rs ps : List Reservation) → rs ≡ ps
    → WritesTextBetween steady t r m n s u (λ files. built_with ps (in_full files t) placement) → WritesTextBetween steady t r m n s u (λ files. built_with rs (in_full files t) placement)
sent-by steady t placement r m n s u rs ps same h = subst (λ (l : List Reservation). WritesTextBetween steady t r m n s u (λ files. built_with l (in_full files t) placement)) (sym same) h

pub write_file-requires-clause-high : goal.write_file-requires-clause-high
write_file-requires-clause-high g c =
    let room = padded_sizes (align_of c.args.frame.placement) (images_in (node_of c.args.tree.now.root)) in
    no-low (totalsize c.in_ok-layout.layout) room c.args.frame.placement (ap (λ (n : ℕ). end_fault n room c.args.frame.placement) (sym c.totalsize.ensures) ∙ sym c.in_ok-check_payloads.ensures)

pub returns-clause-builds : goal.returns-clause-builds
returns-clause-builds g c =
    let steady = g.F.Opened.Source.steady in
    let rs = c.args.frame.reservations.now in
    let t = node_of c.args.tree.now.root in
    let m = g.F.Files.map c.args.files.now in
    let n = g.F.Files.map c.write_file.new.files in
    let s = c.args.out.now in
    let u = c.write_file.new.out in
    let p = c.in_ok-layout.layout in
    let e = c.in-Err.fault in
    let is = by-placement (Ok p) rs c.end_of.ensures c.requires c.in_ok-layout.ensures in
    let small : totalsize p ≤ 4294967295 = omega (arith, c.totalsize.ensures, c.totalsize.type_inv) in
    let good : end_fault (totalsize p) (padded_sizes (align_of c.args.frame.placement) (images_in t)) c.args.frame.placement ≡ None =
    ap (λ (k : ℕ). end_fault k (padded_sizes (align_of c.args.frame.placement) (images_in t)) c.args.frame.placement) (sym c.totalsize.ensures) ∙ sym c.in_ok-check_payloads.ensures in
    refused steady rs t c.args.frame.placement (Err c.of_writing.result) (of_writing e) m n s u c.of_writing.ensures
    (not-sent steady rs t c.args.frame.placement m s p is small good n u e (sent-by steady t c.args.frame.placement (Err e) m n s u rs p.reservations (reserves rs _ _ p c.in_ok-layout.ensures.1) c.in-Err.ensures.sent))

pub returns-in-Ok-clause-builds : goal.returns-in-Ok-clause-builds
returns-in-Ok-clause-builds g c =
    let steady = g.F.Opened.Source.steady in
    let rs = c.args.frame.reservations.now in
    let t = node_of c.args.tree.now.root in
    let m = g.F.Files.map c.args.files.now in
    let n = g.F.Files.map c.write_file.new.files in
    let p = c.in_ok-layout.layout in
    let is = by-placement (Ok p) rs c.end_of.ensures c.requires c.in_ok-layout.ensures in
    let small : totalsize p ≤ 4294967295 = omega (arith, c.totalsize.ensures, c.totalsize.type_inv) in
    let good : end_fault (totalsize p) (padded_sizes (align_of c.args.frame.placement) (images_in t)) c.args.frame.placement ≡ None =
    ap (λ (k : ℕ). end_fault k (padded_sizes (align_of c.args.frame.placement) (images_in t)) c.args.frame.placement) (sym c.totalsize.ensures) ∙ sym c.in_ok-check_payloads.ensures in
    all-sent steady rs t c.args.frame.placement m c.args.out.now p is small good n c.write_file.new.out c.in-Ok.ensures.kept
    (sent-by steady t c.args.frame.placement (Ok tt) m n c.args.out.now c.write_file.new.out rs p.reservations (reserves rs _ _ p c.in_ok-layout.ensures.1) c.in-Ok.ensures.sent)

pub returns-in_err-layout-clause-opened : goal.returns-in_err-layout-clause-opened
returns-in_err-layout-clause-opened g c =
    let failed : is_err c.from_residual.result ≡ true = search rules in
    rw failed (each_unopened _ _)

pub returns-in_err-check_payloads-clause-opened : goal.returns-in_err-check_payloads-clause-opened
returns-in_err-check_payloads-clause-opened g c =
    let failed : is_err c.from_residual-in_err-check_payloads.result ≡ true = search rules in
    rw failed (each_unopened _ _)

pub returns-clause-opened : goal.returns-clause-opened
returns-clause-opened g c = c.in-Err.ensures.opened

pub returns-in-Ok-clause-opened : goal.returns-in-Ok-clause-opened
returns-in-Ok-clause-opened g c = c.in-Ok.ensures.opened
