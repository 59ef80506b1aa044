use Rattle.std.proofs.Common.{rules, ◌≡◌, ℕ, List, Option, Bool, true, false, IsTrue, is_err, ap, sym, subst, ◌∙◌}
use Rattle.std.specs.{Bool.OnFalse, List.AllByRecursion}
use Rattle.uimg_base.specs.{Sink.Sink, Writing.Written}
use Rattle.uimg_blob_reading.specs.Plain.{Nodes}
use Rattle.uimg_blob_writing.specs.{Content.{Unread, AreKept, IsKept, files_in, in_full}, Encoding.encode_with}
use Rattle.uimg_blob_writing.specs.declared.blob_end.BlobEnd.{BlobEnd}
use Rattle.uimg_blob_writing.specs.declared.reservation.Reservation.{Reservation}
use Rattle.uimg_blob_writing.specs.{Layouts.{Plan, plan_with, totalsize}, Trees.node_of}
use Rattle.uimg_fit_building.specs.{Behind.behind_pieces, Building.{end_of, placed_with, behind_with}}
use Rattle.uimg_fit_building.specs.UnreadTrees.{moved_unread}
use Rattle.uimg_fit_building.proofs.KeptLaws.{kept-then}
use Rattle.uimg_fit_building.proofs.SendLaws.{Text, went_well, failed, goes, stops, refused, blob-sent, behind-sent}
use Rattle.uimg_fit_building.proofs.OpenedFilesLaws.{behind-files}
use Rattle.uimg_blob_writing.{specs.UsingFiles.OpensEach, proofs.OpenedLaws.{each_then, each_stops}}
use Rattle.uimg_fit_building.proofs.building.write_file.Goals as goal

-- the blob of a layout is that of its end
blob-by : (b : Bool) (s u : Sink) (rs : List Reservation) (t : Nodes) (p q : BlobEnd) → p ≡ q → Written b s u (encode_with p rs t) → Written b s u (encode_with q rs t)
blob-by b s u rs t p q same w = subst (λ (ending : BlobEnd). Written b s u (encode_with ending rs t)) same w

pub write_tree-requires : goal.write_tree-requires
write_tree-requires g c =
    c.requires.plan ∙ ap (λ (ending : BlobEnd). plan_with ending c.args.layout.now.reservations (node_of c.args.placed.now.root)) (sym (ap (λ (p : Plan). p.ending) c.requires.plan))

pub returns-in_err-write_tree-clause-sent : goal.returns-in_err-write_tree-clause-sent
returns-in_err-write_tree-clause-sent g c =
    let steady = g.F.Opened.Source.steady in
    let t = node_of c.args.tree.now.root in
    let placement = c.args.placement in
    let rs = c.args.layout.now.reservations in
    let m = g.F.Files.map c.args.files.now in
    let n = g.F.Files.map c.write_tree.new.files in
    let s = c.args.out.now in
    let u = c.write_tree.new.out in
    let e = c.in_err-write_tree.field-0.0 in
    let w = c.in_err-write_tree.ensures in
    let a : Text = λ files. placed_with rs (in_full files t) placement in
    let b : Text = λ files. behind_with rs (in_full files t) placement in
    refused steady t c.from_residual.result e m n s u _ c.from_residual.ensures.1
    (stops steady t e m n s u a b (blob-sent steady t rs placement (failed e) m n s u (node_of c.args.placed.now.root) c.requires.placed w.files w.faults w.found w.steady
    (λ honest kept. blob-by true s u rs _ _ _ (ap (λ (p : Plan). p.ending) c.requires.plan) (w.written honest kept))))

pub returns-clause-kept : goal.returns-clause-kept
returns-clause-kept g c = λ honest.
    let t = node_of c.args.tree.now.root in
    let placement = c.args.placement in
    let rs = c.args.layout.now.reservations in
    let size = c.totalsize.result in
    let m = g.F.Files.map c.args.files.now in
    let r = c.put_behind.result in
    let same = c.in_ok-write_tree.ensures.files.same in
    kept-then m.bytes r size t placement (subst (λ (u : Unread). AreKept m.bytes u) c.requires.placed (c.in_ok-write_tree.ensures.kept honest))
    (subst (λ (f : List ℕ → Option (List ℕ)). OnFalse (is_err r) (AllByRecursion (IsKept f) (behind_pieces size t placement))) same.bytes
    (c.put_behind.ensures.kept (subst IsTrue (sym same.honest) honest)))

pub returns-clause-sent : goal.returns-clause-sent
returns-clause-sent g c =
    let steady = g.F.Opened.Source.steady in
    let t = node_of c.args.tree.now.root in
    let placement = c.args.placement in
    let rs = c.args.layout.now.reservations in
    let m = g.F.Files.map c.args.files.now in
    let n = g.F.Files.map c.write_tree.new.files in
    let k = g.F.Files.map c.put_behind.new.files in
    let s = c.args.out.now in
    let u = c.write_tree.new.out in
    let v = c.put_behind.new.out in
    let r = c.put_behind.result in
    let w = c.in_ok-write_tree.ensures in
    let a : Text = λ files. placed_with rs (in_full files t) placement in
    let b : Text = λ files. behind_with rs (in_full files t) placement in
    let size : totalsize (plan_with (end_of placement) rs (moved_unread t placement)) ≡ c.totalsize.result =
    ap (λ (p : Unread). totalsize (plan_with (end_of placement) rs p)) (sym c.requires.placed) ∙ ap totalsize (sym c.requires.plan) ∙ sym c.totalsize.ensures in
    goes steady t r m n k s u v a b (blob-sent steady t rs placement went_well m n s u (node_of c.args.placed.now.root) c.requires.placed w.files w.faults w.found w.steady
    (λ honest kept. blob-by false s u rs _ _ _ (ap (λ (p : Plan). p.ending) c.requires.plan) (w.written honest kept)))
    (behind-sent steady t rs placement r n k u v c.totalsize.result size c.put_behind.ensures)

pub returns-in_err-write_tree-clause-opened : goal.returns-in_err-write_tree-clause-opened
returns-in_err-write_tree-clause-opened g c =
    let m = g.F.Files.map c.args.files.now in
    let n = g.F.Files.map c.write_tree.new.files in
    let failed : is_err c.from_residual.result ≡ true = search rules in
    rw failed (each_stops _ _ m n (subst (λ (u : Unread). OpensEach true (files_in u) m n) c.requires.placed c.in_err-write_tree.ensures.opened))

pub returns-clause-opened : goal.returns-clause-opened
returns-clause-opened g c =
    let m = g.F.Files.map c.args.files.now in
    let n = g.F.Files.map c.write_tree.new.files in
    let k = g.F.Files.map c.put_behind.new.files in
    let e = is_err c.put_behind.result in
    each_then e _ _ m n k (subst (λ (u : Unread). OpensEach false (files_in u) m n) c.requires.placed c.in_ok-write_tree.ensures.opened)
    (subst (λ (l : List (List ℕ)). OpensEach e l n k) (behind-files c.totalsize.result (node_of c.args.tree.now.root) c.args.placement) c.put_behind.ensures.opened)
