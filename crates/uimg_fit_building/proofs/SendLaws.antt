-- A blob that is written, and then what stands behind it.
use Rattle.std.proofs.Common.{◌≡◌, ℕ, List, ◌++◌, Option, Result, Ok, Err, Bool, false, IsTrue, is_err, ap, sym, subst, ◌∙◌}
use Rattle.std.specs.Result.{IsErrAnd}
use Rattle.uimg_base.specs.{Device.RisesIf, Named.FileMap, Sink.Sink, Writing.Written}
use Rattle.uimg_base.proofs.{SinkLaws.prefix_first, WritingLaws.written_then}
use Rattle.uimg_blob_writing.specs.{declared.fault.TreeFault.TreeFault, Encoding.encode_with}
use Rattle.uimg_blob_writing.specs.declared.reservation.Reservation.{Reservation}
use Rattle.uimg_blob_writing.specs.{Content.{Unread, AreKept, in_full}, UsingFiles.UsesFiles}
use Rattle.uimg_blob_writing.specs.{Faults.{is_no_file, is_put, is_read}, Pieces.WritesPieces}
use Rattle.uimg_blob_writing.{specs.Layouts.{plan_with, totalsize}, proofs.WritesLaws.rises-then}
use Rattle.uimg_fit_base.specs.declared.placement.AlignedPlacement.{AlignedPlacement}
use Rattle.uimg_fit_building.specs.{Behind.behind_pieces, Building.{end_of, placed_with, behind_with}}
use Rattle.uimg_fit_building.specs.{BuildSteps.WritesTextBetween, UnreadTrees.moved_unread}
use Rattle.uimg_fit_building.proofs.BehindLaws.{behind-kept, behind-joined}
use Rattle.uimg_fit_building.proofs.{BuildLaws.{placed-kept, placed-size}, UnreadLaws.moved-unread}

abbrev pub Answer : Type 0
Answer = Result (Unit {0}) TreeFault

abbrev pub failed : TreeFault → Answer
failed fault = Err fault

abbrev pub went_well : Answer
went_well = Ok tt

-- a text, by the bytes of files
abbrev pub Text : Type 0
Text = (List ℕ → Option (List ℕ)) → List ℕ

module _ (steady : Bool) (t : Unread) where
  -- the first text, and then the second
  pub goes : (r : Answer) (m n k : FileMap) (s u v : Sink) (a b : Text) → WritesTextBetween steady t went_well m n s u a → WritesTextBetween steady t r n k u v b → WritesTextBetween steady t r m k s v (λ files. a files ++ b files)
  goes r m n k s u v a b p q =
      let same = p.files.same in
      let later = q.files.same in
      record {
        files = record {
          same = record { bytes = later.bytes ∙ same.bytes; honest = later.honest ∙ same.honest; complete = later.complete ∙ same.complete };
          refusals = rises-then (is_no_file r) m.refusals n.refusals k.refusals p.files.refusals q.files.refusals;
        };
        faults = rises-then (is_put r) s.faults u.faults v.faults p.faults q.faults;
        found = λ complete kept. q.found (subst IsTrue (sym same.complete) complete) (subst (λ (f : List ℕ → Option (List ℕ)). AreKept f t) (sym same.bytes) kept);
        reads = λ always honest kept. q.reads always (subst IsTrue (sym same.honest) honest) (subst (λ (f : List ℕ → Option (List ℕ)). AreKept f t) (sym same.bytes) kept);
        written = λ honest kept.
            let second = q.written (subst IsTrue (sym same.honest) honest) (subst (λ (f : List ℕ → Option (List ℕ)). AreKept f t) (sym same.bytes) kept) in
            written_then (is_err r) s u v (a m.bytes) (b m.bytes) (p.written honest kept).all
            (subst (λ (f : List ℕ → Option (List ℕ)). Written (is_err r) u v (b f)) same.bytes second);
      }

  -- a failure in the first
  pub stops : (f : TreeFault) (m n : FileMap) (s u : Sink) (a b : Text) → WritesTextBetween steady t (failed f) m n s u a → WritesTextBetween steady t (failed f) m n s u (λ files. a files ++ b files)
  stops f m n s u a b p = record {
    files = p.files;
    faults = p.faults;
    found = p.found;
    reads = p.reads;
    written = λ honest kept. let first = p.written honest kept in record { all = first.all; prefix = prefix_first s u (a m.bytes) (b m.bytes) first.prefix };
  }

  pub refused : (r : Answer) (f : TreeFault) (m n : FileMap) (s u : Sink) (a : Text) → IsErrAnd r (λ e. e ≡ f) → WritesTextBetween steady t (failed f) m n s u a → WritesTextBetween steady t r m n s u a
  refused (Ok x) f m n s u a h p = absurd h
  refused (Err e) f m n s u a h p = subst (λ (g : TreeFault). WritesTextBetween steady t (failed g) m n s u a) (sym h) p

  module _ (rs : List Reservation) (placement : AlignedPlacement) (r : Answer) (m n : FileMap) (s u : Sink) where
    -- the blob of a tree whose payloads are placed
    pub blob-sent : (placed : Unread) → placed ≡ moved_unread t placement → UsesFiles (is_no_file r) m n → RisesIf (is_put r) s.faults u.faults
        → (IsTrue m.complete → AreKept m.bytes placed → is_no_file r ≡ false)
        → (IsTrue steady → IsTrue m.honest → AreKept m.bytes placed → is_read r ≡ false)
        → (IsTrue m.honest → AreKept m.bytes placed → Written (is_err r) s u (encode_with (end_of placement) rs (in_full m.bytes placed)))
        → WritesTextBetween steady t r m n s u (λ files. placed_with rs (in_full files t) placement)
    blob-sent placed is files faults found reads written = record {
      files = files;
      faults = faults;
      found = λ complete kept. found complete (all_kept kept);
      reads = λ always honest kept. reads always honest (all_kept kept);
      written = λ honest kept.
          subst (λ (w : List ℕ). Written (is_err r) s u w) (ap (λ (p : Unread). encode_with (end_of placement) rs (in_full m.bytes p)) is ∙ ap (encode_with (end_of placement) rs) (sym (moved-unread m.bytes t placement kept)))
          (written honest (all_kept kept));
    }
      where
        all_kept : AreKept m.bytes t → AreKept m.bytes placed
        all_kept kept = subst (λ (p : Unread). AreKept m.bytes p) (sym is) (placed-kept rs t placement m.bytes kept)

    -- what stands behind it
    pub behind-sent : (size : ℕ) → totalsize (plan_with (end_of placement) rs (moved_unread t placement)) ≡ size → WritesPieces steady r m n s u (behind_pieces size t placement) → WritesTextBetween steady t r m n s u (λ files. behind_with rs (in_full files t) placement)
    behind-sent size is p = record {
      files = p.files;
      faults = p.faults;
      found = λ complete kept. p.found complete (behind-kept m.bytes size t placement kept);
      reads = λ always honest kept. p.reads always honest (behind-kept m.bytes size t placement kept);
      written = λ honest kept.
          subst (λ (w : List ℕ). Written (is_err r) s u w) (behind-joined m.bytes rs size t placement kept (placed-size rs t placement m.bytes kept ∙ is)) (p.written honest);
    }
