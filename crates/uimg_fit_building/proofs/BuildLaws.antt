-- What building does, step by step.
use Rattle.std.proofs.Common.{◌≡◌, ◌≤◌, ◌<◌, ℕ, List, [], ◌∷◌, length, Option, Some, None, Result, Ok, Err, Bool, true, false, IsTrue, nat_lt, if◌then◌else◌, refl, ap, sym, subst, ◌∙◌}
use Rattle.std.{specs.Option.option_or, proofs.lemmas.Bool.{lt-ltb, ltb-true}}
use Rattle.std.specs.Result.{IsErrAnd, OnOk}
use Rattle.uimg_base.specs.{Named.{FileMap, SameFiles}, Sink.Sink}
use Rattle.uimg_blob_reading.specs.declared.fault.BlobFault.{BlobFault}
use Rattle.uimg_blob_reading.specs.Plain.{NamedOf, NodesOf, no_node, a_node}
use Rattle.uimg_blob_reading.specs.declared.fault.BlobFault.TheVariants as blob
use Rattle.uimg_blob_writing.specs.{declared.fault.TreeFault.TreeFault, Encoding.encode_with}
use Rattle.uimg_blob_writing.specs.declared.blob_end.BlobEnd.{BlobEnd}
use Rattle.uimg_blob_writing.specs.declared.reservation.Reservation.{Reservation}
use Rattle.uimg_blob_writing.specs.Content.{Unread, AreKept, IsKept, content_bytes, in_full}
use Rattle.uimg_blob_writing.specs.Layouts.{Plan, plan_with, totalsize}
use Rattle.uimg_blob_writing.proofs.TotalLaws.{encode-size}
use Rattle.uimg_blob_writing.specs.declared.fault.TreeFault.TheVariants as tree
use Rattle.uimg_blob_writing.specs.Measured.{is_name, bad_property, bad_name, measured_with, measured_by, Measures}
use Rattle.uimg_fit_base.specs.declared.fault.Fault.{Fault, TheVariants.{Blob, Fit, Read, Put}}
use Rattle.uimg_fit_base.specs.{declared.fault.FitFault.FitFault, Placements.align_of}
use Rattle.uimg_fit_base.specs.declared.placement.AlignedPlacement.{AlignedPlacement}
use Rattle.uimg_fit_base.specs.declared.fault.FitFault.TheVariants.{NoImages, NoData, DataOutside, NoSuchImage, UnknownAlgo, PositionTooLow, TooLarge, OutOfMemory, NoFile, ReadFailed}
use Rattle.uimg_fit_building.specs.Behind.{images_in, padded_sizes, file_size, end_fault}
use Rattle.uimg_fit_building.specs.{BuildAnswers.{CanBuildWith, AnswersWith}, Filling.IsFilled}
use Rattle.uimg_fit_building.specs.{Building.{end_of, placed_with, built_with}, ReadsBack.ReadsBack}
use Rattle.uimg_fit_building.specs.{Refusing.{is_low, fault_with}, UnreadTrees.moved_unread}
use Rattle.uimg_fit_building.specs.BuildSteps.{of_measure, of_writing, MeasuresTree, WritesTextBetween, BuildsBetween}
use Rattle.uimg_fit_building.proofs.{BehindLaws.fault-same, BuiltLaw.reads_back}
use Rattle.uimg_fit_building.proofs.NamesLaw.{name-values, placed-names, placed-values}
use Rattle.uimg_fit_building.proofs.UnreadLaws.{moved-unread}

-- no bad name is told as a large blob

abbrev is_large : BlobFault → Bool
is_large blob.TooLarge = true
is_large _ = false

abbrev large_in : Option BlobFault → Bool
large_in None = false
large_in (Some f) = is_large f

or-large : (a b : Option BlobFault) → large_in a ≡ false → large_in b ≡ false → large_in (option_or a b) ≡ false
or-large None b h k = k
or-large (Some f) b h k = h

if-large : (good : Bool) (o : Option BlobFault) (f : BlobFault) → large_in o ≡ false → is_large f ≡ false → large_in (if good then o else Some f) ≡ false
if-large true o f h k = h
if-large false o f h k = k

property-large : {V : Type 0} (own : List (NamedOf V)) → large_in (bad_property own) ≡ false
unfolding bad_property
property-large [] = refl
property-large (p ∷ own) = if-large (is_name p.name) (bad_property own) blob.BadPropertyName (property-large own) refl

name-large : {V : Type 0} (t : NodesOf V) → large_in (bad_name t) ≡ false
unfolding bad_name
name-large no_node = refl
name-large (a_node name own below after) =
    if-large (is_name name) (option_or (bad_property own) (option_or (bad_name below) (bad_name after))) blob.BadNodeName
    (or-large (bad_property own) (option_or (bad_name below) (bad_name after)) (property-large own)
    (or-large (bad_name below) (bad_name after) (name-large below) (name-large after))) refl

-- what an answer of a measuring tells

abbrev answer : Option BlobFault → Plan → Result Plan BlobFault
answer o p = measured_with o p

bad-step : (b : Bool) (p : Plan) (f : BlobFault) → is_large f ≡ false → (let r : Result Plan BlobFault = if b then Err blob.TooLarge else Ok p in r) ≡ Err f → ⊥
bad-step true p f small e = let same : blob.TooLarge ≡ f = cc in let told : is_large f ≡ true = ap is_large (sym same) in cc
bad-step false p f small e = absurd (cc)

bad-told : (o : Option BlobFault) (p : Plan) (f : BlobFault) → is_large f ≡ false → answer o p ≡ Err f → o ≡ Some f
bad-told None p f small e = absurd (bad-step (nat_lt 4294967295 (totalsize p)) p f small e)
bad-told (Some g) p f small e = let same : g ≡ f = cc in ap (λ (x : BlobFault). let y : Option BlobFault = Some x in y) same

large-step : (b : Bool) (p : Plan) → (let r : Result Plan BlobFault = if b then Err blob.TooLarge else Ok p in r) ≡ Err blob.TooLarge → b ≡ true
large-step true p e = refl
large-step false p e = absurd (cc)

large-told : (o : Option BlobFault) (p : Plan) → large_in o ≡ false → answer o p ≡ Err blob.TooLarge → (o ≡ None) × (4294967295 < totalsize p)
large-told None p small e = (refl, ltb-true _ _ (large-step (nat_lt 4294967295 (totalsize p)) p e))
large-told (Some g) p small e = absurd (let same : g ≡ blob.TooLarge = cc in let told : is_large g ≡ true = ap is_large same in cc)

pub measured-err : (ending : BlobEnd) (rs : List Reservation) (t : Unread) (f : BlobFault) → Measures (Err f) (measured_by ending rs t) → MeasuresTree ending rs (Err (of_measure f)) t
measured-err ending rs t blob.TooShort e = (bad-told (bad_name t) (plan_with ending rs t) blob.TooShort refl e, refl)
measured-err ending rs t blob.BadMagic e = (bad-told (bad_name t) (plan_with ending rs t) blob.BadMagic refl e, refl)
measured-err ending rs t blob.BadVersion e = (bad-told (bad_name t) (plan_with ending rs t) blob.BadVersion refl e, refl)
measured-err ending rs t blob.BlockOutside e = (bad-told (bad_name t) (plan_with ending rs t) blob.BlockOutside refl e, refl)
measured-err ending rs t blob.BadToken e = (bad-told (bad_name t) (plan_with ending rs t) blob.BadToken refl e, refl)
measured-err ending rs t blob.Truncated e = (bad-told (bad_name t) (plan_with ending rs t) blob.Truncated refl e, refl)
measured-err ending rs t blob.BadNodeName e = (bad-told (bad_name t) (plan_with ending rs t) blob.BadNodeName refl e, refl)
measured-err ending rs t blob.BadNesting e = (bad-told (bad_name t) (plan_with ending rs t) blob.BadNesting refl e, refl)
measured-err ending rs t blob.BadPropertyName e = (bad-told (bad_name t) (plan_with ending rs t) blob.BadPropertyName refl e, refl)
measured-err ending rs t blob.TooLarge e = large-told (bad_name t) (plan_with ending rs t) (name-large t) e
measured-err ending rs t blob.OutOfMemory e = tt

-- a tree that is placed and one whose files are read, of the same tree
module _ (rs : List Reservation) (t : Unread) (placement : AlignedPlacement) where
  names : (files : List ℕ → Option (List ℕ)) → bad_name (moved_unread t placement) ≡ bad_name (in_full files t)
  names files = placed-names t placement ∙ sym (name-values (content_bytes files) t)

  pub placed-kept : (files : List ℕ → Option (List ℕ)) → AreKept files t → AreKept files (moved_unread t placement)
  placed-kept files kept = placed-values (IsKept files) (λ b. tt) t placement kept

  pub placed-size : (files : List ℕ → Option (List ℕ)) → AreKept files t → length (placed_with rs (in_full files t) placement) ≡ totalsize (plan_with (end_of placement) rs (moved_unread t placement))
  placed-size files kept = ap (λ u. length (encode_with (end_of placement) rs u)) (moved-unread files t placement kept) ∙ encode-size files (end_of placement) rs (moved_unread t placement) (placed-kept files kept)

  pub large-fault : (files : List ℕ → Option (List ℕ)) → AreKept files t → 4294967295 < totalsize (plan_with (end_of placement) rs (moved_unread t placement)) → fault_with rs (in_full files t) placement ≡ Some TooLarge
  unfolding fault_with
  large-fault files kept large =
      let over : nat_lt 4294967295 (length (placed_with rs (in_full files t) placement)) ≡ true = ap (λ (n : ℕ). nat_lt 4294967295 n) (placed-size files kept) ∙ lt-ltb _ _ large in
      rw over refl

same-map : (m : FileMap) → SameFiles m m
same-map m = record { bytes = refl; honest = refl; complete = refl }

-- an answer of building
abbrev pub Answer : Type 0
Answer = Result (Unit {0}) Fault

abbrev pub failed : Fault → Answer
failed fault = Err fault

abbrev pub went_well : Answer
went_well = Ok tt

module _ (steady : Bool) (rs : List Reservation) (t : Unread) (placement : AlignedPlacement) (m : FileMap) (s : Sink) where
  -- memory was refused
  pub out_of_memory : BuildsBetween steady rs t placement (failed (Fit OutOfMemory)) m m s s
  out_of_memory = record {
    files = record { same = same-map m; refusals = refl };
    found = λ complete kept. refl;
    reads = λ always honest kept. refl;
    faults = refl;
    untouched = λ before. refl;
    kept = λ honest. tt;
    told = λ honest kept. tt;
  }

  -- the tree can't be measured
  pub unmeasured : (e : Fault) → (let r : Result Plan Fault = Err e in MeasuresTree (end_of placement) rs r (moved_unread t placement)) → BuildsBetween steady rs t placement (failed e) m m s s
  unmeasured (Blob fault at) h = record {
    files = record { same = same-map m; refusals = refl };
    found = λ complete kept. refl;
    reads = λ always honest kept. refl;
    faults = refl;
    untouched = λ before. refl;
    kept = λ honest. tt;
    told = λ honest kept. (sym (names rs t placement m.bytes) ∙ h.0, h.1);
  }
  unmeasured (Fit OutOfMemory) h = out_of_memory
  unmeasured (Fit TooLarge) h = record {
    files = record { same = same-map m; refusals = refl };
    found = λ complete kept. refl;
    reads = λ always honest kept. refl;
    faults = refl;
    untouched = λ before. refl;
    kept = λ honest. tt;
    told = λ honest kept. (sym (names rs t placement m.bytes) ∙ h.0, large-fault rs t placement m.bytes kept h.1);
  }
  unmeasured (Fit NoImages) h = absurd h
  unmeasured (Fit NoData) h = absurd h
  unmeasured (Fit DataOutside) h = absurd h
  unmeasured (Fit NoSuchImage) h = absurd h
  unmeasured (Fit UnknownAlgo) h = absurd h
  unmeasured (Fit PositionTooLow) h = absurd h
  unmeasured (Fit NoFile) h = absurd h
  unmeasured (Fit ReadFailed) h = absurd h
  unmeasured Read h = absurd h
  unmeasured Put h = absurd h

  module _ (p : Plan) (is : (let r : Result Plan Fault = Ok p in MeasuresTree (end_of placement) rs r (moved_unread t placement))) (small : totalsize p ≤ 4294967295) where
    sized : (files : List ℕ → Option (List ℕ)) → AreKept files t → length (placed_with rs (in_full files t) placement) ≡ totalsize p
    sized files kept = placed-size rs t placement files kept ∙ ap totalsize is.1

    named : (files : List ℕ → Option (List ℕ)) → bad_name (in_full files t) ≡ None
    named files = sym (names rs t placement files) ∙ is.0

    fault-is : (files : List ℕ → Option (List ℕ)) → AreKept files t → fault_with rs (in_full files t) placement ≡ end_fault (totalsize p) (padded_sizes (align_of placement) (images_in t)) placement
    fault-is files kept = fault-same files rs (totalsize p) t placement kept (sized files kept) small

    chosen : (P : FitFault → Type 0) (b c : Bool) (f : FitFault) → (if b then Some PositionTooLow else if c then Some TooLarge else None) ≡ Some f → P PositionTooLow → P TooLarge → P f
    chosen P true c f e h k = subst P (let same : PositionTooLow ≡ f = cc in same) h
    chosen P false true f e h k = subst P (let same : TooLarge ≡ f = cc in same) k
    chosen P false false f e h k = absurd (cc)

    abbrev ToldBy : FitFault → Type 0
    ToldBy f = end_fault (totalsize p) (padded_sizes (align_of placement) (images_in t)) placement ≡ Some f → BuildsBetween steady rs t placement (failed (Fit f)) m m s s

    low-told : ToldBy PositionTooLow
    low-told e = record {
      files = record { same = same-map m; refusals = refl };
      found = λ complete kept. refl;
      reads = λ always honest kept. refl;
      faults = refl;
      untouched = λ before. refl;
      kept = λ honest. tt;
      told = λ honest kept. (named m.bytes, fault-is m.bytes kept ∙ e);
    }

    large-end-told : ToldBy TooLarge
    large-end-told e = record {
      files = record { same = same-map m; refusals = refl };
      found = λ complete kept. refl;
      reads = λ always honest kept. refl;
      faults = refl;
      untouched = λ before. refl;
      kept = λ honest. tt;
      told = λ honest kept. (named m.bytes, fault-is m.bytes kept ∙ e);
    }

    -- the payloads can't stand behind the blob
    pub no_room : (f : FitFault) → ToldBy f
    unfolding end_fault
    no_room f e = chosen ToldBy (is_low (totalsize p) placement) (nat_lt 4294967295 (file_size (totalsize p) (padded_sizes (align_of placement) (images_in t)) placement)) f e low-told large-end-told e

    module _ (good : end_fault (totalsize p) (padded_sizes (align_of placement) (images_in t)) placement ≡ None) (n : FileMap) (u : Sink) where
      can : AreKept m.bytes t → CanBuildWith rs (in_full m.bytes t) placement
      can kept = record { named = named m.bytes; fits = fault-is m.bytes kept ∙ good }

      abbrev Sent : Result (Unit {0}) TreeFault → Type 0
      Sent r = WritesTextBetween steady t r m n s u (λ files. built_with rs (in_full files t) placement)

      -- all was written
      pub all-sent : (IsTrue m.honest → AreKept m.bytes t) → Sent (Ok tt) → BuildsBetween steady rs t placement went_well m n s u
      all-sent are_kept w = record {
        files = w.files;
        found = λ complete kept. refl;
        reads = λ always honest kept. refl;
        faults = w.faults;
        untouched = λ before. absurd (not-true before);
        kept = λ honest. are_kept honest;
        told = λ honest kept. (can kept, (w.written honest kept).all);
      }
        where
          not-true : IsTrue false → ⊥
          not-true h = absurd (cc)

      -- a write, a read or an open failed
      pub not-sent : (f : TreeFault) → Sent (Err f) → BuildsBetween steady rs t placement (failed (of_writing f)) m n s u
      not-sent tree.Put w = record {
        files = w.files;
        found = λ complete kept. refl;
        reads = λ always honest kept. refl;
        faults = w.faults;
        untouched = λ before. absurd (let no_end : false ≡ true = before in cc);
        kept = λ honest. tt;
        told = λ honest kept. (can kept, (w.written honest kept).prefix);
      }
      not-sent tree.Read w = record {
        files = w.files;
        found = λ complete kept. refl;
        reads = w.reads;
        faults = w.faults;
        untouched = λ before. absurd (let no_end : false ≡ true = before in cc);
        kept = λ honest. tt;
        told = λ honest kept. (can kept, (w.written honest kept).prefix);
      }
      not-sent tree.NoFile w = record {
        files = w.files;
        found = w.found;
        reads = λ always honest kept. refl;
        faults = w.faults;
        untouched = λ before. absurd (let no_end : false ≡ true = before in cc);
        kept = λ honest. tt;
        told = λ honest kept. (can kept, (w.written honest kept).prefix);
      }

-- a refusal of a written tree, as an answer of building
pub refused : (steady : Bool) (rs : List Reservation) (t : Unread) (placement : AlignedPlacement) (r : Answer) (e : Fault) (m n : FileMap) (s u : Sink) → IsErrAnd r (λ x. x ≡ e) → BuildsBetween steady rs t placement (failed e) m n s u → BuildsBetween steady rs t placement r m n s u
refused steady rs t placement (Ok x) e m n s u h b = absurd h
refused steady rs t placement (Err f) e m n s u h b = subst (λ (x : Fault). BuildsBetween steady rs t placement (failed x) m n s u) (sym h) b

-- where the file of a filled tree was built, it reads back
pub on-built : (rs : List Reservation) (name : List ℕ) (own : List (NamedOf (List ℕ))) (below : NodesOf (List ℕ)) (placement : AlignedPlacement) (r : Answer) (s u : Sink) → (let t : NodesOf (List ℕ) = a_node name own below no_node in AnswersWith rs t placement r s u)
    → (let t : NodesOf (List ℕ) = a_node name own below no_node in IsFilled t) → OnOk r (let t : NodesOf (List ℕ) = a_node name own below no_node in ReadsBack (built_with rs t placement) t)
on-built rs name own below placement (Ok x) s u h filled = reads_back rs name own below placement h.0.named filled h.0.fits
on-built rs name own below placement (Err f) s u h filled = tt

low-step : (b c : Bool) → (if b then Some PositionTooLow else if c then Some TooLarge else None) ≡ None → b ≡ false
low-step true c e = absurd (cc)
low-step false c e = refl

-- where the payloads can stand behind the blob, they don't begin in it
pub no-low : (size room : ℕ) (placement : AlignedPlacement) → end_fault size room placement ≡ None → is_low size placement ≡ false
unfolding end_fault
no-low size room placement e = low-step (is_low size placement) (nat_lt 4294967295 (file_size size room placement)) e
