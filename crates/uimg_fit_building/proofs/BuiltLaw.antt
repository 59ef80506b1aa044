-- What is built reads back, under each placement.
use Rattle.std.proofs.Common.{◌≡◌, ◌≤◌, ◌<◌, ◌^◌, ℕ, List, [], length, Some, None, Bool, true, false, nat_lt, if◌then◌else◌, refl, length-append, arith}
use Rattle.std.proofs.lemmas.Bool.{ltb-false}
use Rattle.uimg_blob_reading.specs.Plain.{Named, Nodes, no_node, a_node}
use Rattle.uimg_blob_writing.specs.{Encoding.encode_with, Measured.bad_name}
use Rattle.uimg_blob_writing.specs.declared.reservation.Reservation.{Reservation}
use Rattle.uimg_blob_writing.proofs.MeasuredLaws.{are_named}
use Rattle.uimg_fit_base.specs.declared.fault.FitFault.TheVariants.{PositionTooLow, TooLarge}
use Rattle.uimg_fit_base.specs.declared.placement.AlignedPlacement.{AlignedPlacement}
use Rattle.uimg_fit_base.specs.declared.placement.AlignedPlacement.TheVariants.{Inside, After, At}
use Rattle.uimg_fit_building.specs.{Filling.IsFilled, Building.{end_of, placed_with, built_with}}
use Rattle.uimg_fit_building.specs.{Refusing.{is_low, fault_with}, ReadsBack.ReadsBack}
use Rattle.uimg_fit_building.proofs.{InsideLaw.built-inside, OutsideLaw.{built-after, built-at}}

accepted : (a b c : Bool) → (if a then Some TooLarge else if b then Some PositionTooLow else if c then Some TooLarge else None) ≡ None → (a ≡ false) × (b ≡ false) × (c ≡ false)
accepted true b c h = absurd (cc)
accepted false true c h = absurd (cc)
accepted false false true h = absurd (cc)
accepted false false false h = (refl, refl, refl)

module _ (rs : List Reservation) (name : List ℕ) (own : List Named) (below : Nodes) where
  abbrev t : Nodes
  t = a_node name own below no_node

  fits : (placement : AlignedPlacement) → fault_with rs t placement ≡ None → length (built_with rs t placement) < 2 ^ 32
  unfolding fault_with
  fits placement h =
      let s = accepted (nat_lt 4294967295 (length (placed_with rs t placement))) (is_low (length (placed_with rs t placement)) placement) (nat_lt 4294967295 (length (built_with rs t placement))) h in
      let le : length (built_with rs t placement) ≤ 4294967295 = ltb-false _ _ s.2 in
      omega (arith, le)

  high : (p align : ℕ) → fault_with rs t (At p align) ≡ None → length (placed_with rs t (At p align)) ≤ p
  unfolding fault_with
  high p align h =
      let s = accepted (nat_lt 4294967295 (length (placed_with rs t (At p align)))) (nat_lt p (length (placed_with rs t (At p align)))) (nat_lt 4294967295 (length (built_with rs t (At p align)))) h in
      ltb-false _ _ s.1

  -- a filled tree that can be built is what is read of its file again
  pub reads_back : (placement : AlignedPlacement) → bad_name t ≡ None → IsFilled t → fault_with rs t placement ≡ None → ReadsBack (built_with rs t placement) t
  reads_back (Inside least) good filled ok =
      let small : length (encode_with (end_of (Inside least)) rs t) < 2 ^ 32 = omega (arith, fits (Inside least) ok, length-append (encode_with (end_of (Inside least)) rs t) []) in
      built-inside least rs name own below (are_named t good) small filled
  reads_back (After align) good filled ok = built-after align rs name own below (are_named t good) filled (fits (After align) ok)
  reads_back (At p align) good filled ok = built-at align rs name own below (are_named t good) filled p (high p align ok) (fits (At p align) ok)
