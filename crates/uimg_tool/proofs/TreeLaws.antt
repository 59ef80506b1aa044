-- The image of an updated tree is kept where the image of its tree is.
use Rattle.std.proofs.Common.{◌≡◌, ◌≤◌, inl, inr, Bool, false, ℕ, List, [], Ok, Err, OnOk, Option, Result, Some, IsTrue, true, refl, subst, subst₂, sym, arith, true≢false}
use Rattle.std.specs.Prelude.{⊤}
use Rattle.std.specs.declared.io.Error.{Error}
use Rattle.uimg_base.specs.{Device.Device, Named.{FileMap, bytes_named}}
use Rattle.uimg_base.specs.declared.status.Status.{Status}
use Rattle.uimg_blob_reading.specs.Plain.{Nodes}
use Rattle.uimg_blob_writing.specs.Content.{AreKept, Unread, in_full}
use Rattle.uimg_blob_writing.specs.declared.reservation.Reservation.{Reservation}
use Rattle.uimg_compat.specs.declared.request.UpdateRequest.{UpdateRequest}
use Rattle.uimg_fit_base.specs.declared.placement.AlignedPlacement.{AlignedPlacement}
use Rattle.uimg_fit_building.specs.PayloadSums.{no_files}
use Rattle.uimg_fit_updating.specs.Updating.{IsUpdated}
use Rattle.uimg_tool.proofs.StatusLaws.{told_fails}
use Rattle.uimg_tool.specs.{MadeEnds.end_printed, Statuses.end_status}
use Rattle.uimg_tool.specs.TreesMade.{KeepsIn, KeepsTree, KeepsUpdated, MakesFrom, MakesKept, placed_by, update_time}
use Rattle.uimg_tool.specs.declared.request_fault.RequestFault.{RequestFault}
use Rattle.uimg_tool.specs.declared.tree_program.TreeRequest.{TreeRequest}

-- what no files in memory are seen as
abbrev nothing : FileMap
nothing = record {
  bytes = λ name. bytes_named name [];
  honest = true;
  complete = true;
  refusals = 0;
  opened = [];
}

over_nothing : (map : FileMap) (t : Unread) (P : Nodes → Type 0) → map ≡ nothing → (IsTrue map.honest → AreKept map.bytes t → P (in_full map.bytes t)) → AreKept no_files t → P (in_full no_files t)
over_nothing map t P is = subst (λ (m : FileMap). (IsTrue m.honest → AreKept m.bytes t → P (in_full m.bytes t)) → AreKept no_files t → P (in_full no_files t)) (sym is) (λ claim are. claim refl are)

moved : {K : Type 0} (device : K → Device) (asked : TreeRequest) (reserved : List Reservation) (placement : AlignedPlacement) (t : Nodes) → asked.reservations.now ≡ reserved → asked.placement ≡ placement → MakesKept device asked t → MakesFrom device reserved t placement
moved device asked reserved placement t reserves places made = subst₂ (λ (rs : List Reservation) (p : AlignedPlacement). MakesFrom device rs t p) reserves places made

no_zero : {told status : ℕ} → 1 ≤ told → status ≡ told → status ≡ 0 → ⊥
no_zero some is zero = omega (arith, some, is, zero)

-- what is kept in a new file is kept whether or not a request takes a device
pub in_new_file : {K N : Type 0} (in_place : Bool) (there : K → Device) (new : N → Device) (asked : TreeRequest) (t : Nodes) → MakesKept new asked t → KeepsIn in_place there new asked t
in_new_file true there new asked t made = inr made
in_new_file false there new asked t made = made

-- what is kept at a device is kept at status 0
pub at_device : {K N : Type 0} (in_place : Bool) (there : K → Device) (new : N → Device) (asked : TreeRequest) (t : Nodes) (end : Result Status RequestFault) (printed : Result ⊤ Error) (status : ℕ)
    → in_place ≡ true → status ≡ end_status (end_printed end printed) → status ≡ 0 → OnOk end (MakesKept there asked t) → KeepsIn in_place there new asked t
at_device false there new asked t end printed status at is zero made = absurd (true≢false (sym at))
at_device true there new asked t (Ok _) printed status at is zero made = inl made
at_device true there new asked t (Err fault) printed status at is zero made = absurd (no_zero (told_fails (Err fault) printed refl) is zero)

pub keeps_updated : {K N : Type 0} (there : K → Device) (new : N → Device) (asked : UpdateRequest) (files map : FileMap) (making : TreeRequest) (file : List ℕ) (nodes : Unread) (reserved : List Reservation) (size : ℕ) (time : Option ℕ)
    → files.bytes asked.image.now ≡ Some file → time ≡ update_time asked → IsUpdated file time nodes reserved size → making.reservations.now ≡ reserved → making.placement ≡ placed_by asked size → making.in_place ≡ false
    → map ≡ nothing → (IsTrue map.honest → AreKept map.bytes nodes → KeepsTree there new making (in_full map.bytes nodes)) → KeepsUpdated new asked files
keeps_updated there new asked files map making file nodes reserved size time has times updated reserves places beside none keeps = record {
  file = file;
  has = has;
  nodes = nodes;
  reserved = reserved;
  size = size;
  is = subst (λ (t : Option ℕ). IsUpdated file t nodes reserved size) times updated;
  kept = λ are. let made = over_nothing map nodes (KeepsTree there new making) none keeps are in
      moved new making reserved (placed_by asked size) (in_full no_files nodes) reserves places (subst (λ (b : Bool). KeepsIn b there new making (in_full no_files nodes)) beside made);
}
