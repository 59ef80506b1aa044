-- The result of a build of a FIT image from a tree.
use Rattle.std.specs.Prelude.{◌≡◌, List, Ok, IsTrue}
use Rattle.uimg_base.specs.{Device.Device, Lent.Lent, Outcome.Tells, Sink.Sink}
use Rattle.uimg_base.specs.declared.status.Status.{Status}
use Rattle.uimg_blob_reading.specs.Plain.{Nodes}
use Rattle.uimg_blob_writing.specs.declared.reservation.Reservation.{Reservation}
use Rattle.uimg_fit_base.specs.declared.placement.AlignedPlacement.{AlignedPlacement}
use Rattle.uimg_fit_building.specs.{BuildAnswers.CanBuildWith, Filling.IsFilled}
use Rattle.uimg_fit_building.specs.Building.{built_with}
use Rattle.uimg_fit_building.specs.ReadsBack.{ReadsBack}
use Rattle.uimg_texts.specs.declared.naming.Naming.{Naming}
use Rattle.uimg_engine.specs.{Faults.end_of, Headline.outcome_of}
use Rattle.uimg_requests.specs.declared.command.Action.TheVariants as Action
use Rattle.uimg_requests.specs.declared.command.Form.TheVariants as Form

-- The image of a tree with reservations is kept. If the tree is filled, it reads back.
pub record MakesOfTree (rs : List Reservation) (t : Nodes) (placement : AlignedPlacement)
    (kept : Device) : Type 0 where
  pub accepted : CanBuildWith rs t placement
  -- the source that is kept has the bytes of `built_with`
  pub bytes : kept.bytes ≡ built_with rs t placement
  pub honest : IsTrue kept.honest
  pub reads_back : IsFilled t → ReadsBack (built_with rs t placement) t

-- If what is kept is honest, exactly its listing was appended, with no fault.
abbrev pub ListsTreeBetween : {K : Type 0} → (K → Device) → Naming → Sink → Sink → K → Type 0
ListsTreeBetween device naming s t kept = IsTrue (device kept).honest → (status : Status)
    × Tells (end_of (Ok status))
    (outcome_of naming (record { action = Action.List; form = Form.Guess }) (device kept).bytes) s t

abbrev pub ListsTree : {K : Type 0} → (K → Device) → Naming → Lent Sink → K → Type 0
ListsTree device naming out kept = ListsTreeBetween device naming out.entry.now out.exit.now kept
