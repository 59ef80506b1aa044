-- Steps that fill images.
use Rattle.std.specs.{Prelude.{Bool, IsTrue, List, Option, Result}, List.AllByRecursion}
use Rattle.std.specs.Option.{IfSome}
use Rattle.uimg_texts.specs.declared.naming.Naming.{Naming}
use Rattle.uimg_base.specs.{Lent.Lent, Named.FileMap}
use Rattle.uimg_blob_reading.specs.LookUps.{NodeOf}
use Rattle.uimg_blob_writing.specs.Content.{Content}
use Rattle.uimg_fit_base.specs.declared.fault.FitFault.{FitFault}
use Rattle.uimg_fit_building.specs.{FillAnswers.OpensKept, FillOrder.FillsInOrder}
use Rattle.uimg_fit_building.specs.ImageFillings.{IsKeptImage}

-- What a call does that opens the files of images.
abbrev pub OpensImages : {F X : Type 0} → Bool → (F → FileMap) → Option (List (NodeOf Content))
    → Result X FitFault → Lent F → Type 0
OpensImages steady map found result files =
    OpensKept steady map (λ there. IfSome found (AllByRecursion (IsKeptImage there))) result files

-- Over honest files the result is that of filling the root's images in order.
abbrev pub AnswersInOrder : {F X : Type 0} → Naming → Bool → (F → FileMap)
    → Option (List (NodeOf Content)) → Result X FitFault → Lent F → Type 0
AnswersInOrder naming steady map found result files =
    IsTrue (map files.entry.now).honest
    → FillsInOrder naming (map files.entry.now) steady found result
