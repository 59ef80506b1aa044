use Rattle.std.proofs.Common.{List, sym, subst}
use Rattle.std.specs.List.{AllByRecursion}
use Rattle.uimg_blob_reading.specs.Plain.{NamedOf}
use Rattle.uimg_blob_writing.specs.Content.{Content, IsBytes}
use Rattle.uimg_fit_updating.proofs.ImportLaws.{bytes_replaced}
use Rattle.uimg_fit_updating.proofs.importing.import_image.Goals as goal

pub returns-clause-in_memory : goal.returns-clause-in_memory
returns-clause-in_memory g c = λ all.
    let own = subst (AllByRecursion (λ (p : NamedOf Content). IsBytes p.value)) (sym c.replace-props.ensures.value) all.0 in
    (subst (AllByRecursion (λ (p : NamedOf Content). IsBytes p.value)) (sym c.in_ok-image.ensures) (bytes_replaced _ _ c.replace-props.result tt own), all.1, tt)
