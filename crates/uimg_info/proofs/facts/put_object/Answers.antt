use Rattle.std.proofs.Common.{◌∙◌}
use Rattle.uimg_printing.proofs.StepLaws.{one, object_appended}
use Rattle.uimg_info.proofs.facts.put_object.Goals as goal

pub returns : goal.returns
returns g c = record {
  uses = c.in_ok-put_rows.ensures.uses;
  own = tt;
  before = c.end_object.ensures.room.0 ∙ c.in_ok-put_rows.ensures.before ∙ c.begin_object.ensures.room.0;
  told = λ honest. object_appended _ _ _ _ _
      (one c.in_ok-begin_object.ensures.ok c.begin_object.ensures.room.0)
      (c.in_ok-put_rows.ensures.told honest)
      (one c.in_ok-end_object.ensures.ok c.end_object.ensures.room.0);
}
