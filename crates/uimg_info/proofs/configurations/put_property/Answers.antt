use Rattle.std.proofs.Common.{codes, sym, ◌∙◌, arith}
use Rattle.uimg_blob_reading.specs.Places.{read_place}
use Rattle.uimg_printing.specs.Members.{number_member}
use Rattle.uimg_printing.proofs.StepLaws.{one, after, appended_as, object_appended, tokens_append}
use Rattle.uimg_info.specs.{Fit.{node_facts, property_members}, Members.facts_members}
use Rattle.uimg_info.proofs.WorkLaws.{asks_as}
use Rattle.uimg_info.proofs.configurations.put_property.Goals as goal

pub returns : goal.returns
returns g c =
    let place = c.args.place in
    let property = read_place (g.S.Source.device c.args.source.now).bytes place in
    let name = c.in_ok-put_rows.ensures in
    record {
      uses = asks_as (omega arith) name.uses;
      own = tt;
      before = c.end_object.ensures.room.0 ∙ c.in_ok-put_number.ensures.before ∙ name.before ∙ c.begin_object.ensures.room.0;
      told = λ honest.
          object_appended _ _ _ _ (property_members property)
          (one c.in_ok-begin_object.ensures.ok c.begin_object.ensures.room.0)
          (appended_as _ _ _ _ (sym (tokens_append (facts_members (node_facts property.name)) (number_member (codes "size") place.value.length)))
          (after (name.told honest) c.in_ok-put_number.ensures))
          (one c.in_ok-end_object.ensures.ok c.end_object.ensures.room.0);
    }
