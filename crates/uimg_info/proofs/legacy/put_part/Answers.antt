use Rattle.std.proofs.Common.{codes, ◌++◌}
use Rattle.uimg_printing.specs.Members.{number_member}
use Rattle.uimg_printing.proofs.StepLaws.{one, after, object_appended}
use Rattle.uimg_info.proofs.legacy.put_part.Goals as goal

pub returns : goal.returns
returns c =
    object_appended _ _ _ _ (number_member (codes "offset") c.args.part.place ++ number_member (codes "size") c.args.part.length)
    (one c.in_ok-begin_object.ensures.ok c.begin_object.ensures.room.0)
    (after c.in_ok-put_number.ensures c.in_ok-put_number-2.ensures)
    (one c.in_ok-end_object.ensures.ok c.end_object.ensures.room.0)
