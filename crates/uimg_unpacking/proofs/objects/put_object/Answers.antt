use Rattle.std.proofs.Common.{codes, ◌++◌, sym}
use Rattle.uimg_printing.specs.Members.{string_member}
use Rattle.uimg_printing.proofs.StepLaws.{one, after, appended_as, object_appended, tokens_append}
use Rattle.uimg_unpacking.specs.Objects.{members_of}
use Rattle.uimg_unpacking.proofs.objects.put_object.Goals as goal

pub returns : goal.returns
returns c =
    let path = string_member (codes "path") c.args.path.now in
    let members = members_of c.args.line.now in
    object_appended _ _ _ _ (path ++ members)
    (one c.in_ok-begin_object.ensures.ok c.begin_object.ensures.room.0)
    (appended_as _ _ _ _ (sym (tokens_append path members)) (after c.in_ok-put_string.ensures c.in_ok-put_line.ensures))
    (one c.in_ok-end_object.ensures.ok c.end_object.ensures.room.0)
