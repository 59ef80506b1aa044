use Rattle.std.proofs.Common.{◌++◌, sym}
use Rattle.uimg_printing.proofs.StepLaws.{one, after, appended_as, object_appended, tokens_append}
use Rattle.uimg_checks.specs.Objects.{about, first_members}
use Rattle.uimg_checks.proofs.object.put_object.Goals as goal

pub returns : goal.returns
returns c =
    object_appended _ _ _ _ (first_members c.args.path.now c.args.answer.now ++ about c.args.answer.now)
    (one c.in_ok-begin_object.ensures.ok c.begin_object.ensures.room.0)
    (appended_as _ _ _ _ (sym (tokens_append (first_members c.args.path.now c.args.answer.now) (about c.args.answer.now))) (after c.in_ok-put_head.ensures c.in_ok-put_about.ensures))
    (one c.in_ok-end_object.ensures.ok c.end_object.ensures.room.0)
