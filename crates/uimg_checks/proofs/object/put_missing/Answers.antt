use Rattle.std.proofs.Common.{codes, ◌++◌, sym}
use Rattle.uimg_printing.specs.Members.{string_member, text_members}
use Rattle.uimg_printing.proofs.StepLaws.{after, appended_as, tokens_append}
use Rattle.uimg_checks.specs.Objects.{name_if}
use Rattle.uimg_checks.proofs.object.put_missing.Goals as goal

pub returns : goal.returns
returns c =
    appended_as _ _ _ _ (sym (tokens_append (name_if (codes "configuration") c.args.configuration) (string_member (codes "property") c.args.property.now ++ text_members (codes "name") c.args.name.now)))
    (after c.in_ok-put_name_if.ensures (after c.in_ok-put_string.ensures c.in_ok-put_text.ensures))
