use Rattle.std.proofs.Common.{codes, sym}
use Rattle.uimg_printing.specs.Members.{text_members}
use Rattle.uimg_printing.proofs.StepLaws.{after, appended_as, tokens_append}
use Rattle.uimg_checks.proofs.object.put_wrong.Goals as goal

pub returns : goal.returns
returns c =
    appended_as _ _ _ _ (sym (tokens_append (text_members (codes "image") c.args.image.now) (text_members (codes "hash") c.args.hash.now)))
    (after c.in_ok-put_text.ensures c.in_ok-put_text-2.ensures)
