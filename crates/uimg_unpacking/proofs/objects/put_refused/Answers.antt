use Rattle.std.proofs.Common.{codes, sym}
use Rattle.uimg_fit_base.specs.Report.{word_text}
use Rattle.uimg_fit_checking.specs.Unpacking.{as_bytes}
use Rattle.uimg_printing.specs.Members.{text_members}
use Rattle.uimg_printing.proofs.StepLaws.{after, appended_as, tokens_append}
use Rattle.uimg_unpacking.specs.Objects.{about_payload}
use Rattle.uimg_unpacking.proofs.objects.put_refused.Goals as goal

pub returns-in_ok-put_text-in-Wrong : goal.returns-in_ok-put_text-in-Wrong
returns-in_ok-put_text-in-Wrong c =
    rw (c.in-Wrong.is)
    (appended_as _ _ _ _ (sym (tokens_append (about_payload 1 (word_text c.in-Wrong.word) (as_bytes c.args.name.now)) (text_members (codes "hash") (as_bytes c.in-Wrong.hash))))
    (after (rw (c.word_text.ensures) at c.in_ok-put_about-in-Wrong.ensures) (rw (c.bytes.ensures) at c.in_ok-put_text-in-Wrong.ensures)))
