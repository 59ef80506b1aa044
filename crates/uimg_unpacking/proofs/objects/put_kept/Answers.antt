use Rattle.std.proofs.Common.{◌++◌, sym}
use Rattle.uimg_fit_checking.specs.Unpacking.{as_bytes}
use Rattle.uimg_printing.proofs.StepLaws.{after, appended_as, tokens_append}
use Rattle.uimg_unpacking.specs.Objects.{about_payload, file_members, kept_verdict, vouched_members}
use Rattle.uimg_unpacking.proofs.objects.put_kept.Goals as goal

pub returns : goal.returns
returns c =
    let about = about_payload 0 (kept_verdict c.args.vouched) (as_bytes c.args.name.now) in
    let file = file_members c.args.file.0.now c.args.file.1 in
    let vouched = vouched_members c.args.vouched in
    appended_as _ _ _ _ (sym (tokens_append about (file ++ vouched)))
    (after (rw (c.kept_verdict.ensures) at c.in_ok-put_about.ensures) (appended_as _ _ _ _ (sym (tokens_append file vouched)) (after c.in_ok-put_file.ensures c.in_ok-put_vouched.ensures)))
