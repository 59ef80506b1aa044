use Rattle.std.proofs.Common.{rules, ◌≡◌, ◌++◌, codes, decimal}
use Rattle.uimg_printing.proofs.StepLaws.{after}
use Rattle.uimg_unpacking.proofs.objects.put_part.Goals as goal

pub returns : goal.returns
returns c =
    let name : c.as_str.result.now ≡ (codes "image-" ++ decimal c.args.number) = search rules in
    after c.in_ok-put_number.ensures (after c.in_ok-put_string.ensures (after c.in_ok-put_string-2.ensures
    (after (rw (name) at c.in_ok-put_file.ensures) c.in_ok-put_number-2.ensures)))
