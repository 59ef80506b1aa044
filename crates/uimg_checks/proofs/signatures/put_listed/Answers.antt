use Rattle.std.proofs.Common.{[], codes, map, sym}
use Rattle.uimg_printing.specs.Members.{array_of}
use Rattle.uimg_printing.proofs.StepLaws.{after, appended_as, one, tokens_one}
use Rattle.uimg_checks.specs.Objects.{signature_json}
use Rattle.uimg_checks.proofs.signatures.put_listed.Goals as goal

pub returns : goal.returns
returns c =
    appended_as _ _ _ _ (sym (tokens_one [] [] (codes "signatures") (array_of (map signature_json c.args.signatures.now))))
    (after (one c.in_ok-key.ensures.ok c.key.ensures.room.0) c.in_ok-put_signatures.ensures)
