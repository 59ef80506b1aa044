use Rattle.std.proofs.Common.{◌∙◌, sym}
use Rattle.uimg_legacy.proofs.HeaderLaws.{head-ok}
use Rattle.uimg_legacy.proofs.header.read_header.Goals as goal

pub returns-clause-spelled : goal.returns-clause-spelled
returns-clause-spelled g c = λ honest.
    let found = head-ok _ _ (c.in_ok-bytes.ensures.gives honest) in
    c.fields.ensures.spelled found.1 (sym c.if-not-has_right_crc.ensures) ∙ found.0
