use Rattle.uimg_legacy.proofs.HeaderLaws.{spelled-fields}
use Rattle.uimg_legacy.proofs.header.fields.Goals as goal

pub returns-clause-spelled : goal.returns-clause-spelled
returns-clause-spelled c = λ m right.
    rw (c.be32_at.ensures, c.be32_at-2.ensures, c.be32_at-3.ensures, c.be32_at-4.ensures, c.be32_at-5.ensures, c.copy_from_slice.ensures.after)
    (spelled-fields c.args.bytes.now c.told-bytes c.fits-bytes m right)
